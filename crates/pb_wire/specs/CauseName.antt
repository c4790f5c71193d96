-- The numbers and the names of causes.
use Rattle.std.specs.Prelude.{ℕ, List, codes}
use Rattle.pb_wire.specs.declared.fault.Cause.{Cause}
use Rattle.pb_wire.specs.declared.fault.Cause.TheVariants.{Truncated, PastEnd, VarintTooLong, TagTooLarge, NumberZero, BadType}
use Rattle.pb_wire.specs.declared.fault.Cause.TheVariants.{StrayEnd, WrongEnd, LengthTooLarge, BadText, TooDeep, InputTooLarge}
use Rattle.pb_wire.specs.declared.fault.RawError.{RawError}
use Rattle.pb_wire.specs.declared.fault.RawError.TheVariants as raw

abbrev pub number_of : Cause → ℕ
number_of Truncated = 1
number_of PastEnd = 2
number_of VarintTooLong = 3
number_of TagTooLarge = 4
number_of NumberZero = 5
number_of BadType = 6
number_of StrayEnd = 7
number_of WrongEnd = 8
number_of LengthTooLarge = 9
number_of BadText = 10
number_of TooDeep = 11
number_of InputTooLarge = 12

abbrev pub name_of : Cause → List ℕ
name_of Truncated = codes "Truncated"
name_of PastEnd = codes "PastEnd"
name_of VarintTooLong = codes "VarintTooLong"
name_of TagTooLarge = codes "TagTooLarge"
name_of NumberZero = codes "NumberZero"
name_of BadType = codes "BadType"
name_of StrayEnd = codes "StrayEnd"
name_of WrongEnd = codes "WrongEnd"
name_of LengthTooLarge = codes "LengthTooLarge"
name_of BadText = codes "BadText"
name_of TooDeep = codes "TooDeep"
name_of InputTooLarge = codes "InputTooLarge"

abbrev pub raw_number_of : RawError → ℕ
raw_number_of (raw.Fault byte path cause) = 13
raw_number_of raw.Memory = 14
