-- What was expected where bytes are refused, by the cause.
use Rattle.std.specs.Prelude.{ℕ, List, ◌++◌, codes}
use Rattle.pb_wire.specs.declared.fault.Cause.{Cause}
use Rattle.pb_wire.specs.declared.fault.Cause.TheVariants.{Truncated, PastEnd, VarintTooLong, TagTooLarge, NumberZero, BadType}
use Rattle.pb_wire.specs.declared.fault.Cause.TheVariants.{StrayEnd, WrongEnd, LengthTooLarge, BadText, TooDeep, InputTooLarge}

abbrev pub expected_of : Cause → List ℕ
expected_of Truncated = codes "more bytes: the input ends inside a record"
expected_of PastEnd = codes "a record that ends no later than its parent"
expected_of VarintTooLong = codes "a varint of at most ten bytes, whose last is below 80 in hexadecimal"
expected_of TagTooLarge = codes "a tag below 2^32"
expected_of NumberZero = codes "a field number above 0"
expected_of BadType = codes "a wire type from 0 to 5"
expected_of StrayEnd = codes "a record: no group is open that could end here"
expected_of WrongEnd = codes "the end of the group that is open, with its field number"
expected_of LengthTooLarge = codes "a length of at most 2147483647 bytes"
expected_of BadText = codes "a string in UTF-8"
expected_of TooDeep = codes "no message, map entry or group below 100 others"
expected_of InputTooLarge = codes "at most 2147483647 bytes"

abbrev pub expected_line : Cause → List ℕ
expected_line c = codes "  expected: " ++ expected_of c ++ codes "\n"
