-- The numbers and the names of the causes of refused changes.
use Rattle.std.specs.Prelude.{ℕ, List, codes}
use Rattle.pb_value.specs.declared.error.ValueError.{ValueError}
use Rattle.pb_value.specs.declared.error.ValueError.TheVariants.{NoSuchField, WrongKind, WrongShape, DefaultStored, TwoMembers}
use Rattle.pb_value.specs.declared.error.ValueError.TheVariants.{KnownAsUnknown, TooDeep, Memory, OtherType, NoSuchValue}

abbrev pub number_of : ValueError → ℕ
number_of NoSuchField = 21
number_of WrongKind = 22
number_of WrongShape = 23
number_of DefaultStored = 24
number_of TwoMembers = 25
number_of KnownAsUnknown = 26
number_of TooDeep = 27
number_of Memory = 28
number_of OtherType = 29
number_of NoSuchValue = 30

abbrev pub name_of : ValueError → List ℕ
name_of NoSuchField = codes "NoSuchField"
name_of WrongKind = codes "WrongKind"
name_of WrongShape = codes "WrongShape"
name_of DefaultStored = codes "DefaultStored"
name_of TwoMembers = codes "TwoMembers"
name_of KnownAsUnknown = codes "KnownAsUnknown"
name_of TooDeep = codes "TooDeep"
name_of Memory = codes "Memory"
name_of OtherType = codes "OtherType"
name_of NoSuchValue = codes "NoSuchValue"
