-- The numbers and names of causes.
use Rattle.std.specs.Prelude.{ℕ, List, codes}
use Rattle.pb_descr_message.specs.declared.cause.DeclCause.{DeclCause}
use Rattle.pb_descr_message.specs.declared.cause.DeclCause.TheVariants.{MissingName, BadLabel, BadTypeNumber, Extension, NotProto3, Required, Group, DefaultValue}

abbrev pub number_of : DeclCause → ℕ
number_of MissingName = 52
number_of BadLabel = 53
number_of BadTypeNumber = 54
number_of Extension = 55
number_of NotProto3 = 56
number_of Required = 57
number_of Group = 58
number_of DefaultValue = 60

abbrev pub name_of : DeclCause → List ℕ
name_of MissingName = codes "MissingName"
name_of BadLabel = codes "BadLabel"
name_of BadTypeNumber = codes "BadTypeNumber"
name_of Extension = codes "Extension"
name_of NotProto3 = codes "NotProto3"
name_of Required = codes "Required"
name_of Group = codes "Group"
name_of DefaultValue = codes "DefaultValue"
