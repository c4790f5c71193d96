-- The numbers of causes: why a part of a message has no JSON form, and why a JSON text is not read as a message.
use Rattle.std.specs.Prelude.{ℕ}
use Rattle.pb_json.specs.declared.error.JsonCause.{JsonCause}
use Rattle.pb_json.specs.declared.error.JsonCause.TheVariants.{NoKind, NotFinite, OutOfRange, BadPath, Unsupported}
use Rattle.pb_json_read.specs.declared.error.JsonReadCause.{JsonReadCause}
use Rattle.pb_json_read.specs.declared.error.JsonReadCause.TheVariants as read

abbrev pub json_number : JsonCause → ℕ
json_number NoKind = 91
json_number NotFinite = 92
json_number OutOfRange = 93
json_number BadPath = 94
json_number Unsupported = 95

-- why a JSON text is not read as a message
abbrev pub read_number : JsonReadCause → ℕ
read_number read.UnexpectedByte = 101
read_number read.UnexpectedEnd = 102
read_number read.BadUtf8 = 103
read_number read.TooDeep = 104
read_number read.UnknownName = 105
read_number read.RepeatedName = 106
read_number read.SecondMember = 107
read_number read.BadKey = 108
read_number read.BadValue = 109
read_number read.OutOfMemory = 110
