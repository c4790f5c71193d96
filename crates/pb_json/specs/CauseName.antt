-- The names of causes.
use Rattle.std.specs.Prelude.{ℕ, List, codes}
use Rattle.pb_json.specs.declared.error.JsonCause.{JsonCause}
use Rattle.pb_json.specs.declared.error.JsonCause.TheVariants.{NoKind, NotFinite, OutOfRange, BadPath, Unsupported}

abbrev pub name_of : JsonCause → List ℕ
name_of NoKind = codes "NoKind"
name_of NotFinite = codes "NotFinite"
name_of OutOfRange = codes "OutOfRange"
name_of BadPath = codes "BadPath"
name_of Unsupported = codes "Unsupported"
