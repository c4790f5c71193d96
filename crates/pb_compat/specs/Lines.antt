-- How a difference is printed: one line, without its end.
use Rattle.std.specs.Prelude.{ℕ, List, [], ◌++◌, Option, Some, None, option_and_then, slice_get, codes, decimal}
use Rattle.std.specs.Option.{option_map_or}
use Rattle.pb_schema.specs.declared.types.Kind.{Kind}
use Rattle.pb_schema.specs.declared.types.Kind.TheVariants as kind
use Rattle.pb_schema.specs.declared.types.Shape.{Shape}
use Rattle.pb_schema.specs.declared.types.Shape.TheVariants as shape
use Rattle.pb_schema.specs.Kinds.{message_of_kind}
use Rattle.pb_schema.specs.Names.{enum_names, message_names, name_at}
use Rattle.pb_schema.specs.Types.{FieldView, Types, message_fields, field_numbered}
use Rattle.pb_compat.specs.declared.difference.Difference.{Difference}
use Rattle.pb_compat.specs.declared.difference.Severity.{Severity}
use Rattle.pb_compat.specs.declared.difference.Severity.TheVariants.{BreaksReading, Loses, ChangesPresence, Converts, Renames}
use Rattle.pb_compat.specs.declared.report.Report.{Report}
use Rattle.pb_compat.specs.Words.{severity_word}

-- the word before the name of a group or a closed enum
abbrev pub kind_word : Kind → List ℕ
kind_word (kind.Group m) = codes "group "
kind_word (kind.ClosedEnum e) = codes "closed "
kind_word _ = []

-- the name of a kind in sources, of a message, a group or an enum its full name
abbrev pub kind_name : Types → Kind → List ℕ
kind_name pool kind.Double = codes "double"
kind_name pool kind.Float = codes "float"
kind_name pool kind.Int64 = codes "int64"
kind_name pool kind.Uint64 = codes "uint64"
kind_name pool kind.Int32 = codes "int32"
kind_name pool kind.Fixed64 = codes "fixed64"
kind_name pool kind.Fixed32 = codes "fixed32"
kind_name pool kind.Bool = codes "bool"
kind_name pool kind.Text = codes "string"
kind_name pool kind.Bytes = codes "bytes"
kind_name pool kind.Uint32 = codes "uint32"
kind_name pool kind.Sfixed32 = codes "sfixed32"
kind_name pool kind.Sfixed64 = codes "sfixed64"
kind_name pool kind.Sint32 = codes "sint32"
kind_name pool kind.Sint64 = codes "sint64"
kind_name pool (kind.Enum e) = name_at (enum_names pool) e.0
kind_name pool (kind.Message m) = name_at (message_names pool) m.0
kind_name pool (kind.Group m) = name_at (message_names pool) m.0
kind_name pool (kind.ClosedEnum e) = name_at (enum_names pool) e.0

abbrev pub kind_text : Types → Kind → List ℕ
kind_text pool k = kind_word k ++ kind_name pool k

-- a field that keeps whether it is set; of a message that goes without saying
abbrev pub optional_word : Option ℕ → List ℕ
optional_word None = codes "optional "
optional_word (Some m) = []

-- the name of a oneof of a message type
abbrev pub oneof_name : Types → ℕ → ℕ → Option (List ℕ)
oneof_name pool m o = option_and_then (λ t. slice_get t.oneofs o) (slice_get pool.messages m)

abbrev pub oneof_word : Types → ℕ → ℕ → List ℕ
oneof_word pool m o = option_map_or (λ name. codes "oneof " ++ name ++ codes " ") (oneof_name pool m o) []

-- what a field of a message type is: its kind, and before it what its shape says
abbrev pub type_text : Types → ℕ → Shape → Kind → List ℕ
type_text pool m shape.Implicit k = kind_text pool k
type_text pool m shape.Explicit k = optional_word (message_of_kind k) ++ kind_text pool k
type_text pool m (shape.OneofMember o) k = oneof_word pool m o ++ kind_text pool k
type_text pool m (shape.List packed) k = codes "repeated " ++ kind_text pool k
type_text pool m (shape.Map key) k = codes "map<" ++ kind_text pool key ++ codes ", " ++ kind_text pool k ++ codes ">"

abbrev pub field_at : Types → ℕ → ℕ → Option FieldView
field_at pool m k = field_numbered k (message_fields pool m)

-- what the field is and what it was; what it was, if there is none
abbrev pub types_text : Types → Types → ℕ → ℕ → FieldView → Option FieldView → List ℕ
types_text old new m n f None = type_text old m f.shape f.kind
types_text old new m n f (Some g) = type_text new n g.shape g.kind ++ codes " was " ++ type_text old m f.shape f.kind

-- its name, and what it was
abbrev pub names_text : FieldView → Option FieldView → List ℕ
names_text f None = f.name
names_text f (Some g) = g.name ++ codes " was " ++ f.name

abbrev pub change_text : Types → Types → ℕ → ℕ → Severity → FieldView → Option FieldView → List ℕ
change_text old new m n BreaksReading f g = types_text old new m n f g
change_text old new m n Loses f g = types_text old new m n f g
change_text old new m n ChangesPresence f g = types_text old new m n f g
change_text old new m n Converts f g = types_text old new m n f g
change_text old new m n Renames f g = names_text f g

-- the full name of a field, its number, and what its change does
abbrev pub head_text : List ℕ → List ℕ → ℕ → List ℕ → List ℕ
head_text message field number word = message ++ codes "." ++ field ++ codes " " ++ decimal number ++ codes " " ++ word ++ codes " "

-- the line of a difference at a field: then what the field is and was
abbrev pub field_text : Types → Types → ℕ → ℕ → Difference → FieldView → List ℕ
field_text old new m n d f =
    head_text (name_at (message_names old) m) f.name d.number (severity_word d.severity) ++ change_text old new m n d.severity f (field_at new n d.number)

-- the line of a difference between two types; none where the old type has no such field
abbrev pub difference_text : Types → Types → ℕ → ℕ → Difference → List ℕ
difference_text old new m n d = option_map_or (field_text old new m n d) (field_at old m d.number) []

-- what a report prints
abbrev pub reported : Report → List ℕ
reported r = difference_text r.old.now r.new.now r.old_type.0 r.new_type.0 r.difference
