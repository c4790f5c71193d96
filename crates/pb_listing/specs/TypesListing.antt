-- What a pool declares, one line for each thing: its files, its message types with their fields, and its enums with their values. A line says
-- all that it says by itself.
use Rattle.std.specs.Prelude.{ℕ, ℤ, zero, suc, List, [], ◌∷◌, ◌++◌, Bool, true, false, Option, Some, None, codes, decimal, length, flat_map, slice_get, unwrap_or}
use Rattle.std.specs.Fmt.{signed_decimal}
use Rattle.std.specs.Option.{option_map_or}
use Rattle.pb_schema.specs.declared.types.Kind.{Kind}
use Rattle.pb_schema.specs.declared.types.Kind.TheVariants as kind
use Rattle.pb_schema.specs.declared.types.Shape.{Shape}
use Rattle.pb_schema.specs.declared.types.Shape.TheVariants as shape
use Rattle.pb_schema.specs.Kinds.{is_group}
use Rattle.pb_schema.specs.Names.{message_names, enum_names, name_at}
use Rattle.pb_schema.specs.Types.{FieldView, MessageView, EnumView, FileView, Types}
use Rattle.pb_listing.specs.RawListing.{line}

-- TYPES (language specification, "Fields")

-- the name of a kind in sources, of a message or an enum its full name
abbrev pub kind_name_of : Types → Kind → List ℕ
kind_name_of pool kind.Double = codes "double"
kind_name_of pool kind.Float = codes "float"
kind_name_of pool kind.Int64 = codes "int64"
kind_name_of pool kind.Uint64 = codes "uint64"
kind_name_of pool kind.Int32 = codes "int32"
kind_name_of pool kind.Fixed64 = codes "fixed64"
kind_name_of pool kind.Fixed32 = codes "fixed32"
kind_name_of pool kind.Bool = codes "bool"
kind_name_of pool kind.Text = codes "string"
kind_name_of pool kind.Bytes = codes "bytes"
kind_name_of pool kind.Uint32 = codes "uint32"
kind_name_of pool kind.Sfixed32 = codes "sfixed32"
kind_name_of pool kind.Sfixed64 = codes "sfixed64"
kind_name_of pool kind.Sint32 = codes "sint32"
kind_name_of pool kind.Sint64 = codes "sint64"
kind_name_of pool (kind.Enum e) = name_at (enum_names pool) e.0
kind_name_of pool (kind.Message m) = name_at (message_names pool) m.0
kind_name_of pool (kind.Group m) = name_at (message_names pool) m.0
kind_name_of pool (kind.ClosedEnum e) = name_at (enum_names pool) e.0

-- a group is a message with a word before its name
abbrev pub group_word : Bool → List ℕ
group_word true = codes "group "
group_word false = []

abbrev pub kind_text : Types → Kind → List ℕ
kind_text pool k = group_word (is_group k) ++ kind_name_of pool k

-- presence, oneof or label, and then the type
abbrev pub type_text : Types → List (List ℕ) → Shape → Kind → List ℕ
type_text pool oneofs shape.Implicit k = codes "implicit " ++ kind_text pool k
type_text pool oneofs shape.Explicit k = codes "optional " ++ kind_text pool k
type_text pool oneofs (shape.OneofMember o) k = codes "oneof:" ++ name_at oneofs o ++ codes " " ++ kind_text pool k
type_text pool oneofs (shape.List false) k = codes "repeated " ++ kind_text pool k
type_text pool oneofs (shape.List true) k = codes "repeated " ++ kind_text pool k ++ codes " packed"
type_text pool oneofs (shape.Map key) k = codes "repeated map<" ++ kind_text pool key ++ codes ", " ++ kind_text pool k ++ codes ">"

-- LINES

abbrev pub syntax_text : Bool → List ℕ
syntax_text true = codes "proto2"
syntax_text false = codes "proto3"

abbrev pub file_line : FileView → List ℕ
file_line f = line 0 (codes "file " ++ f.name ++ codes " " ++ syntax_text f.proto2)

-- the name of the file at an index
abbrev pub file_name_at : Types → ℕ → List ℕ
file_name_at pool i = option_map_or (λ f. f.name) (slice_get pool.files i) []

-- a field of a message of this full name and these oneofs
abbrev pub field_line : Types → List ℕ → List (List ℕ) → FieldView → List ℕ
field_line pool full oneofs f =
    line 0 (codes "field " ++ full ++ codes "." ++ f.name ++ codes " " ++ decimal f.number ++ codes " " ++ type_text pool oneofs f.shape f.kind)

-- a message of this full name, and its fields
abbrev pub message_type_lines : Types → List ℕ → MessageView → List ℕ
message_type_lines pool full t =
    line 0 (codes "message " ++ full ++ codes " " ++ file_name_at pool t.file) ++ flat_map (field_line pool full t.oneofs) t.fields

-- a value of an enum of this full name
abbrev pub value_line : List ℕ → List ℕ × ℤ → List ℕ
value_line full v = line 0 (codes "value " ++ full ++ codes " " ++ v.0 ++ codes " " ++ signed_decimal v.1)

-- an enum of this full name, and its values
abbrev pub enum_type_lines : Types → List ℕ → EnumView → List ℕ
enum_type_lines pool full t =
    line 0 (codes "enum " ++ full ++ codes " " ++ file_name_at pool t.file) ++ flat_map (value_line full) t.values

-- the message type at an index
abbrev pub message_lines_at : Types → ℕ → List ℕ
message_lines_at pool m = option_map_or (λ t. message_type_lines pool (name_at (message_names pool) m) t) (slice_get pool.messages m) []

-- the enum at an index
abbrev pub enum_lines_at : Types → ℕ → List ℕ
enum_lines_at pool e = option_map_or (λ t. enum_type_lines pool (name_at (enum_names pool) e) t) (slice_get pool.enums e) []

-- the lines of the things at the indexes below a number, in their order
abbrev pub lines_below : ℕ → (ℕ → List ℕ) → List ℕ
lines_below zero lines_at = []
lines_below (suc n) lines_at = lines_below n lines_at ++ lines_at n

-- all that a pool declares
abbrev pub types_listing : Types → List ℕ
types_listing pool =
    flat_map file_line pool.files ++ lines_below (length pool.messages) (message_lines_at pool) ++ lines_below (length pool.enums) (enum_lines_at pool)
