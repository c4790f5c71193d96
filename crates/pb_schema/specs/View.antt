-- The mathematical values of the parts of a pool.
use Rattle.std.specs.Prelude.{ℕ, ℤ, List, Option, Vec, map, option_map, string_bytes}
use Rattle.std.specs.declared.alloc.Global.{Global}
use Rattle.std.specs.declared.string.String.{String}
use Rattle.pb_schema.specs.Types.{FieldView, MessageView, EnumView, FileView, Types}
use Rattle.pb_schema.specs.declared.types.Field.{Field}
use Rattle.pb_schema.specs.declared.types.MessageType.{MessageType}
use Rattle.pb_schema.specs.declared.types.EnumType.{EnumType}
use Rattle.pb_schema.specs.declared.types.FileInfo.{FileInfo}
use Rattle.pb_schema.specs.declared.types.MessageId.{MessageId}

abbrev pub field_view : Field → FieldView
field_view f = record { name = string_bytes f.name; number = f.number; kind = f.kind; shape = f.shape }

abbrev pub parent_view : Option MessageId → Option ℕ
parent_view p = option_map (λ m. m.0) p

abbrev pub message_view : MessageType → MessageView
message_view t = record {
  name = string_bytes t.name;
  file = t.file;
  parent = parent_view t.parent;
  fields = map field_view t.fields.items;
  oneofs = map string_bytes t.oneofs.items;
}

-- the names and numbers of values
abbrev pub values_view : List (String Global × ℤ) → List (List ℕ × ℤ)
values_view vs = map (λ v. (string_bytes v.0, v.1)) vs

abbrev pub enum_view : EnumType → EnumView
enum_view t = record {
  name = string_bytes t.name;
  file = t.file;
  parent = parent_view t.parent;
  values = values_view t.values.items;
}

abbrev pub file_view : FileInfo → FileView
file_view f = record { name = string_bytes f.name; package_name = string_bytes f.«package»; imports = f.imports.items; proto2 = f.proto2 }

-- the mathematical values of parts
abbrev pub types_of : List FileInfo → List MessageType → List EnumType → Types
types_of files messages enums = record { files = map file_view files; messages = map message_view messages; enums = map enum_view enums }

abbrev pub bytes_of : List (Vec ℕ Global) → List (List ℕ)
bytes_of names = map (λ v. v.items) names
