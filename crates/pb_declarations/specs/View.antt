-- The trees that declarations mean.
use Rattle.std.specs.Prelude.{ℕ, ℤ, List, String, map, option_map, string_bytes}
use Rattle.std.specs.declared.alloc.Global.{Global}
use Rattle.pb_declarations.specs.Decls.{DeclaredField, DeclaredEnum, DeclaredMessage, message, messages_of, DeclaredMethod, DeclaredService, DeclaredFile}
use Rattle.pb_declarations.specs.declared.decl.FieldDecl.{FieldDecl}
use Rattle.pb_declarations.specs.declared.decl.EnumDecl.{EnumDecl}
use Rattle.pb_declarations.specs.declared.decl.MessageDecl.{MessageDecl, fold-MessageDecl}
use Rattle.pb_declarations.specs.declared.decl.MessageDecl.TheOpen.{MessageDecl-F}
use Rattle.pb_declarations.specs.declared.decl.MethodDecl.{MethodDecl}
use Rattle.pb_declarations.specs.declared.decl.ServiceDecl.{ServiceDecl}
use Rattle.pb_declarations.specs.declared.decl.FileDecl.{FileDecl}

abbrev pub field_view : FieldDecl → DeclaredField
field_view f = record {
  name = string_bytes f.name;
  number = f.number;
  is_repeated = f.repeated;
  type_code = f.ty;
  type_name = option_map string_bytes f.type_name;
  packed = f.packed;
  oneof = f.oneof;
  is_optional = f.proto3_optional;
}

-- a value of an enum: its name and its number
abbrev pub numbered_view : String Global × ℤ → List ℕ × ℤ
numbered_view v = (string_bytes v.0, v.1)

abbrev pub enum_view : EnumDecl → DeclaredEnum
enum_view e = record {
  name = string_bytes e.name;
  values = map numbered_view e.values.items;
  allows_alias = e.allow_alias;
  reserved = e.reserved.items;
  reserved_names = map string_bytes e.reserved_names.items;
}

-- one level, with each message inside already seen as its tree
abbrev pub message_step : MessageDecl-F DeclaredMessage → DeclaredMessage
message_step m = message (record {
  name = string_bytes m.name;
  fields = map field_view m.fields.items;
  enums = map enum_view m.enums.items;
  oneofs = map string_bytes m.oneofs.items;
  reserved = m.reserved.items;
  reserved_names = map string_bytes m.reserved_names.items;
  is_entry = m.map_entry;
}) (messages_of m.messages.items)

abbrev pub message_view : MessageDecl → DeclaredMessage
message_view = fold-MessageDecl DeclaredMessage message_step

abbrev pub method_view : MethodDecl → DeclaredMethod
method_view m = record {
  name = string_bytes m.name;
  input = string_bytes m.input;
  output = string_bytes m.output;
  client_streams = m.client_stream;
  server_streams = m.server_stream;
}

abbrev pub service_view : ServiceDecl → DeclaredService
service_view s = record { name = string_bytes s.name; methods = map method_view s.methods.items }

abbrev pub file_view : FileDecl → DeclaredFile
file_view f = record {
  name = string_bytes f.name;
  package_name = string_bytes f.«package»;
  imports = map string_bytes f.imports.items;
  public_indexes = f.public.items;
  messages = messages_of (map message_view f.messages.items);
  enums = map enum_view f.enums.items;
  services = map service_view f.services.items;
  is_proto2 = f.proto2;
}
