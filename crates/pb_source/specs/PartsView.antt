-- What messages and files hold whose statements are being read.
use Rattle.std.specs.Prelude.{◌≡◌, ◌≤◌, if◌then◌else◌, length, ℕ, List, [], ◌∷◌, Bool, true, false, map, string_bytes}
use Rattle.pb_declarations.specs.Decls.{DeclaredField}
use Rattle.pb_declarations.specs.View.{field_view, message_view, enum_view, service_view}
use Rattle.pb_source.specs.Meaning.{MessageStatement, FileStatement, in_oneof, packages_said, package_of, imports_said, public_from, file_messages_said}
use Rattle.pb_source.specs.Meaning.{file_enums_said, services_said, fields_of, all_said, nested_said, enums_said, oneofs_said, ranges_said, names_said}
use Rattle.pb_source.specs.declared.kind.MessageKind.{MessageKind}
use Rattle.pb_source.specs.declared.kind.MessageKind.TheVariants as kind
use Rattle.pb_source.specs.declared.parsing.declared.MessageParts.{MessageParts}
use Rattle.pb_source.specs.declared.parsing.declared.FileParts.{FileParts}
use Rattle.pb_source.specs.declared.parsing.statement.MessageSaid.{MessageSaid}
use Rattle.pb_source.specs.declared.parsing.statement.MessageSaid.TheVariants as in_message

-- ---- what a message's parts and an enum hold, after some statements

pub record HoldsSaid (p : MessageParts) (ss : List MessageStatement) : Type 0 where
  pub fields : map field_view p.fields.items ≡ fields_of 0 ss
  pub messages : map message_view p.messages.items ≡ all_said nested_said ss
  pub enums : map enum_view p.enums.items ≡ all_said enums_said ss
  pub oneofs : map string_bytes p.oneofs.items ≡ all_said oneofs_said ss
  pub reserved : p.reserved.items ≡ all_said ranges_said ss
  pub reserved_names : map string_bytes p.reserved_names.items ≡ all_said names_said ss

-- a map's number fits 32 bits
abbrev pub IsCounted : MessageSaid → Type 0
IsCounted (in_message.Map m) = m.number ≤ 2147483647
IsCounted in_message.Nothing = Unit {0}
IsCounted (in_message.Field member) = Unit {0}
IsCounted (in_message.Oneof name members) = Unit {0}
IsCounted (in_message.Message m) = Unit {0}
IsCounted (in_message.Extend messages) = Unit {0}
IsCounted (in_message.Enum e) = Unit {0}
IsCounted (in_message.Ranges ranges) = Unit {0}
IsCounted (in_message.Names names) = Unit {0}

-- a field in its own oneof of this index, if it is optional
abbrev pub with_own_oneof : ℕ → DeclaredField → DeclaredField
with_own_oneof n f = if f.is_optional then in_oneof n f else f

abbrev pub OnePackage : List FileStatement → Type 0
OnePackage ss = length (all_said packages_said ss) ≤ 1

-- what a file's parts hold, after some statements
pub record FileHolds (p : FileParts) (ss : List FileStatement) : Type 0 where
  pub package_name : string_bytes p.«package» ≡ package_of ss
  pub imports : map string_bytes p.imports.items ≡ all_said imports_said ss
  pub public_indexes : p.public.items ≡ public_from 0 ss
  pub messages : map message_view p.messages.items ≡ all_said file_messages_said ss
  pub enums : map enum_view p.enums.items ≡ all_said file_enums_said ss
  pub services : map service_view p.services.items ≡ all_said services_said ss

-- messages may nest in a statement of the kind, which is none itself
abbrev pub is_nesting : MessageKind → Bool
is_nesting kind.Oneof = true
is_nesting kind.Extend = true
is_nesting kind.Repeated = true
is_nesting kind.Optional = true
is_nesting kind.Required = true
is_nesting kind.Map = false
is_nesting kind.Field = false
is_nesting kind.Empty = false
is_nesting kind.Option = false
is_nesting kind.Message = false
is_nesting kind.Enum = false
is_nesting kind.Reserved = false
is_nesting kind.Extensions = false

-- no message nests in a statement of the kind
abbrev pub is_plain : MessageKind → Bool
is_plain kind.Empty = true
is_plain kind.Option = true
is_plain kind.Enum = true
is_plain kind.Reserved = true
is_plain kind.Map = true
is_plain kind.Field = true
is_plain kind.Extensions = true
is_plain kind.Message = false
is_plain kind.Oneof = false
is_plain kind.Extend = false
is_plain kind.Repeated = false
is_plain kind.Optional = false
is_plain kind.Required = false
