-- All declarations of some files, in declaration order, and their full names.
use Rattle.std.specs.Prelude.{ℕ, ℤ, pos, negsuc, ◌+◌, List, [], ◌∷◌, ◌++◌, length, map, Bool, true, false, not, ◌==◌, ◌&&◌, Option, Some, None}
use Rattle.std.specs.List.{list_any, enumerate_from}
use Rattle.std.specs.Str.{bytes_eq}
use Rattle.pb_schema.specs.Names.{in_scope}
use Rattle.pb_declarations.specs.Decls.{DeclaredField, DeclaredEnum, MessageHead, DeclaredMessage, message, DeclaredMessages}
use Rattle.pb_declarations.specs.Decls.{no_messages, more_messages, DeclaredMethod, DeclaredService, DeclaredFile}

-- what is declared, with what is declared around it where a rule needs that
pub data Item : Type 0 where
  a_file : DeclaredFile → Item
  -- a message, and the messages in it
  a_message : MessageHead → DeclaredMessages → Item
  -- the field at an index of a message
  a_field : MessageHead → ℕ → DeclaredField → Item
  -- the oneof at an index of a message
  a_oneof : MessageHead → ℕ → List ℕ → Item
  an_enum : DeclaredEnum → Item
  -- the value at an index of an enum
  a_value : DeclaredEnum → ℕ → List ℕ × ℤ → Item
  a_service : DeclaredService → Item
  a_method : DeclaredMethod → Item

abbrev pub head_of : DeclaredMessage → MessageHead
head_of (message head inner) = head

abbrev pub item_of_message : DeclaredMessage → Item
item_of_message (message head inner) = a_message head inner

-- A declaration. Its place is its index among all declarations.
pub record Declaration : Type 0 where
  -- the index of its file
  pub file : ℕ
  -- the place of the declaration around it; of a file, its own
  pub parent : ℕ
  -- the full name of the scope around it
  pub scope : List ℕ
  pub item : Item

-- DECLARATION ORDER, from a place on: a message, its fields, its oneofs, the messages in it, its enums; an enum and its values; a service
-- and its methods

-- fields of a message, the first of them at its index 0
abbrev pub fields_of : ℕ → ℕ → List ℕ → MessageHead → List DeclaredField → List Declaration
fields_of file parent name head fs = map (λ e. record { file = file; parent = parent; scope = name; item = a_field head e.0 e.1 }) (enumerate_from 0 fs)

abbrev pub oneofs_of : ℕ → ℕ → List ℕ → MessageHead → List (List ℕ) → List Declaration
oneofs_of file parent name head os = map (λ e. record { file = file; parent = parent; scope = name; item = a_oneof head e.0 e.1 }) (enumerate_from 0 os)

-- the values of an enum are declared in the scope around it
abbrev pub values_of : ℕ → ℕ → List ℕ → DeclaredEnum → List (List ℕ × ℤ) → List Declaration
values_of file place scope e vs = map (λ v. record { file = file; parent = place; scope = scope; item = a_value e v.0 v.1 }) (enumerate_from 0 vs)

abbrev pub enum_declared : ℕ → ℕ → List ℕ → ℕ → DeclaredEnum → List Declaration
enum_declared file parent scope place e = record { file = file; parent = parent; scope = scope; item = an_enum e } ∷ values_of file place scope e e.values

abbrev pub enums_declared : ℕ → ℕ → List ℕ → ℕ → List DeclaredEnum → List Declaration
enums_declared file parent scope place [] = []
enums_declared file parent scope place (e ∷ es) =
    let own : List Declaration = enum_declared file parent scope place e in
    own ++ enums_declared file parent scope (place + length own) es

-- a message itself, its fields and its oneofs, by its full name
abbrev pub head_row : ℕ → ℕ → List ℕ → List ℕ → ℕ → DeclaredMessage → List Declaration
head_row file parent scope name place (message head inner) =
    record { file = file; parent = parent; scope = scope; item = a_message head inner }
    ∷ (fields_of file place name head head.fields ++ oneofs_of file place name head head.oneofs)

abbrev mutual
  pub message_declared : ℕ → ℕ → List ℕ → ℕ → DeclaredMessage → List Declaration
  message_declared file parent scope place (message head inner) =
      let own : List Declaration = head_row file parent scope (in_scope scope head.name) place (message head inner) in
      let nested : List Declaration = messages_declared file place (in_scope scope head.name) (place + length own) inner in
      own ++ nested ++ enums_declared file place (in_scope scope head.name) (place + length own + length nested) head.enums

  pub messages_declared : ℕ → ℕ → List ℕ → ℕ → DeclaredMessages → List Declaration
  messages_declared file parent scope place no_messages = []
  messages_declared file parent scope place (more_messages m ms) =
      let own : List Declaration = message_declared file parent scope place m in
      own ++ messages_declared file parent scope (place + length own) ms

abbrev pub methods_of : ℕ → ℕ → List ℕ → List DeclaredMethod → List Declaration
methods_of file place name ms = map (λ m. record { file = file; parent = place; scope = name; item = a_method m }) ms

abbrev pub service_declared : ℕ → ℕ → List ℕ → ℕ → DeclaredService → List Declaration
service_declared file parent scope place s =
    record { file = file; parent = parent; scope = scope; item = a_service s }
    ∷ methods_of file place (in_scope scope s.name) s.methods

abbrev pub services_declared : ℕ → ℕ → List ℕ → ℕ → List DeclaredService → List Declaration
services_declared file parent scope place [] = []
services_declared file parent scope place (s ∷ ss) =
    let own : List Declaration = service_declared file parent scope place s in
    own ++ services_declared file parent scope (place + length own) ss

abbrev pub file_declared : ℕ → ℕ → DeclaredFile → List Declaration
file_declared file place f =
    let messages : List Declaration = messages_declared file place f.package_name (place + 1) f.messages in
    let enums : List Declaration = enums_declared file place f.package_name (place + 1 + length messages) f.enums in
    record { file = file; parent = place; scope = []; item = a_file f }
    ∷ (messages ++ enums ++ services_declared file place f.package_name (place + 1 + length messages + length enums) f.services)

abbrev pub files_declared : ℕ → ℕ → List DeclaredFile → List Declaration
files_declared file place [] = []
files_declared file place (f ∷ fs) =
    let own : List Declaration = file_declared file place f in
    own ++ files_declared (file + 1) (place + length own) fs

-- all declarations of some files, by file and then in declaration order
abbrev pub declarations : List DeclaredFile → List Declaration
declarations files = files_declared 0 0 files

-- NAMES

abbrev pub is_oneof_index : ℕ → Option ℤ → Bool
is_oneof_index o None = false
is_oneof_index o (Some (pos i)) = i == o
is_oneof_index o (Some (negsuc i)) = false

-- the field is a member of the oneof at an index
abbrev pub is_member_of : ℕ → DeclaredField → Bool
is_member_of o f = is_oneof_index o f.oneof

-- a oneof is synthetic where a field with `proto3_optional` is a member
abbrev pub is_synthetic : MessageHead → ℕ → Bool
is_synthetic head o = list_any (λ f. f.is_optional && is_member_of o f) head.fields

abbrev pub simple_name : Item → List ℕ
simple_name (a_file f) = []
simple_name (a_message head inner) = head.name
simple_name (a_field head i f) = f.name
simple_name (a_oneof head i name) = name
simple_name (an_enum e) = e.name
simple_name (a_value e i v) = v.0
simple_name (a_service s) = s.name
simple_name (a_method m) = m.name

-- a synthetic oneof has no name
abbrev pub is_named : Item → Bool
is_named (a_file f) = false
is_named (a_message head inner) = true
is_named (a_field head i f) = true
is_named (a_oneof head i name) = not (is_synthetic head i)
is_named (an_enum e) = true
is_named (a_value e i v) = true
is_named (a_service s) = true
is_named (a_method m) = true

-- the full name; of a file, the empty one
abbrev pub full_name : Declaration → List ℕ
full_name d = in_scope d.scope (simple_name d.item)

-- the declaration has this full name
abbrev pub has_name : List ℕ → Declaration → Bool
has_name name d = is_named d.item && bytes_eq name (full_name d)

abbrev pub is_type : Item → Bool
is_type (a_file f) = false
is_type (a_message head inner) = true
is_type (a_field head i f) = false
is_type (a_oneof head i name) = false
is_type (an_enum e) = true
is_type (a_value e i v) = false
is_type (a_service s) = false
is_type (a_method m) = false

-- a type or a service
abbrev pub holds_names : Item → Bool
holds_names (a_file f) = false
holds_names (a_message head inner) = true
holds_names (a_field head i f) = false
holds_names (a_oneof head i name) = false
holds_names (an_enum e) = true
holds_names (a_value e i v) = false
holds_names (a_service s) = true
holds_names (a_method m) = false
