-- What statements come to: the parts of a message, of an enum and of a file, from their statements in order.
use Rattle.std.specs.Prelude.{ℕ, suc, ℤ, pos, List, [], ◌∷◌, ◌++◌, length, map, codes, Bool, true, false, if◌then◌else◌, Option, Some, None, option_to_list}
use Rattle.std.specs.Char.{to_ascii_lowercase}
use Rattle.pb_schema.specs.Names.{in_scope, entry_name}
use Rattle.pb_declarations.specs.Decls.{DeclaredField, DeclaredEnum, DeclaredMessage, message as message_decl, DeclaredMessages}
use Rattle.pb_declarations.specs.Decls.{no_messages, more_messages, messages_of, DeclaredService, DeclaredFile}
use Rattle.pb_declarations.specs.declared.decl.TypeCode.{TypeCode}
use Rattle.pb_declarations.specs.declared.decl.TypeCode.TheVariants.{Message as message_code, Group as group_code}
use Rattle.pb_source_tokens.specs.Said.{TypeSaid, code_said, name_said, a_scalar}
use Rattle.pb_source_tokens.specs.declared.grammar.Grammar.{Grammar}
use Rattle.pb_source.specs.Syntaxes.{is_proto2}
use Rattle.pb_source.specs.declared.kind.Label.{Label}
use Rattle.pb_source.specs.declared.kind.Label.TheVariants.{Unlabelled, Repeated, Optional}

-- `map < key , value > name = number`
pub record MapDecl : Type 0 where
  pub key : TypeCode
  pub value : TypeSaid
  pub name : List ℕ
  pub number : ℕ
  pub packed : Option Bool

-- a field, and where it is a group, its message
abbrev pub Member : Type 0
Member = DeclaredField × Option DeclaredMessage

pub data MessageStatement : Type 0 where
  -- an option, or `;` alone
  nothing_said : MessageStatement
  a_field : Member → MessageStatement
  a_map : MapDecl → MessageStatement
  a_oneof : List ℕ → List Member → MessageStatement
  a_message : DeclaredMessage → MessageStatement
  -- the messages of the groups in a block of `extend`
  an_extend : List DeclaredMessage → MessageStatement
  an_enum : DeclaredEnum → MessageStatement
  reserved_ranges : List (ℤ × ℤ) → MessageStatement
  reserved_names : List (List ℕ) → MessageStatement

pub data EnumStatement : Type 0 where
  nothing_said : EnumStatement
  allows_alias : Bool → EnumStatement
  a_value : List ℕ → ℤ → EnumStatement
  reserved_ranges : List (ℤ × ℤ) → EnumStatement
  reserved_names : List (List ℕ) → EnumStatement

pub data FileStatement : Type 0 where
  nothing_said : FileStatement
  -- public or not, and which file
  an_import : Bool → List ℕ → FileStatement
  a_package : List ℕ → FileStatement
  a_message : DeclaredMessage → FileStatement
  an_extend : List DeclaredMessage → FileStatement
  an_enum : DeclaredEnum → FileStatement
  a_service : DeclaredService → FileStatement

-- what was said, of statements that may say nothing
abbrev pub those_said : {A : Type 0} → List (Option A) → List A
those_said [] = []
those_said (None ∷ xs) = those_said xs
those_said (Some x ∷ xs) = x ∷ those_said xs

-- ---- fields

abbrev pub is_repeated_label : Label → Bool
is_repeated_label Unlabelled = false
is_repeated_label Repeated = true
is_repeated_label Optional = false

abbrev pub is_optional_label : Label → Bool
is_optional_label Unlabelled = false
is_optional_label Repeated = false
is_optional_label Optional = true

-- the field of this label, type, name, number and mark `packed`
abbrev pub field_of : Label → TypeSaid → List ℕ → ℕ → Option Bool → DeclaredField
field_of l t name n packed = record {
  name = name;
  number = pos n;
  is_repeated = is_repeated_label l;
  type_code = code_said t;
  type_name = name_said t;
  packed = packed;
  oneof = None;
  is_optional = is_optional_label l;
}

abbrev pub entry_field : List ℕ → ℕ → TypeSaid → DeclaredField
entry_field name n t = field_of Unlabelled t name n None

-- the entry message of a map field
abbrev pub entry_of : MapDecl → DeclaredMessage
entry_of m = message_decl (record {
  name = entry_name m.name;
  fields = entry_field (codes "key") 1 (a_scalar m.key) ∷ entry_field (codes "value") 2 m.value ∷ [];
  enums = [];
  oneofs = [];
  reserved = [];
  reserved_names = [];
  is_entry = true;
}) no_messages

-- A map's own field. Its type's name becomes the entry's full name once the scope is known (`scoped` below).
abbrev pub map_field : MapDecl → DeclaredField
map_field m = record {
  name = m.name;
  number = pos m.number;
  is_repeated = true;
  type_code = Some message_code;
  type_name = Some (entry_name m.name);
  packed = m.packed;
  oneof = None;
  is_optional = false;
}

-- A group's own field. Its name is the group's in lower case, and its type the message of the group's name in the same scope.
abbrev pub group_field : Label → List ℕ → ℕ → Option Bool → DeclaredField
group_field l name n packed = record {
  name = map to_ascii_lowercase name;
  number = pos n;
  is_repeated = is_repeated_label l;
  type_code = Some group_code;
  type_name = Some name;
  packed = packed;
  oneof = None;
  is_optional = is_optional_label l;
}

-- the fields, and the messages of the groups among them
abbrev pub fields_in : List Member → List DeclaredField
fields_in xs = map (λ x. x.0) xs

abbrev pub groups_in : List Member → List DeclaredMessage
groups_in [] = []
groups_in (x ∷ xs) = option_to_list x.1 ++ groups_in xs

abbrev pub in_oneof : ℕ → DeclaredField → DeclaredField
in_oneof n f = record f { oneof = Some (pos n) }

-- ---- messages

-- the fields in order, those of oneofs with the oneof's index, of which this many come before
abbrev pub fields_of : ℕ → List MessageStatement → List DeclaredField
fields_of n [] = []
fields_of n (MessageStatement.nothing_said ∷ ss) = fields_of n ss
fields_of n (MessageStatement.a_field x ∷ ss) = x.0 ∷ fields_of n ss
fields_of n (MessageStatement.a_map m ∷ ss) = map_field m ∷ fields_of n ss
fields_of n (MessageStatement.a_oneof name xs ∷ ss) = map (in_oneof n) (fields_in xs) ++ fields_of (suc n) ss
fields_of n (MessageStatement.a_message m ∷ ss) = fields_of n ss
fields_of n (MessageStatement.an_extend ms ∷ ss) = fields_of n ss
fields_of n (MessageStatement.an_enum e ∷ ss) = fields_of n ss
fields_of n (MessageStatement.reserved_ranges rs ∷ ss) = fields_of n ss
fields_of n (MessageStatement.reserved_names ns ∷ ss) = fields_of n ss

abbrev pub oneofs_said : MessageStatement → List (List ℕ)
oneofs_said (MessageStatement.a_oneof name xs) = name ∷ []
oneofs_said MessageStatement.nothing_said = []
oneofs_said (MessageStatement.a_field x) = []
oneofs_said (MessageStatement.a_map m) = []
oneofs_said (MessageStatement.a_message m) = []
oneofs_said (MessageStatement.an_extend ms) = []
oneofs_said (MessageStatement.an_enum e) = []
oneofs_said (MessageStatement.reserved_ranges rs) = []
oneofs_said (MessageStatement.reserved_names ns) = []

-- nested messages, entries, and the messages of groups
abbrev pub nested_said : MessageStatement → List DeclaredMessage
nested_said (MessageStatement.a_message m) = m ∷ []
nested_said (MessageStatement.a_map m) = entry_of m ∷ []
nested_said (MessageStatement.a_field x) = option_to_list x.1
nested_said (MessageStatement.a_oneof name xs) = groups_in xs
nested_said (MessageStatement.an_extend ms) = ms
nested_said MessageStatement.nothing_said = []
nested_said (MessageStatement.an_enum e) = []
nested_said (MessageStatement.reserved_ranges rs) = []
nested_said (MessageStatement.reserved_names ns) = []

abbrev pub enums_said : MessageStatement → List DeclaredEnum
enums_said (MessageStatement.an_enum e) = e ∷ []
enums_said MessageStatement.nothing_said = []
enums_said (MessageStatement.a_field x) = []
enums_said (MessageStatement.a_map m) = []
enums_said (MessageStatement.a_oneof name xs) = []
enums_said (MessageStatement.a_message m) = []
enums_said (MessageStatement.an_extend ms) = []
enums_said (MessageStatement.reserved_ranges rs) = []
enums_said (MessageStatement.reserved_names ns) = []

abbrev pub ranges_said : MessageStatement → List (ℤ × ℤ)
ranges_said (MessageStatement.reserved_ranges rs) = rs
ranges_said MessageStatement.nothing_said = []
ranges_said (MessageStatement.a_field x) = []
ranges_said (MessageStatement.a_map m) = []
ranges_said (MessageStatement.a_oneof name xs) = []
ranges_said (MessageStatement.a_message m) = []
ranges_said (MessageStatement.an_extend ms) = []
ranges_said (MessageStatement.an_enum e) = []
ranges_said (MessageStatement.reserved_names ns) = []

abbrev pub names_said : MessageStatement → List (List ℕ)
names_said (MessageStatement.reserved_names ns) = ns
names_said MessageStatement.nothing_said = []
names_said (MessageStatement.a_field x) = []
names_said (MessageStatement.a_map m) = []
names_said (MessageStatement.a_oneof name xs) = []
names_said (MessageStatement.a_message m) = []
names_said (MessageStatement.an_extend ms) = []
names_said (MessageStatement.an_enum e) = []
names_said (MessageStatement.reserved_ranges rs) = []

-- what each says, in order
abbrev pub all_said : {S A : Type 0} → (S → List A) → List S → List A
all_said f [] = []
all_said f (s ∷ ss) = f s ++ all_said f ss

-- each `optional` field in a oneof of its own, of which the first has this index
abbrev pub with_own_oneofs : ℕ → List DeclaredField → List DeclaredField
with_own_oneofs n [] = []
with_own_oneofs n (f ∷ fs) = if f.is_optional then in_oneof n f ∷ with_own_oneofs (suc n) fs else f ∷ with_own_oneofs n fs

abbrev pub own_oneofs : List DeclaredField → List (List ℕ)
own_oneofs [] = []
own_oneofs (f ∷ fs) = if f.is_optional then (95 ∷ f.name) ∷ own_oneofs fs else own_oneofs fs

abbrev pub message_of : List ℕ → List MessageStatement → DeclaredMessage
message_of name ss = message_decl (record {
  name = name;
  fields = with_own_oneofs (length (all_said oneofs_said ss)) (fields_of 0 ss);
  enums = all_said enums_said ss;
  oneofs = all_said oneofs_said ss ++ own_oneofs (fields_of 0 ss);
  reserved = all_said ranges_said ss;
  reserved_names = all_said names_said ss;
  is_entry = false;
}) (messages_of (all_said nested_said ss))

-- ---- enums

-- the last `allow_alias` counts
abbrev pub alias_from : Bool → List EnumStatement → Bool
alias_from now [] = now
alias_from now (EnumStatement.allows_alias b ∷ ss) = alias_from b ss
alias_from now (EnumStatement.nothing_said ∷ ss) = alias_from now ss
alias_from now (EnumStatement.a_value name n ∷ ss) = alias_from now ss
alias_from now (EnumStatement.reserved_ranges rs ∷ ss) = alias_from now ss
alias_from now (EnumStatement.reserved_names ns ∷ ss) = alias_from now ss

abbrev pub values_said : EnumStatement → List (List ℕ × ℤ)
values_said (EnumStatement.a_value name n) = (name, n) ∷ []
values_said EnumStatement.nothing_said = []
values_said (EnumStatement.allows_alias b) = []
values_said (EnumStatement.reserved_ranges rs) = []
values_said (EnumStatement.reserved_names ns) = []

abbrev pub enum_ranges_said : EnumStatement → List (ℤ × ℤ)
enum_ranges_said (EnumStatement.reserved_ranges rs) = rs
enum_ranges_said EnumStatement.nothing_said = []
enum_ranges_said (EnumStatement.allows_alias b) = []
enum_ranges_said (EnumStatement.a_value name n) = []
enum_ranges_said (EnumStatement.reserved_names ns) = []

abbrev pub enum_names_said : EnumStatement → List (List ℕ)
enum_names_said (EnumStatement.reserved_names ns) = ns
enum_names_said EnumStatement.nothing_said = []
enum_names_said (EnumStatement.allows_alias b) = []
enum_names_said (EnumStatement.a_value name n) = []
enum_names_said (EnumStatement.reserved_ranges rs) = []

abbrev pub enum_of : List ℕ → List EnumStatement → DeclaredEnum
enum_of name ss = record {
  name = name;
  values = all_said values_said ss;
  allows_alias = alias_from false ss;
  reserved = all_said enum_ranges_said ss;
  reserved_names = all_said enum_names_said ss;
}

-- ---- files

abbrev pub packages_said : FileStatement → List (List ℕ)
packages_said (FileStatement.a_package p) = p ∷ []
packages_said FileStatement.nothing_said = []
packages_said (FileStatement.an_import is_public f) = []
packages_said (FileStatement.a_message m) = []
packages_said (FileStatement.an_extend ms) = []
packages_said (FileStatement.an_enum e) = []
packages_said (FileStatement.a_service s) = []

abbrev pub first_or_none : List (List ℕ) → List ℕ
first_or_none [] = []
first_or_none (p ∷ ps) = p

-- the package's name, which is empty where none is said
abbrev pub package_of : List FileStatement → List ℕ
package_of ss = first_or_none (all_said packages_said ss)

abbrev pub imports_said : FileStatement → List (List ℕ)
imports_said (FileStatement.an_import is_public f) = f ∷ []
imports_said FileStatement.nothing_said = []
imports_said (FileStatement.a_package p) = []
imports_said (FileStatement.a_message m) = []
imports_said (FileStatement.an_extend ms) = []
imports_said (FileStatement.an_enum e) = []
imports_said (FileStatement.a_service s) = []

-- the indexes of public imports, before which there are this many imports
abbrev pub public_from : ℕ → List FileStatement → List ℤ
public_from n [] = []
public_from n (FileStatement.an_import true f ∷ ss) = pos n ∷ public_from (suc n) ss
public_from n (FileStatement.an_import false f ∷ ss) = public_from (suc n) ss
public_from n (FileStatement.nothing_said ∷ ss) = public_from n ss
public_from n (FileStatement.a_package p ∷ ss) = public_from n ss
public_from n (FileStatement.a_message m ∷ ss) = public_from n ss
public_from n (FileStatement.an_extend ms ∷ ss) = public_from n ss
public_from n (FileStatement.an_enum e ∷ ss) = public_from n ss
public_from n (FileStatement.a_service s ∷ ss) = public_from n ss

-- messages, and those of the groups in blocks of `extend`
abbrev pub file_messages_said : FileStatement → List DeclaredMessage
file_messages_said (FileStatement.a_message m) = m ∷ []
file_messages_said (FileStatement.an_extend ms) = ms
file_messages_said FileStatement.nothing_said = []
file_messages_said (FileStatement.an_import is_public f) = []
file_messages_said (FileStatement.a_package p) = []
file_messages_said (FileStatement.an_enum e) = []
file_messages_said (FileStatement.a_service s) = []

abbrev pub file_enums_said : FileStatement → List DeclaredEnum
file_enums_said (FileStatement.an_enum e) = e ∷ []
file_enums_said FileStatement.nothing_said = []
file_enums_said (FileStatement.an_import is_public f) = []
file_enums_said (FileStatement.a_package p) = []
file_enums_said (FileStatement.a_message m) = []
file_enums_said (FileStatement.an_extend ms) = []
file_enums_said (FileStatement.a_service s) = []

abbrev pub services_said : FileStatement → List DeclaredService
services_said (FileStatement.a_service s) = s ∷ []
services_said FileStatement.nothing_said = []
services_said (FileStatement.an_import is_public f) = []
services_said (FileStatement.a_package p) = []
services_said (FileStatement.a_message m) = []
services_said (FileStatement.an_extend ms) = []
services_said (FileStatement.an_enum e) = []

-- ---- full names of entries and groups

-- Only the field of a map or a group has both a type's number and a name: a scalar has no name, and a type that is named has no number.
abbrev pub scoped_field : List ℕ → DeclaredField → DeclaredField
scoped_field scope f = by_type f.type_code f.type_name
  where
    by_type : Option TypeCode → Option (List ℕ) → DeclaredField
    by_type (Some c) (Some entry) = record f { type_name = Some (46 ∷ in_scope scope entry) }
    by_type (Some c) None = f
    by_type None name = f

abbrev mutual
  pub scoped : List ℕ → DeclaredMessage → DeclaredMessage
  scoped scope (message_decl head inner) =
      message_decl (record head { fields = map (scoped_field (in_scope scope head.name)) head.fields }) (all_scoped (in_scope scope head.name) inner)

  pub all_scoped : List ℕ → DeclaredMessages → DeclaredMessages
  all_scoped scope no_messages = no_messages
  all_scoped scope (more_messages m ms) = more_messages (scoped scope m) (all_scoped scope ms)

-- the file of this name, read by a grammar, whose statements after its syntax are these
abbrev pub file_of : Grammar → List ℕ → List FileStatement → DeclaredFile
file_of g name ss = record {
  name = name;
  package_name = package_of ss;
  imports = all_said imports_said ss;
  public_indexes = public_from 0 ss;
  messages = all_scoped (package_of ss) (messages_of (all_said file_messages_said ss));
  enums = all_said file_enums_said ss;
  services = all_said services_said ss;
  is_proto2 = is_proto2 g;
}
