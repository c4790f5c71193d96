-- Files with the types of their fields and methods resolved: each type name is a dot and the full name of the type that looking it up finds,
-- and each type number that was not given is that of the type.
use Rattle.std.specs.Prelude.{◌≡◌, ⊤, ℕ, List, ◌∷◌, map, true, Option, Some, None, IfSome, is_some, option_map, option_and_then, slice_get}
use Rattle.std.specs.List.{AllByRecursion, enumerate_from}
use Rattle.pb_schema.specs.Names.{in_scope}
use Rattle.pb_declarations.specs.declared.decl.TypeCode.{TypeCode}
use Rattle.pb_declarations.specs.declared.decl.TypeCode.TheVariants as code
use Rattle.pb_declarations.specs.Decls.{DeclaredField, MessageHead, DeclaredMessage, message, DeclaredMessages, no_messages}
use Rattle.pb_declarations.specs.Decls.{more_messages, DeclaredMethod, DeclaredService, DeclaredFile}
use Rattle.pb_link_names.specs.Declarations.{Item, a_file, a_message, a_field, a_oneof, an_enum, a_value, a_service, a_method, Declaration, full_name, is_type}
use Rattle.pb_link_names.specs.Lookup.{Found, looked_up}
use Rattle.pb_link_rules.specs.Rules.{World, place_found}
use Rattle.pb_link_rules.specs.Link.{IsWorldOf, NothingFails}

-- the type that was found
abbrev pub type_at : List Declaration → Found → Option Declaration
type_at ds r = option_and_then (slice_get ds) (place_found r)

-- the type that a name means in a scope of a file
abbrev pub type_meant : World → ℕ → List ℕ → List ℕ → Option Declaration
type_meant w file scope name = type_at w.declared (looked_up w.declared (w.sight.sees file) scope name)

-- a dot and the full name of the type; a name that means none stays
abbrev pub full_name_or : List ℕ → Option Declaration → List ℕ
full_name_or name None = name
full_name_or name (Some d) = 46 ∷ full_name d

-- the type number of a type
abbrev pub code_of_item : Item → Option TypeCode
code_of_item (a_message head inner) = Some code.Message
code_of_item (an_enum e) = Some code.Enum
code_of_item (a_file f) = None
code_of_item (a_field head i f) = None
code_of_item (a_oneof head i name) = None
code_of_item (a_value e i v) = None
code_of_item (a_service s) = None
code_of_item (a_method m) = None

-- the type number that was given, else that of the type
abbrev pub code_or : Option TypeCode → Option Declaration → Option TypeCode
code_or (Some given) t = Some given
code_or None None = None
code_or None (Some d) = code_of_item d.item

-- a field whose type name means this type
abbrev pub field_of_type : DeclaredField → Option Declaration → DeclaredField
field_of_type f t = record f { type_code = code_or f.type_code t; type_name = option_map (λ name. full_name_or name t) f.type_name }

-- a field in a message of a file, by the message's full name
abbrev pub resolved_field : World → ℕ → List ℕ → DeclaredField → DeclaredField
resolved_field w file scope f = field_of_type f (option_and_then (type_meant w file scope) f.type_name)

abbrev pub resolved_head : World → ℕ → List ℕ → MessageHead → MessageHead
resolved_head w file scope head = record head { fields = map (resolved_field w file scope) head.fields }

-- messages in a scope of a file
abbrev mutual
  pub resolved_message : World → ℕ → List ℕ → DeclaredMessage → DeclaredMessage
  resolved_message w file scope (message head inner) =
      message (resolved_head w file (in_scope scope head.name) head) (resolved_messages w file (in_scope scope head.name) inner)

  pub resolved_messages : World → ℕ → List ℕ → DeclaredMessages → DeclaredMessages
  resolved_messages w file scope no_messages = no_messages
  resolved_messages w file scope (more_messages m ms) = more_messages (resolved_message w file scope m) (resolved_messages w file scope ms)

-- a method whose type names mean these types
abbrev pub method_of_types : DeclaredMethod → Option Declaration → Option Declaration → DeclaredMethod
method_of_types m input output = record m { input = full_name_or m.input input; output = full_name_or m.output output }

-- a method of a service, by the service's full name
abbrev pub resolved_method : World → ℕ → List ℕ → DeclaredMethod → DeclaredMethod
resolved_method w file scope m = method_of_types m (type_meant w file scope m.input) (type_meant w file scope m.output)

abbrev pub resolved_service : World → ℕ → List ℕ → DeclaredService → DeclaredService
resolved_service w file scope s = record s { methods = map (resolved_method w file (in_scope scope s.name)) s.methods }

abbrev pub resolved_file : World → ℕ → DeclaredFile → DeclaredFile
resolved_file w file f = record f {
  messages = resolved_messages w file f.package_name f.messages;
  services = map (resolved_service w file f.package_name) f.services;
}

-- all files, each at its index
abbrev pub resolved_files : World → List DeclaredFile → List DeclaredFile
resolved_files w files = map (λ e. resolved_file w e.0 e.1) (enumerate_from 0 files)

-- every rule of linking holds of the files, and resolved they are these
pub record Resolves (files : List DeclaredFile) (answer : List DeclaredFile) : Type 0 where
  pub world : World
  pub is_world : IsWorldOf files world
  pub holds : NothingFails world
  pub resolved : answer ≡ resolved_files world files

-- WHAT RESOLVED FILES ARE

-- a dot and the full name of a type among the declarations
pub record IsFullName (ds : List Declaration) (name : List ℕ) : Type 0 where
  pub place : ℕ
  pub meant : Declaration
  pub there : slice_get ds place ≡ Some meant
  pub is_type : is_type meant.item ≡ true
  pub named : name ≡ 46 ∷ full_name meant

-- a field has a type number, and its type name is a full one
pub record IsTyped (ds : List Declaration) (f : DeclaredField) : Type 0 where
  pub numbered : is_some f.type_code ≡ true
  pub named : IfSome f.type_name (IsFullName ds)

-- the type names of a method are full ones
pub record IsTypedMethod (ds : List Declaration) (m : DeclaredMethod) : Type 0 where
  pub input : IsFullName ds m.input
  pub output : IsFullName ds m.output

-- so are those of the fields of a message and of the messages in it
abbrev mutual
  pub AreTyped : List Declaration → DeclaredMessage → Type 0
  AreTyped ds (message head inner) = AllByRecursion (IsTyped ds) head.fields × AreAllTyped ds inner

  pub AreAllTyped : List Declaration → DeclaredMessages → Type 0
  AreAllTyped ds no_messages = ⊤
  AreAllTyped ds (more_messages m ms) = AreTyped ds m × AreAllTyped ds ms

-- each type number of a file is given, and each type name is a full one
pub record IsTypedFile (ds : List Declaration) (f : DeclaredFile) : Type 0 where
  pub messages : AreAllTyped ds f.messages
  pub services : AllByRecursion (λ s. AllByRecursion (IsTypedMethod ds) s.methods) f.services
