-- The type names and files in declarations.
use Rattle.std.specs.Prelude.{ℕ, List, [], ◌∷◌, option_to_list, string_bytes, Option, Some, None}
use Rattle.pb_declarations.specs.Decls.{DeclaredFile}
use Rattle.pb_link_names.specs.Declarations.{Item, a_file, a_message, a_field, a_oneof, an_enum, a_value, a_service, a_method}
use Rattle.pb_link_names.specs.declared.type_refs.TypeRefs.{TypeRefs}
use Rattle.pb_link_names.specs.declared.type_refs.TypeRefs.TheVariants as refs

-- the type names that are written in a declaration
abbrev pub names_in : Item → List (List ℕ)
names_in (a_file f) = []
names_in (a_message head inner) = []
names_in (a_field head i f) = option_to_list f.type_name
names_in (a_oneof head i name) = []
names_in (an_enum e) = []
names_in (a_value e i v) = []
names_in (a_service s) = []
names_in (a_method m) = m.input ∷ m.output ∷ []

abbrev pub refs_view : TypeRefs → List (List ℕ)
refs_view refs.None = []
refs_view (refs.One name) = string_bytes name.now ∷ []
refs_view (refs.Two input output) = string_bytes input.now ∷ string_bytes output.now ∷ []

-- the file, of a declaration of one
abbrev pub file_in : Item → Option DeclaredFile
file_in (a_file f) = Some f
file_in (a_message head inner) = None
file_in (a_field head i f) = None
file_in (a_oneof head i name) = None
file_in (an_enum e) = None
file_in (a_value e i v) = None
file_in (a_service s) = None
file_in (a_method m) = None
