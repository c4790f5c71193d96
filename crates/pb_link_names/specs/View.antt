-- The declarations as the definitions see them, and the results of looking up their type names.
use Rattle.std.specs.Prelude.{◌≡◌, List, [], ◌∷◌, ◌++◌, map, take, string_bytes}
use Rattle.pb_link_names.specs.Declarations.{Declaration}
use Rattle.pb_link_names.specs.ItemView.{item_view}
use Rattle.pb_link_names.specs.Lookup.{Found, found, not_found, not_visible, not_a_type}
use Rattle.pb_link_names.specs.declared.declaration.Declaration.{Declaration as DeclarationValue}
use Rattle.pb_link_names.specs.declared.found.Found.{Found as FoundValue}
use Rattle.pb_link_names.specs.declared.found.Found.TheVariants as value
use Rattle.pb_link_names.specs.declared.found.TypeNames.{TypeNames}
use Rattle.pb_link_names.specs.declared.found.TypeNames.TheVariants as names

abbrev pub declaration_view : DeclarationValue → Declaration
declaration_view d = record { file = d.file; parent = d.parent; scope = take d.scope_len (string_bytes d.full_name); item = item_view d.item }

-- these declarations were appended to the list
abbrev pub Adds : List DeclarationValue → List DeclarationValue → List Declaration → Type 0
Adds old new more = map declaration_view new ≡ map declaration_view old ++ more

abbrev pub found_view : FoundValue → Found
found_view (value.Type place) = found place
found_view value.NotFound = not_found
found_view value.NotVisible = not_visible
found_view value.NotAType = not_a_type

abbrev pub type_names_view : TypeNames → List Found
type_names_view names.None = []
type_names_view (names.One f) = found_view f ∷ []
type_names_view (names.Two f g) = found_view f ∷ found_view g ∷ []
