-- Looking up a type name from a scope, among what is seen.
use Rattle.std.specs.Prelude.{ℕ, List, [], ◌∷◌, ◌++◌, reverse, Bool, true, false, not, ◌==◌, ◌&&◌, ◌||◌, if◌then◌else◌}
use Rattle.std.specs.Prelude.{Option, Some, None, option_map, option_and_then, is_some, find, position, take_while}
use Rattle.std.specs.List.{list_any}
use Rattle.std.specs.Str.{bytes_eq}
use Rattle.pb_schema.specs.Names.{in_scope, packages_of, fronts_from}
use Rattle.pb_link_names.specs.Declarations.{Item, a_file, a_message, a_field, a_oneof, an_enum, a_value, a_service}
use Rattle.pb_link_names.specs.Declarations.{a_method, Declaration, has_name, is_type, holds_names}

-- which files are seen
abbrev pub Seen : Type 0
Seen = ℕ → Bool

abbrev pub every_file : Seen
every_file _ = true

-- the first seen type of a full name, by its place
abbrev pub type_named : List Declaration → Seen → List ℕ → Option ℕ
type_named ds sees name = position (λ d. is_type d.item && sees d.file && has_name name d) ds

abbrev pub makes_package : List ℕ → Item → Bool
makes_package name (a_file f) = list_any (bytes_eq name) (packages_of f.package_name)
makes_package name (a_message head inner) = false
makes_package name (a_field head i f) = false
makes_package name (a_oneof head i oneof) = false
makes_package name (an_enum e) = false
makes_package name (a_value e i v) = false
makes_package name (a_service s) = false
makes_package name (a_method m) = false

abbrev pub is_package_name : List Declaration → Seen → List ℕ → Bool
is_package_name ds sees name = list_any (λ d. sees d.file && makes_package name d.item) ds

-- a seen package, message, enum or service has the full name
abbrev pub can_hold : List Declaration → Seen → List ℕ → Bool
can_hold ds sees name = is_package_name ds sees name || list_any (λ d. holds_names d.item && sees d.file && has_name name d) ds

-- a seen declaration or package has the full name
abbrev pub is_taken : List Declaration → Seen → List ℕ → Bool
is_taken ds sees name = is_package_name ds sees name || list_any (λ d. sees d.file && has_name name d) ds

abbrev pub has_dot : List ℕ → Bool
has_dot name = list_any (λ c. c == 46) name

abbrev pub first_part : List ℕ → List ℕ
first_part name = take_while (λ c. not (c == 46)) name

-- the scope and those around it, from the innermost outwards to the empty one
abbrev pub scopes_from : List ℕ → List (List ℕ)
scopes_from [] = [] ∷ []
scopes_from (c ∷ cs) = (c ∷ cs) ∷ (reverse (fronts_from [] (c ∷ cs)) ++ [] ∷ [])

-- A scope decides a name without dots where it declares a seen type of that name, and a compound name where its first part is there a seen
-- package, message, enum or service.
abbrev pub decides : List Declaration → Seen → List ℕ → List ℕ → Bool
decides ds sees name scope =
    if has_dot name then can_hold ds sees (in_scope scope (first_part name)) else is_some (type_named ds sees (in_scope scope name))

-- the full name that a name means: what follows a leading dot, else the name in the innermost scope that decides
abbrev pub decided_name : List Declaration → Seen → List ℕ → List ℕ → Option (List ℕ)
decided_name ds sees scope [] = option_map (λ s. in_scope s []) (find (decides ds sees []) (scopes_from scope))
decided_name ds sees scope (c ∷ cs) =
    if c == 46 then Some cs else option_map (λ s. in_scope s (c ∷ cs)) (find (decides ds sees (c ∷ cs)) (scopes_from scope))

abbrev pub type_found : List Declaration → Seen → List ℕ → List ℕ → Option ℕ
type_found ds sees scope name = option_and_then (type_named ds sees) (decided_name ds sees scope name)

abbrev pub is_taken_if : List Declaration → Seen → Option (List ℕ) → Bool
is_taken_if ds sees None = false
is_taken_if ds sees (Some full_name) = is_taken ds sees full_name

-- a seen declaration or package that is no type has the full name that the name means, or a name without dots in some scope
abbrev pub is_no_type : List Declaration → Seen → List ℕ → List ℕ → Bool
is_no_type ds sees scope name =
    is_taken_if ds sees (decided_name ds sees scope name) || (not (has_dot name) && list_any (λ s. is_taken ds sees (in_scope s name)) (scopes_from scope))

-- what looking up a name comes to
pub data Found : Type 0 where
  -- the type at a place
  found : ℕ → Found
  not_found : Found
  not_visible : Found
  not_a_type : Found

abbrev pub unless_found : Option ℕ → Found → Found
unless_found None other = other
unless_found (Some place) other = found place

abbrev pub looked_up : List Declaration → Seen → List ℕ → List ℕ → Found
looked_up ds sees scope name =
    unless_found (type_found ds sees scope name)
    (if is_some (type_found ds every_file scope name) then not_visible
    else (if is_no_type ds sees scope name then not_a_type else not_found))
