-- The tables of names.
use Rattle.std.specs.Prelude.{◌≡◌, ℕ, map, List, Option, IfSome, position, find}
use Rattle.std.specs.Str.{bytes_eq}
use Rattle.pb_names.specs.NameSets.{NameSet}
use Rattle.pb_names.specs.NameSets.{names_in}
use Rattle.pb_schema.specs.Types.{FieldView}

-- where there is a table it has the simple names of the fields in their order
abbrev pub IsNameTable : List FieldView → Option NameSet → Type 0
IsNameTable fs table = IfSome table (λ s. names_in s ≡ map (λ f. f.name) fs)

-- the first place of a name among names
abbrev pub place_of : List ℕ → List (List ℕ) → Option ℕ
place_of name names = position (λ x. bytes_eq name x) names

-- the field of a simple name among some
abbrev pub field_named : List ℕ → List FieldView → Option FieldView
field_named name fs = find (λ f. bytes_eq f.name name) fs
