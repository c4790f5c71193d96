-- The table of the numbers of fields.
use Rattle.std.specs.Prelude.{◌≡◌, ◌↔◌, ℕ, List, Some, option_map, Contains, slice_get}
use Rattle.std.specs.List.Sorted.{IsNonDecreasingBy}
use Rattle.pb_schema.specs.Types.{FieldView}

-- the field at the index has the number
abbrev pub IsNumbered : List FieldView → ℕ → ℕ → Type 0
IsNumbered fs n i = option_map (λ f. f.number) (slice_get fs i) ≡ Some n

-- the numbers of the fields in rising order, each with the index of its field
pub record IsNumberTable (fs : List FieldView) (table : List (ℕ × ℕ)) : Type 0 where
  pub rising : IsNonDecreasingBy (λ e. e.0) table
  pub exact : (n i : ℕ) → Contains table (n, i) ↔ IsNumbered fs n i
