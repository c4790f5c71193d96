-- The values of enums.
use Rattle.std.specs.Prelude.{ℕ, ℤ, List, [], Option, Some, None, option_map, find, slice_get}
use Rattle.std.specs.Ordering.{int_eq}
use Rattle.pb_schema.specs.Types.{EnumView, Types}

abbrev pub values_of_enum : Option EnumView → List (List ℕ × ℤ)
values_of_enum None = []
values_of_enum (Some t) = t.values

-- the values of an enum, each a name and a number; an index out of range has none
abbrev pub enum_values : Types → ℕ → List (List ℕ × ℤ)
enum_values pool e = values_of_enum (slice_get pool.enums e)

-- the name of the first value with a number
abbrev pub value_name : ℤ → List (List ℕ × ℤ) → Option (List ℕ)
value_name number values = option_map (λ v. v.0) (find (λ v. int_eq v.1 number) values)
