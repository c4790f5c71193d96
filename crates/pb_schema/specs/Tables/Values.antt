-- The table of the numbers of values.
use Rattle.std.specs.Prelude.{◌≡◌, ◌-ℤ◌, ℕ, ℤ, pos, Bool, true, cond, List, Option, None, Some, slice_get, IsTrue}
use Rattle.std.specs.List.{list_any, position_from}
use Rattle.std.specs.Ordering.{int_eq, int_cmp}
use Rattle.std.specs.BTreeMap.{BTreeMap, get}
use Rattle.pb_schema.specs.declared.tables.values.ValueTable.{ValueTable}

-- the place that is noted already, or else this one where it is to be noted
abbrev pub or_first : Option ℕ → Bool → ℕ → Option ℕ
or_first (Some earlier) same place = Some earlier
or_first None same place = cond same (Some place) None

-- the places after that of a number was noted
abbrev pub IsNoted : BTreeMap ℤ ℕ → BTreeMap ℤ ℕ → ℤ → ℕ → Type 0
IsNoted old new number place = (z : ℤ) → get int_cmp new z ≡ or_first (get int_cmp old z) (int_eq number z) place

-- each number has the place of the first value with it
abbrev pub AreFirstsOf : List (List ℕ × ℤ) → BTreeMap ℤ ℕ → Type 0
AreFirstsOf values firsts = (z : ℤ) → get int_cmp firsts z ≡ position_from (λ v. int_eq v.1 z) 0 values

-- a number that is marked, at its distance from the least, is that of a value
abbrev pub AreMarksOf : List (List ℕ × ℤ) → ℤ → List Bool → Type 0
AreMarksOf values least marks = (i : ℕ) → slice_get marks i ≡ Some true → (z : ℤ) → z -ℤ least ≡ pos i → IsTrue (list_any (λ v. int_eq v.1 z) values)

pub record IsValueTable (values : List (List ℕ × ℤ)) (t : ValueTable) : Type 0 where
  pub firsts : AreFirstsOf values t.firsts
  pub marks : AreMarksOf values t.least t.marks.items
