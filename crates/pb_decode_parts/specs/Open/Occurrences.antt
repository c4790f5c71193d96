-- How many whole records of each number are in a payload so far.
use Rattle.std.specs.Prelude.{◌≡◌, ℕ, suc, ◌<◌, ◌≤◌, List, length, slice_index_or, ◌==◌, if◌then◌else◌, Option, Some, IsSome, unwrap_or}
use Rattle.std.specs.Map.{lookup}
use Rattle.std.specs.BTreeMap.{BTreeMap, get}
use Rattle.std.specs.Ordering.{nat_cmp}
use Rattle.pb_wire.specs.Record.{Record}
use Rattle.pb_wire.specs.Fault.{step}

-- the count that is first with the number
abbrev pub found : ℕ → List (ℕ × ℕ) → Option ℕ
found number counts = lookup (λ k. number == k) counts

-- how many records of the number there are by the counts
abbrev pub counts_view : List (ℕ × ℕ) → ℕ → ℕ
counts_view counts number = unwrap_or (found number counts) 0

-- these counts with one more record of the number
abbrev pub one_more_of : ℕ → (ℕ → ℕ) → ℕ → ℕ
one_more_of number count k = if k == number then suc (count k) else count k

-- the counts are those of these records
abbrev pub CountsOf : (ℕ → ℕ) → List Record → Type 0
CountsOf count rs = (k : ℕ) → count k ≡ (step k rs).occurrence

-- the new counts have this one with the number, and with every other number what the old ones have
abbrev pub Sets : ℕ → ℕ → List (ℕ × ℕ) → List (ℕ × ℕ) → Type 0
Sets number count old new = (k : ℕ) → found k new ≡ (if k == number then Some count else found k old)

-- the number of the count at a place
abbrev pub number_at : List (ℕ × ℕ) → ℕ → ℕ
number_at counts i = let entry = slice_index_or counts i (0, 0) in entry.0

abbrev pub IsRising : List (ℕ × ℕ) → Type 0
IsRising counts = (i j : ℕ) → i < j → j < length counts → number_at counts i < number_at counts j

-- the number has its count at this place
pub record IsAt (counts : List (ℕ × ℕ)) (number i : ℕ) : Type 0 where
  pub in_range : i < length counts
  pub has_number : number_at counts i ≡ number

-- the number would go to this place: lesser ones before it, and greater ones from it on
pub record IsGapFor (counts : List (ℕ × ℕ)) (number i : ℕ) : Type 0 where
  pub in_range : i ≤ length counts
  pub less_before : (j : ℕ) → j < i → number_at counts j < number
  pub greater_after : (j : ℕ) → i ≤ j → j < length counts → number < number_at counts j

-- the numbers of a run rise, and each of the others is below one of them
pub record IsKept (run : List (ℕ × ℕ)) (others : BTreeMap ℕ ℕ) : Type 0 where
  pub rising : IsRising run
  pub below : (k : ℕ) → IsSome (get nat_cmp others k) → (i : ℕ) × (i < length run) × (k < number_at run i)
