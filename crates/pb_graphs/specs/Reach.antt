-- What is reached along a graph from some indexes, and the bits that say so.
use Rattle.std.specs.Prelude.{◌≡◌, ◌<◌, ◌≤◌, ◌+◌, ◌*◌, ◌↔◌, ◌⊎◌, ℕ, List, [], ◌++◌, length, Bool}
use Rattle.std.specs.Prelude.{false, cond, IsTrue, unwrap_or, slice_get, Contains, sum_by}
use Rattle.std.specs.List.{slice_index_or, AllByRecursion}
use Rattle.pb_graphs.specs.declared.reach.Reach.{Reach}

-- where an index of a graph leads
abbrev pub next_of : List (List ℕ) → ℕ → List ℕ
next_of graph i = unwrap_or (slice_get graph i) []

-- the starts, and where what is reached leads
pub data Reached (graph : List (List ℕ)) (starts : List ℕ) : ℕ → Type 0 where
  begun : {j : ℕ} → Contains starts j → Reached graph starts j
  further : {k j : ℕ} → Reached graph starts k → Contains (next_of graph k) j → Reached graph starts j

-- all indexes of a graph lie in it
abbrev pub IsGraph : List (List ℕ) → Type 0
IsGraph graph = AllByRecursion (AllByRecursion (λ j. j < length graph)) graph

abbrev pub is_marked : Reach → ℕ → Bool
is_marked r j = slice_index_or r.bits.items j false

-- the list has the indexes whose bits are set
pub record IsListed (r : Reach) : Type 0 where
  pub listed : (j : ℕ) → IsTrue (is_marked r j) ↔ Contains r.reached.items j

-- how many bits are not set
abbrev pub clear_count : List Bool → ℕ
clear_count bits = sum_by (λ b. cond b 0 1) bits

-- the bits of these indexes are set, and the list grows by those that were not
pub record Marks (indexes : List ℕ) (old new : Reach) : Type 0 where
  pub size : length new.bits.items ≡ length old.bits.items
  pub listed : IsListed old → IsListed new
  pub exact : (j : ℕ) → IsTrue (is_marked new j) ↔ (IsTrue (is_marked old j) ⊎ Contains indexes j)
  pub kept : (rest : List ℕ) × (new.reached.items ≡ old.reached.items ++ rest)
  pub work : 2 * clear_count new.bits.items + length new.reached.items ≤ 2 * clear_count old.bits.items + length old.reached.items

-- no bit is set
pub record IsClear (r : Reach) : Type 0 where
  pub clear : (j : ℕ) → is_marked r j ≡ false
  pub listed : r.reached.items ≡ []
