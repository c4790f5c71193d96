-- Which types are compared, and what their comparison reports.
use Rattle.std.specs.Prelude.{◌≡◌, ◌↔◌, ◌⊎◌, ◌<◌, ◌≤◌, ℕ, suc, List, [], ◌∷◌, length, map, flat_map, Option, Some, None, option_and_then}
use Rattle.std.specs.Prelude.{slice_get, Contains, IsSomeAnd}
use Rattle.std.specs.List.{AllByRecursion}
use Rattle.std.specs.List.Sorted.{IsPermutation, IsNonDecreasing}
use Rattle.pb_schema.specs.Types.{FieldView, Types, message_fields, field_numbered}
use Rattle.pb_schema.specs.Kinds.{message_of_kind}
use Rattle.pb_schema.specs.Names.{AllDiffer}
use Rattle.pb_compat.specs.declared.difference.Difference.{Difference}
use Rattle.pb_compat.specs.declared.difference.ComparedTypes.{ComparedTypes}
use Rattle.pb_compat.specs.declared.difference.Step.{Step}
use Rattle.pb_compat.specs.Fields.{differences_at}

-- PAIRS

-- where two fields lead, if both hold messages
abbrev pub pair_of : Option ℕ → Option ℕ → Option (ℕ × ℕ)
pair_of None b = None
pair_of (Some a) None = None
pair_of (Some a) (Some b) = Some (a, b)

-- the message type of the field of a number
abbrev pub message_at : Types → ℕ → ℕ → Option ℕ
message_at pool m k = option_and_then (λ f. message_of_kind f.kind) (field_numbered k (message_fields pool m))

-- where the fields of a number lead from a pair of a type of the old pool and one of the new pool
abbrev pub leads : Types → Types → (ℕ × ℕ) → ℕ → Option (ℕ × ℕ)
leads old new p k = pair_of (message_at old p.0 k) (message_at new p.1 k)

-- the pairs that are reached from some: these, and where the fields of a reached pair lead
pub data ReachedFrom (old new : Types) (starts : List (ℕ × ℕ)) : (ℕ × ℕ) → Type 0 where
  given : {p : ℕ × ℕ} → Contains starts p → ReachedFrom old new starts p
  onward : {p q : ℕ × ℕ} (k : ℕ) → ReachedFrom old new starts p → leads old new p k ≡ Some q → ReachedFrom old new starts q

-- the pairs that are reached from one by this many fields, one in another
pub data ReachedIn (old new : Types) (start : ℕ × ℕ) : ℕ → (ℕ × ℕ) → Type 0 where
  begun_in : ReachedIn old new start 0 start
  further_in : {fields : ℕ} {p q : ℕ × ℕ} (k : ℕ) → ReachedIn old new start fields p → leads old new p k ≡ Some q → ReachedIn old new start (suc fields) q

-- the same by at most so many fields, from one of some pairs
pub record IsWithinFields (old new : Types) (starts : List (ℕ × ℕ)) (most : ℕ) (p : ℕ × ℕ) : Type 0 where
  pub start : ℕ × ℕ
  pub given_start : Contains starts start
  pub fields : ℕ
  pub few : fields ≤ most
  pub reached : ReachedIn old new start fields p

-- more pairs than this are reached from some
abbrev pub ReachesMore : Types → Types → List (ℕ × ℕ) → ℕ → Type 0
ReachesMore old new starts most = (ps : List (ℕ × ℕ)) × AllDiffer ps × AllByRecursion (ReachedFrom old new starts) ps × (most < length ps)

-- A COMPARISON

-- the numbers of some fields, in rising order
pub record AreRising (fs : List FieldView) (numbers : List ℕ) : Type 0 where
  pub all : IsPermutation (map (λ f. f.number) fs) numbers
  pub rising : IsNonDecreasing numbers

-- all differences between two types, by rising field number
pub record AreDifferences (old new : Types) (m n : ℕ) (ds : List Difference) : Type 0 where
  pub numbers : List ℕ
  pub rising : AreRising (message_fields old m) numbers
  pub listed : ds ≡ flat_map (differences_at old new m n) numbers

abbrev pub types_of : ComparedTypes → ℕ × ℕ
types_of c = (c.old.0, c.new.0)

-- The pairs where the comparison began come first, in their order; each other one is reached by a field of an earlier one.
abbrev pub IsReachedBy : Types → Types → List (ℕ × ℕ) → List ComparedTypes → ℕ → ComparedTypes → Option Step → Type 0
IsReachedBy old new starts cs i c None = slice_get starts i ≡ Some (types_of c)
IsReachedBy old new starts cs i c (Some s) =
    (length starts ≤ i) × (s.from < i) × IsSomeAnd (slice_get cs s.from) (λ d. leads old new (types_of d) s.field ≡ Some (types_of c))

-- A step is no later than another: it goes from an earlier pair, or from the same one by a field of no greater number.
abbrev pub IsNoLater : Step → Step → Type 0
IsNoLater s t = (s.from < t.from) ⊎ ((s.from ≡ t.from) × (s.field ≤ t.field))

-- Each pair has the first step that leads to it, and the pairs stand in the order of their steps.
pub record AreInOrder (old new : Types) (cs : List ComparedTypes) : Type 0 where
  pub first :
      (i j k : ℕ) (c d : ComparedTypes) (s : Step) → slice_get cs i ≡ Some c → slice_get cs j ≡ Some d → leads old new (types_of c) k ≡ Some (types_of d)
      → d.reached_by ≡ Some s → IsNoLater s (record { from = i; field = k })
  pub ordered :
      (i j : ℕ) (c d : ComparedTypes) (s t : Step) → i < j → slice_get cs i ≡ Some c → slice_get cs j ≡ Some d → c.reached_by ≡ Some s → d.reached_by ≡ Some t
      → IsNoLater s t

-- All pairs that are reached from some, each once, in order, with its differences and how it is reached. The pairs where it begins differ.
pub record IsComparisonFrom (old new : Types) (starts : List (ℕ × ℕ)) (cs : List ComparedTypes) : Type 0 where
  pub reached : (p : ℕ × ℕ) → Contains (map types_of cs) p ↔ ReachedFrom old new starts p
  pub once : AllDiffer (map types_of cs)
  pub steps : (i : ℕ) (c : ComparedTypes) → slice_get cs i ≡ Some c → IsReachedBy old new starts cs i c c.reached_by
  pub order : AreInOrder old new cs
  pub differences : AllByRecursion (λ c. AreDifferences old new c.old.0 c.new.0 c.differences.items) cs

-- from one pair
abbrev pub IsComparison : Types → Types → (ℕ × ℕ) → List ComparedTypes → Type 0
IsComparison old new start cs = IsComparisonFrom old new (start ∷ []) cs
