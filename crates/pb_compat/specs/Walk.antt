-- How the pairs of types are walked, for private functions alone.
use Rattle.std.specs.Prelude.{◌≡◌, ◌<◌, ◌≤◌, ◌⊎◌, ℕ, List, [], ◌∷◌, ◌++◌, length, take, Option, Some, None, slice_get, Contains, IsSomeAnd}
use Rattle.std.specs.List.{AllByRecursion}
use Rattle.pb_schema.specs.Types.{Types}
use Rattle.pb_schema.specs.Names.{AllDiffer}
use Rattle.pb_compat.specs.declared.difference.ComparedTypes.{ComparedTypes}
use Rattle.pb_compat.specs.declared.difference.Step.{Step}
use Rattle.pb_compat.specs.declared.pairs.Pairs.{Pairs}
use Rattle.pb_compat.specs.Pairs.{leads, ReachedFrom, types_of, AreDifferences, IsNoLater}

abbrev pub pairs_of : Pairs → List (ℕ × ℕ)
pairs_of p = p.seen.keys

abbrev pub steps_of : Pairs → List (Option Step)
steps_of p = p.steps.items

-- the pair is there already, or it and its step are added
abbrev pub Adds : (ℕ × ℕ) → Option Step → Pairs → Pairs → Type 0
Adds q s a b =
    (Contains (pairs_of a) q × (pairs_of b ≡ pairs_of a) × (steps_of b ≡ steps_of a))
    ⊎ ((¬ Contains (pairs_of a) q) × (pairs_of b ≡ pairs_of a ++ q ∷ []) × (steps_of b ≡ steps_of a ++ s ∷ []))

abbrev pub IsStep : Types → Types → List (ℕ × ℕ) → List (ℕ × ℕ) → ℕ → (ℕ × ℕ) → Option Step → Type 0
IsStep old new starts ks i p None = slice_get starts i ≡ Some p
IsStep old new starts ks i p (Some s) = (length starts ≤ i) × (s.from < i) × IsSomeAnd (slice_get ks s.from) (λ q. leads old new q s.field ≡ Some p)

abbrev pub IsWithin : Types → Types → (ℕ × ℕ) → Type 0
IsWithin old new p = (p.0 < length old.messages) × (p.1 < length new.messages)

-- pairs that are reached from some, each once, in order, with how each was reached first
pub record IsWalk (old new : Types) (starts : List (ℕ × ℕ)) (ks : List (ℕ × ℕ)) (ss : List (Option Step)) : Type 0 where
  pub size : length ss ≡ length ks
  pub differ : AllDiffer ks
  pub reached : AllByRecursion (ReachedFrom old new starts) ks
  pub within : AllByRecursion (IsWithin old new) ks
  pub steps : (i : ℕ) (p : ℕ × ℕ) (s : Option Step) → slice_get ks i ≡ Some p → slice_get ss i ≡ Some s → IsStep old new starts ks i p s
  pub first :
      (i j k : ℕ) (p q : ℕ × ℕ) (s : Step) → slice_get ks i ≡ Some p → slice_get ks j ≡ Some q → leads old new p k ≡ Some q → slice_get ss j ≡ Some (Some s)
      → IsNoLater s (record { from = i; field = k })
  pub ordered : (i j : ℕ) (s t : Step) → i < j → slice_get ss i ≡ Some (Some s) → slice_get ss j ≡ Some (Some t) → IsNoLater s t

-- the first j of those where a walk begins are there, and no other pair
pub record HasBegun (old new : Types) (starts : List (ℕ × ℕ)) (j : ℕ) (ps : Pairs) : Type 0 where
  pub walk : IsWalk old new starts (pairs_of ps) (steps_of ps)
  pub same : pairs_of ps ≡ take j starts
  pub given_steps : (i : ℕ) (s : Step) → slice_get (steps_of ps) i ≡ Some (Some s) → ⊥

-- what the fields of the first n pairs lead to is there
abbrev pub IsClosed : Types → Types → List (ℕ × ℕ) → ℕ → Type 0
IsClosed old new ks n = (i k : ℕ) (p q : ℕ × ℕ) → i < n → slice_get ks i ≡ Some p → leads old new p k ≡ Some q → Contains ks q

-- The walk is at the pair p, which has the index i: it has followed the pairs before it, and of p the fields of these numbers.
pub record IsWalkAt (old new : Types) (starts : List (ℕ × ℕ)) (i : ℕ) (p : ℕ × ℕ) (numbers : List ℕ) (ps : Pairs) : Type 0 where
  pub walk : IsWalk old new starts (pairs_of ps) (steps_of ps)
  pub begun : length starts ≤ length (pairs_of ps)
  pub at : slice_get (pairs_of ps) i ≡ Some p
  pub closed : IsClosed old new (pairs_of ps) i
  pub listed : (k : ℕ) (q : ℕ × ℕ) → Contains numbers k → leads old new p k ≡ Some q → Contains (pairs_of ps) q
  pub before : (j : ℕ) (s : Step) → slice_get (steps_of ps) j ≡ Some (Some s) → (s.from < i) ⊎ ((s.from ≡ i) × Contains numbers s.field)

-- the pairs that the fields of these numbers lead to from p, which is the one at i, are added
pub record Follows (old new : Types) (i : ℕ) (p : ℕ × ℕ) (numbers : List ℕ) (a b : Pairs) : Type 0 where
  pub added : List (ℕ × ℕ)
  pub more : pairs_of b ≡ pairs_of a ++ added
  pub added_steps : List (Option Step)
  pub more_steps : steps_of b ≡ steps_of a ++ added_steps
  pub walk : (starts : List (ℕ × ℕ)) → IsWalkAt old new starts i p [] a → IsWalkAt old new starts i p numbers b

-- so are all pairs that fields lead to from p
pub record FollowsAll (old new : Types) (i : ℕ) (p : ℕ × ℕ) (a b : Pairs) : Type 0 where
  pub numbers : List ℕ
  pub all : (k : ℕ) (q : ℕ × ℕ) → leads old new p k ≡ Some q → Contains numbers k
  pub follows : Follows old new i p numbers a b

-- the first pairs are compared
pub record AreCompared (old new : Types) (starts : List (ℕ × ℕ)) (ps : Pairs) (cs : List ComparedTypes) : Type 0 where
  pub walk : IsWalk old new starts (pairs_of ps) (steps_of ps)
  pub begun : length starts ≤ length (pairs_of ps)
  pub closed : IsClosed old new (pairs_of ps) (length cs)
  pub before : (j : ℕ) (s : Step) → slice_get (steps_of ps) j ≡ Some (Some s) → s.from < length cs
  pub within : length cs ≤ length (pairs_of ps)
  pub pairs : (i : ℕ) (c : ComparedTypes) → slice_get cs i ≡ Some c → slice_get (pairs_of ps) i ≡ Some (types_of c)
  pub steps : (i : ℕ) (c : ComparedTypes) → slice_get cs i ≡ Some c → slice_get (steps_of ps) i ≡ Some c.reached_by
  pub differences : AllByRecursion (λ c. AreDifferences old new c.old.0 c.new.0 c.differences.items) cs
