-- Worked cases of the pairs of a comparison: where it begins, how each pair is reached, and in which order.
use Rattle.std.proofs.Common.{◌≡◌, ◌≤◌, inl, inr, ℕ, List, [], ◌∷◌, Option, Some, None, refl, ap, arith, Contains}
use Rattle.std.specs.Prelude.{Vec}
use Rattle.std.specs.declared.alloc.Global.{Global}
use Rattle.pb_graphs.proofs.ContainsLemmas.{Contains-first, Contains-one}
use Rattle.pb_schema.specs.declared.types.Kind.TheVariants as kind
use Rattle.pb_schema.specs.declared.types.Shape.TheVariants as shape
use Rattle.pb_schema.specs.Types.{FieldView, MessageView, Types}
use Rattle.pb_compat.specs.declared.difference.ComparedTypes.{ComparedTypes}
use Rattle.pb_compat.specs.declared.difference.Difference.{Difference}
use Rattle.pb_compat.specs.declared.difference.Step.{Step}
use Rattle.pb_compat.specs.Pairs.{ReachedIn, begun_in, further_in, IsWithinFields, IsReachedBy, IsNoLater, AreInOrder, IsComparison}

abbrev holds : ℕ → ℕ → FieldView
holds n m = record { name = []; number = n; kind = kind.Message (record { 0 = m }); shape = shape.Explicit }

abbrev a_message : List FieldView → MessageView
a_message fs = record { name = []; file = 0; parent = None; fields = fs; oneofs = [] }

-- message A { B b = 1; C c = 2; C d = 3; }, message B { A a = 1; C c = 2; }, message C { A a = 1; }
abbrev pool : Types
pool = record {
  files = [];
  messages = a_message (holds 1 1 ∷ holds 2 2 ∷ holds 3 2 ∷ []) ∷ a_message (holds 1 0 ∷ holds 2 2 ∷ []) ∷ a_message (holds 1 0 ∷ []) ∷ [];
  enums = [];
}

none_some : {x : ℕ × ℕ} → ◌≡◌ {A = Option (ℕ × ℕ)} None (Some x) → ⊥
none_some p = cc

abbrev of_a : List (ℕ × ℕ)
of_a = (0, 0) ∷ []

abbrev step : ℕ → ℕ → Step
step from field = record { from = from; field = field }

-- the first numbers of equal pairs
abbrev first_of : Option (ℕ × ℕ) → ℕ
first_of None = 0
first_of (Some p) = p.0

firsts : (o q : Option (ℕ × ℕ)) → o ≡ q → first_of o ≡ first_of q
firsts o q e = ap first_of e

module _ (none : Vec Difference Global) where
  abbrev pair : ℕ → Option Step → ComparedTypes
  pair m s = record { old = record { 0 = m }; new = record { 0 = m }; reached_by = s; differences = none }

  -- A with itself, and then B and C
  abbrev in_order : List ComparedTypes
  in_order = pair 0 None ∷ pair 1 (Some (step 0 1)) ∷ pair 2 (Some (step 0 2)) ∷ []

  -- WHERE IT BEGINS

  first_pair : IsReachedBy pool pool of_a in_order 0 (pair 0 None) None
  first_pair = refl

  -- B and A hold each other, and A was asked for
  other_start : IsReachedBy pool pool of_a (pair 1 None ∷ pair 0 (Some (step 0 1)) ∷ []) 0 (pair 1 None) None → ⊥
  other_start h = let e : ◌≡◌ {A = ℕ} 0 1 = firsts (Some (0, 0)) (Some (1, 1)) h in omega (arith, e)

  not_compared_from_b : IsComparison pool pool (0, 0) (pair 1 None ∷ pair 0 (Some (step 0 1)) ∷ []) → ⊥
  not_compared_from_b h = let e = h.steps 0 (pair 1 None) refl in absurd (other_start e)

  later_without_step : IsReachedBy pool pool of_a in_order 1 (pair 1 None) None → ⊥
  later_without_step h = absurd (none_some h)

  -- of two with which it begins the second is not reached by a field
  start_by_step : IsReachedBy pool pool ((0, 0) ∷ (1, 1) ∷ []) in_order 1 (pair 1 (Some (step 0 1))) (Some (step 0 1)) → ⊥
  start_by_step h = let e = h.0 in omega (arith, e)

  -- HOW EACH IS REACHED

  by_its_field : IsReachedBy pool pool of_a in_order 1 (pair 1 (Some (step 0 1))) (Some (step 0 1))
  by_its_field = (omega arith, omega arith, refl)

  by_another_field : IsReachedBy pool pool of_a in_order 1 (pair 1 (Some (step 0 2))) (Some (step 0 2)) → ⊥
  by_another_field h = let e : ◌≡◌ {A = ℕ} 2 1 = firsts (Some (2, 2)) (Some (1, 1)) h.2 in omega (arith, e)

  by_itself : IsReachedBy pool pool of_a in_order 1 (pair 1 (Some (step 1 1))) (Some (step 1 1)) → ⊥
  by_itself h = let e = h.1 in omega (arith, e)

  -- IN WHICH ORDER

  earlier_pair : IsNoLater (step 0 3) (step 1 1)
  earlier_pair = inl (omega arith)

  later_pair : IsNoLater (step 1 1) (step 0 3) → ⊥
  later_pair (inl h) = omega (arith, h)
  later_pair (inr h) = let e = h.0 in omega (arith, e)

  smaller_number : IsNoLater (step 0 1) (step 0 2)
  smaller_number = inr (refl, omega arith)

  greater_number : IsNoLater (step 0 2) (step 0 1) → ⊥
  greater_number (inl h) = omega (arith, h)
  greater_number (inr h) = let e = h.1 in omega (arith, e)

  -- C before B, of which A has the field of the smaller number
  turned : AreInOrder pool pool (pair 0 None ∷ pair 2 (Some (step 0 2)) ∷ pair 1 (Some (step 0 1)) ∷ []) → ⊥
  turned h = greater_number (h.ordered 1 2 (pair 2 (Some (step 0 2))) (pair 1 (Some (step 0 1))) (step 0 2) (step 0 1) (omega arith) refl refl refl refl)

  -- C by the second field that leads there
  second_field : AreInOrder pool pool (pair 0 None ∷ pair 1 (Some (step 0 1)) ∷ pair 2 (Some (step 0 3)) ∷ []) → ⊥
  second_field h = clash (h.first 0 2 2 (pair 0 None) (pair 2 (Some (step 0 3))) (step 0 3) refl refl refl refl)
    where
      clash : IsNoLater (step 0 3) (step 0 2) → ⊥
      clash (inl e) = omega (arith, e)
      clash (inr e) = let l = e.1 in omega (arith, l)

  -- C by a field of B, though A leads there
  later_field : AreInOrder pool pool (pair 0 None ∷ pair 1 (Some (step 0 1)) ∷ pair 2 (Some (step 1 2)) ∷ []) → ⊥
  later_field h = clash (h.first 0 2 2 (pair 0 None) (pair 2 (Some (step 1 2))) (step 1 2) refl refl refl refl)
    where
      clash : IsNoLater (step 1 2) (step 0 2) → ⊥
      clash (inl e) = omega (arith, e)
      clash (inr e) = let l = e.0 in omega (arith, l)

-- BY HOW MANY FIELDS

two_fields : ReachedIn pool pool (0, 0) 2 (2, 2)
two_fields = further_in 2 (further_in 1 begun_in refl) refl

within_one : IsWithinFields pool pool of_a 1 (2, 2)
within_one = record { start = (0, 0); given_start = Contains-first (0, 0) []; fields = 1; few = omega arith; reached = further_in 3 begun_in refl }

not_by_none : IsWithinFields pool pool of_a 0 (2, 2) → ⊥
not_by_none w = by w.start w.fields w.few w.given_start w.reached
  where
    by : (start : ℕ × ℕ) (n : ℕ) → n ≤ 0 → Contains of_a start → ReachedIn pool pool start n (2, 2) → ⊥
    by start n few there begun_in = let e = ap (λ (p : ℕ × ℕ). p.0) (Contains-one (0, 0) (2, 2) there) in omega (arith, e)
    by start n few there (further_in {fields = m} k r to) = omega (arith, few)
