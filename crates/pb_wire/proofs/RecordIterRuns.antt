-- What a run of an iterator over records gave, for callers.
use Rattle.std.proofs.Common.{◌≡◌, List, [], ◌∷◌, ◌++◌, refl, sym, ap, subst, ◌∙◌, Option, Some, None, Result, Ok, Err}
use Rattle.std.specs.Prelude.{map, ℕ}
use Rattle.std.specs.Iterator.{Yields, AlwaysYields}
use Rattle.std.proofs.lemmas.Iterator.{YieldsList}
use Rattle.pb_wire.specs.Record.{Record}
use Rattle.pb_wire.specs.Rest.{Rest}
use Rattle.pb_wire.specs.RecordIter.{Seen, seen, Item, item_seen, AreShown, Gives, NextGives, all_ok}
use Rattle.pb_wire.specs.declared.fault.WireFault.{WireFault}
use Rattle.pb_wire.specs.declared.iter.Payload.{Payload}

abbrev pub Given : Type 0
Given = Result (ℕ × Payload) WireFault

-- The items that calls gave are the first of those that were left, and the others are left now. In a `for` this is for `yielded_by`.
pub given_so_far :
    (s t : Rest) (xs : List Given) (items : List Item) → Yields NextGives s xs t → Gives s items
    → (others : List Item) × (items ≡ map item_seen xs ++ others) × Gives t others
given_so_far s t [] items run given = (items, refl, subst (λ (z : Rest). Gives z items) run given)
given_so_far s t (x ∷ xs) items run given =
    let first = run.1.first items given in
    let rest = given_so_far run.0 t xs first.0 run.2 first.2 in
    (rest.0, first.1 ∙ ap (λ (z : List Item). item_seen x ∷ z) rest.1, rest.2)

-- what records give
abbrev pub given_ok : List (ℕ × Payload) → List Given
given_ok [] = []
given_ok (x ∷ xs) = Ok x ∷ given_ok xs

-- a fault after records, at a turn of a `for`
pub fault_after :
    (s t u : Rest) (xs : List Given) (ys : List (ℕ × Payload)) (r : Option Given) (x : Given) (w : WireFault) (items : List Item)
    → Yields NextGives s xs t → xs ≡ given_ok ys → r ≡ Some x → x ≡ Err w → NextGives t r u → Gives s items
    → (others : List Item) × (items ≡ map item_seen (given_ok ys) ++ Err w ∷ others)
fault_after s t u xs ys r x w items run oks is fails step given =
    let before = given_so_far s t xs items run given in
    let e : r ≡ Some (Err w) = is ∙ ap (λ (z : Given). Some z) fails in
    let here = subst (λ (z : Option Given). NextGives t z u) e step in
    let first = here.first before.0 before.2 in (
      first.0,
      before.1 ∙ ap (λ (z : List Item). map item_seen xs ++ z) first.1
          ∙ ap (λ (z : List Given). map item_seen z ++ Err w ∷ first.0) oks,
    )

-- records alone, at the end of a `for`
pub records_alone :
    (s t u : Rest) (xs : List Given) (ys : List (ℕ × Payload)) (r : Option Given) (items : List Item)
    → Yields NextGives s xs t → xs ≡ given_ok ys → r ≡ None → NextGives t r u → Gives s items → items ≡ map item_seen (given_ok ys) ++ []
records_alone s t u xs ys r items run oks is step given =
    let before = given_so_far s t xs items run given in
    let here = subst (λ (z : Option Given). NextGives t z u) is step in
    before.1 ∙ ap (λ (z : List Item). map item_seen xs ++ z) (here.first before.0 before.2).0
    ∙ ap (λ (z : List Given). map item_seen z ++ []) oks

always : (items : List Item) (s : Rest) → Gives s items → AlwaysYields NextGives item_seen s items
always [] s given = λ x j step. let first = step.first [] given in let e = first.1 in cc
always (y ∷ ys) s given = (
  λ j step. let e = (step.first (y ∷ ys) given).0 in cc,
  λ x j step.
      let first = step.first (y ∷ ys) given in
      let e = first.1 in
      let same : item_seen x ≡ y = cc in
      let others : first.0 ≡ ys = cc in
      (same, always ys j (subst (λ (z : List Item). Gives j z) others first.2)),
)

-- for chains of iterators
pub YieldsList-from_Gives : (s : Rest) (items : List Item) → Gives s items → YieldsList NextGives item_seen s items
YieldsList-from_Gives s items given = record { runs = always items s given }

-- ---- lists of items

pub given_ok-push : (xs : List (ℕ × Payload)) (x : ℕ × Payload) → given_ok (xs ++ x ∷ []) ≡ given_ok xs ++ Ok x ∷ []
given_ok-push [] x = refl
given_ok-push (y ∷ xs) x = ap (λ (z : List Given). Ok y ∷ z) (given_ok-push xs x)

pub shown_numbers : (rs : List Record) (xs : List (ℕ × Seen)) (b : List ℕ) → AreShown rs xs b → map (λ x. x.0) xs ≡ map (λ r. r.number) rs
shown_numbers [] [] b h = refl
shown_numbers [] (x ∷ xs) b h = absurd h
shown_numbers (r ∷ rs) [] b h = absurd h
shown_numbers (r ∷ rs) (x ∷ xs) b h =
    ap (λ (z : ℕ). z ∷ map (λ x. x.0) xs) h.2.number ∙ ap (λ (z : List ℕ). r.number ∷ z) (shown_numbers rs xs h.1 h.3)

-- records were given, and nothing follows them
pub all_numbers :
    (xs : List (ℕ × Seen)) (ys : List (ℕ × Payload)) → all_ok xs ≡ map item_seen (given_ok ys) ++ [] → map (λ y. y.0) ys ≡ map (λ x. x.0) xs
all_numbers [] [] e = refl
all_numbers [] (y ∷ ys) e = absurd (cc)
all_numbers (x ∷ xs) [] e = absurd (cc)
all_numbers (x ∷ xs) (y ∷ ys) e =
    let first : x ≡ (y.0, seen y.1) = cc in
    let others : all_ok xs ≡ map item_seen (given_ok ys) ++ [] = cc in
    ap (λ (z : ℕ). z ∷ map (λ y. y.0) ys) (sym (ap (λ (z : ℕ × Seen). z.0) first))
    ∙ ap (λ (z : List ℕ). x.0 ∷ z) (all_numbers xs ys others)

-- no fault is among records
pub no_fault : (xs : List (ℕ × Seen)) (ys : List (ℕ × Payload)) (w : WireFault) (others : List Item) → all_ok xs ≡ map item_seen (given_ok ys) ++ Err w ∷ others → ⊥
no_fault [] [] w others e = cc
no_fault [] (y ∷ ys) w others e = cc
no_fault (x ∷ xs) [] w others e = cc
no_fault (x ∷ xs) (y ∷ ys) w others e = no_fault xs ys w others (let h : all_ok xs ≡ map item_seen (given_ok ys) ++ Err w ∷ others = cc in h)

-- a fault that follows records is not passed over
pub fault_follows : (xs : List (ℕ × Seen)) (ys : List (ℕ × Payload)) (w : WireFault) → all_ok xs ++ Err w ∷ [] ≡ map item_seen (given_ok ys) ++ [] → ⊥
fault_follows [] [] w e = cc
fault_follows [] (y ∷ ys) w e = cc
fault_follows (x ∷ xs) [] w e = cc
fault_follows (x ∷ xs) (y ∷ ys) w e = fault_follows xs ys w (let h : all_ok xs ++ Err w ∷ [] ≡ map item_seen (given_ok ys) ++ [] = cc in h)

-- and it is the fault that is given after records
pub one_follows :
    (xs : List (ℕ × Seen)) (ys : List (ℕ × Payload)) (v w : WireFault) (others : List Item)
    → all_ok xs ++ Err v ∷ [] ≡ map item_seen (given_ok ys) ++ Err w ∷ others → w ≡ v
one_follows [] [] v w others e = let h : w ≡ v = cc in h
one_follows [] (y ∷ ys) v w others e = absurd (cc)
one_follows (x ∷ xs) [] v w others e = absurd (cc)
one_follows (x ∷ xs) (y ∷ ys) v w others e =
    one_follows xs ys v w others (let h : all_ok xs ++ Err v ∷ [] ≡ map item_seen (given_ok ys) ++ Err w ∷ others = cc in h)
