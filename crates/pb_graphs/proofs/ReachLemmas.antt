-- Bits and a list that tell what is reached along a graph.
use Rattle.std.proofs.Common.{◌≡◌, ℕ, zero, suc, ◌+◌, ◌-◌, ◌*◌, ◌<◌, ◌≤◌, List, [], ◌∷◌, ◌++◌, Bool, true, false, IsTrue, ◌↔◌, ◌⊎◌, inl, inr, ⊎_elim, length, get_or, set, replicate, refl, sym, ◌∙◌, ap, subst, arith, cond, Contains, length-append, append-nil, append_assoc}
use Rattle.std.specs.List.{All, AllByRecursion}
use Rattle.std.proofs.lemmas.List.{length-set, get_or-set_same, get_or-set_other, get_or_append_left, get_or_read}
use Rattle.std.proofs.lemmas.List.Sums.{sum_by-set}
use Rattle.std.proofs.lemmas.List.Elements.{Contains-push, Contains-push_cases, Contains-append_left, Contains-append_right, Contains-append_cases, Contains-get_or, All-from_recursion}
use Rattle.std.proofs.lemmas.Bool.{cases_eq, false≢true}
use Rattle.pb_graphs.proofs.ContainsLemmas.{Contains-none, Contains-one}
use Rattle.pb_graphs.specs.declared.reach.Reach.{Reach}
use Rattle.pb_graphs.specs.Reach.{next_of, Reached, begun as at_first, further, IsGraph, is_marked, IsListed, clear_count, Marks, IsClear}

is_set : (bits : List Bool) (i j : ℕ) → i < length bits → i ≡ j → get_or (set bits i true) j false ≡ true
is_set bits i j h e = subst (λ k. get_or (set bits i true) k false ≡ true) e (get_or-set_same bits i true false h)

still_set : (bits : List Bool) (i j : ℕ) → i < length bits → get_or bits j false ≡ true → get_or (set bits i true) j false ≡ true
still_set bits i j h was = ⊎_elim (λ e. is_set bits i j h (sym e)) (λ ne. get_or-set_other bits i j true false ne ∙ was) (cases_eq j i)

was_set : (bits : List Bool) (i j : ℕ) → get_or (set bits i true) j false ≡ true → (get_or bits j false ≡ true) ⊎ (i ≡ j)
was_set bits i j now = ⊎_elim (λ e. inr (sym e)) (λ ne. inl (sym (get_or-set_other bits i j true false ne) ∙ now)) (cases_eq j i)

fewer_clear : (bits : List Bool) (i : ℕ) → i < length bits → get_or bits i false ≡ false → clear_count (set bits i true) + 1 ≡ clear_count bits
fewer_clear bits i h clear =
    let e = sum_by-set (λ b. cond b 0 1) bits i true false h in
    let one : ◌≡◌ {A = ℕ} (cond (get_or bits i false) 0 1) 1 = ap (λ b. cond b 0 1) clear in
    omega (arith, e, one)

pub marks_none : (r : Reach) (i : ℕ) → is_marked r i ≡ true → Marks (i ∷ []) r r
marks_none r i set_before = record {
  size = refl;
  listed = λ h. h;
  exact = λ j. (inl, λ either. ⊎_elim (λ was. was) (λ at. subst (λ k. is_marked r k ≡ true) (Contains-one i j at) set_before) either);
  kept = ([], sym (append-nil r.reached.items));
  work = omega arith;
}

pub marks_one : (r s : Reach) (i : ℕ) → i < length r.bits.items → is_marked r i ≡ false → s.bits.items ≡ set r.bits.items i true → s.reached.items ≡ r.reached.items ++ i ∷ [] → Marks (i ∷ []) r s
marks_one r s i h clear bits list = record {
  size = ap length bits ∙ length-set r.bits.items i true;
  listed = λ was. record {
    listed = λ j. (
      λ now. subst (λ l. Contains l j) (sym list) (⊎_elim (λ old. Contains-append_left r.reached.items (i ∷ []) j ((was.listed j).0 old)) (λ e. subst (Contains (r.reached.items ++ i ∷ [])) e (Contains-push r.reached.items i)) (was_set r.bits.items i j (sym (at j) ∙ now))),
      λ among. at j ∙ ⊎_elim (λ old. still_set r.bits.items i j h ((was.listed j).1 old)) (λ e. is_set r.bits.items i j h e) (Contains-push_cases r.reached.items i j (subst (λ l. Contains l j) list among)),
    );
  };
  exact = λ j. (
    λ now. ⊎_elim inl (λ e. inr (subst (Contains (i ∷ [])) e (Contains-push [] i))) (was_set r.bits.items i j (sym (at j) ∙ now)),
    λ either. at j ∙ ⊎_elim (λ old. still_set r.bits.items i j h old) (λ among. is_set r.bits.items i j h (Contains-one i j among)) either,
  );
  kept = (i ∷ [], list);
  work = omega (arith, fewer_clear r.bits.items i h clear, length-append r.reached.items (i ∷ []), ap length list, ap clear_count bits);
}
  where
    at : (j : ℕ) → is_marked s j ≡ get_or (set r.bits.items i true) j false
    at j = ap (λ l. get_or l j false) bits

pub marks_nil : (r : Reach) → Marks [] r r
marks_nil r = record {
  size = refl;
  listed = λ h. h;
  exact = λ j. (inl, λ either. ⊎_elim (λ was. was) (λ at. Contains-none j at) either);
  kept = ([], sym (append-nil r.reached.items));
  work = omega arith;
}

pub marks_append : (xs ys : List ℕ) (a b c : Reach) → Marks xs a b → Marks ys b c → Marks (xs ++ ys) a c
marks_append xs ys a b c first then = record {
  size = then.size ∙ first.size;
  listed = λ h. then.listed (first.listed h);
  exact = λ j. (
    λ now. ⊎_elim (λ mid. ⊎_elim inl (λ at. inr (Contains-append_left xs ys j at)) ((first.exact j).0 mid)) (λ at. inr (Contains-append_right xs ys j at)) ((then.exact j).0 now),
    λ either. (then.exact j).1 (⊎_elim (λ old. inl ((first.exact j).1 (inl old))) (λ among. ⊎_elim (λ at. inl ((first.exact j).1 (inr at))) inr (Contains-append_cases xs ys j among)) either),
  );
  kept = (first.kept.0 ++ then.kept.0, then.kept.1 ∙ ap (λ l. l ++ then.kept.0) first.kept.1 ∙ append_assoc a.reached.items first.kept.0 then.kept.0);
  work = omega (arith, first.work, then.work);
}

-- CLEARING: what is marked still waits in the list, whose indexes lie among the bits
pub record Clears (r : Reach) : Type 0 where
  pub listed : (j : ℕ) → IsTrue (is_marked r j) → Contains r.reached.items j
  pub within : (j : ℕ) → Contains r.reached.items j → j < length r.bits.items

set_within : (bits : List Bool) (j : ℕ) → get_or bits j false ≡ true → j < length bits
set_within [] j h = absurd (false≢true h)
set_within (b ∷ bits) zero h = omega arith
set_within (b ∷ bits) (suc j) h = omega (arith, set_within bits j h)

pub clears_first : (r : Reach) → IsListed r → Clears r
clears_first r all = record { listed = λ j h. (all.listed j).0 h; within = λ j at. set_within r.bits.items j ((all.listed j).1 at) }

pub clears_within : (r : Reach) (rest : List ℕ) (i : ℕ) → r.reached.items ≡ rest ++ i ∷ [] → Clears r → i < length r.bits.items
clears_within r rest i list c = c.within i (subst (λ l. Contains l i) (sym list) (Contains-push rest i))

pub clears_more : (r s : Reach) (i : ℕ) → r.reached.items ≡ s.reached.items ++ i ∷ [] → s.bits.items ≡ set r.bits.items i false → Clears r → Clears s
clears_more r s i list bits c = record {
  listed = λ j now. ⊎_elim (λ e. absurd (false≢true (sym (cleared j e) ∙ now))) (λ ne. other j ne now) (cases_eq j i);
  within = λ j at. subst (λ n. j < n) (sym (ap length bits ∙ length-set r.bits.items i false)) (c.within j (subst (λ l. Contains l j) (sym list) (Contains-append_left s.reached.items (i ∷ []) j at)));
}
  where
    this : i < length r.bits.items
    this = clears_within r s.reached.items i list c

    at : (j : ℕ) → is_marked s j ≡ get_or (set r.bits.items i false) j false
    at j = ap (λ l. get_or l j false) bits

    cleared : (j : ℕ) → j ≡ i → is_marked s j ≡ false
    cleared j e = at j ∙ subst (λ k. get_or (set r.bits.items i false) k false ≡ false) (sym e) (get_or-set_same r.bits.items i false false this)

    other : (j : ℕ) → (j ≡ i → ⊥) → is_marked s j ≡ true → Contains s.reached.items j
    other j ne now = ⊎_elim (λ among. among) (λ e. absurd (ne (sym e))) (Contains-push_cases s.reached.items i j (subst (λ l. Contains l j) list (c.listed j (sym (get_or-set_other r.bits.items i j false false ne) ∙ sym (at j) ∙ now))))

no_elements : {X : Type 0} (xs : List X) → length xs ≡ 0 → xs ≡ []
no_elements [] h = refl
no_elements (x ∷ xs) h = absurd (omega (arith, h))

pub clears_last : (r : Reach) → Clears r → length r.reached.items ≡ 0 → IsClear r
clears_last r c empty = record { clear = λ j. unmarked j (is_marked r j) refl; listed = no_elements r.reached.items empty }
  where
    unmarked : (j : ℕ) (b : Bool) → is_marked r j ≡ b → is_marked r j ≡ false
    unmarked j false e = e
    unmarked j true e = Contains-none j (subst (λ l. Contains l j) (no_elements r.reached.items empty) (c.listed j e))

pub clear_bits : (n j : ℕ) → get_or (replicate n false) j false ≡ false
clear_bits zero j = refl
clear_bits (suc n) zero = refl
clear_bits (suc n) (suc j) = clear_bits n j

pub new_clear : (r : Reach) (n : ℕ) → r.bits.items ≡ replicate n false → r.reached.items ≡ [] → IsClear r
new_clear r n bits list = record { clear = λ j. ap (λ l. get_or l j false) bits ∙ clear_bits n j; listed = list }

pub clear_listed : (r : Reach) → IsClear r → IsListed r
clear_listed r clear = record { listed = λ j. (λ h. absurd (false≢true (sym (clear.clear j) ∙ h)), λ at. Contains-none j (subst (λ l. Contains l j) clear.listed at)) }

-- WALKING: what is listed is reached, the starts are marked, and so is where the listed indexes before one lead
pub record Walk (graph : List (List ℕ)) (starts : List ℕ) (r : Reach) (at : ℕ) : Type 0 where
  pub size : length r.bits.items ≡ length graph
  pub listed : IsListed r
  pub sound : (j : ℕ) → IsTrue (is_marked r j) → Reached graph starts j
  pub begun : (j : ℕ) → Contains starts j → IsTrue (is_marked r j)
  pub closed : (i j : ℕ) → i < at → Contains (next_of graph (get_or r.reached.items i 0)) j → IsTrue (is_marked r j)

pub walk_first : (graph : List (List ℕ)) (r : Reach) → length r.bits.items ≡ length graph → IsListed r → Walk graph r.reached.items r 0
walk_first graph r size all = record {
  size = size;
  listed = all;
  sound = λ j now. at_first ((all.listed j).0 now);
  begun = λ j at. (all.listed j).1 at;
  closed = λ i j h at. absurd (omega (arith, h));
}

pub walk_more : (graph : List (List ℕ)) (starts : List ℕ) (r s : Reach) (at : ℕ) → at < length r.reached.items → Walk graph starts r at → Marks (next_of graph (get_or r.reached.items at 0)) r s → Walk graph starts s (at + 1)
walk_more graph starts r s at h w marks = record {
  size = marks.size ∙ w.size;
  listed = marks.listed w.listed;
  sound = λ j now. ⊎_elim (w.sound j) (λ led. further this led) ((marks.exact j).0 now);
  begun = λ j among. (marks.exact j).1 (inl (w.begun j among));
  closed = λ i j less led. ⊎_elim (λ e. (marks.exact j).1 (inr (subst (λ k. Contains (next_of graph (get_or r.reached.items k 0)) j) e (before i less j led)))) (λ ne. (marks.exact j).1 (inl (w.closed i j (omega (arith, less, ne)) (before i less j led)))) (cases_eq i at);
}
  where
    this : Reached graph starts (get_or r.reached.items at 0)
    this = w.sound (get_or r.reached.items at 0) ((w.listed.listed (get_or r.reached.items at 0)).1 (Contains-get_or r.reached.items at 0 h))

    before : (i : ℕ) → i < at + 1 → (j : ℕ) → Contains (next_of graph (get_or s.reached.items i 0)) j → Contains (next_of graph (get_or r.reached.items i 0)) j
    before i less j led = subst (λ k. Contains (next_of graph k) j) (ap (λ l. get_or l i 0) marks.kept.1 ∙ get_or_append_left r.reached.items marks.kept.0 0 i (omega (arith, less, h))) led

pub walk_work : (r s : Reach) (xs : List ℕ) (at : ℕ) → at < length r.reached.items → Marks xs r s → 2 * clear_count s.bits.items + (length s.reached.items - (at + 1)) < 2 * clear_count r.bits.items + (length r.reached.items - at)
walk_work r s xs at h marks = omega (arith, marks.work, ap length marks.kept.1, length-append r.reached.items marks.kept.0)

marked_if : (graph : List (List ℕ)) (starts : List ℕ) (r : Reach) (at : ℕ) → length r.reached.items ≤ at → Walk graph starts r at → (j : ℕ) → Reached graph starts j → IsTrue (is_marked r j)
marked_if graph starts r at past w j (at_first among) = w.begun j among
marked_if graph starts r at past w j (further {k} way led) =
    let there = (w.listed.listed k).0 (marked_if graph starts r at past w k way) in
    w.closed there.0 j (omega (arith, there.1, past)) (subst (λ n. Contains (next_of graph n) j) (sym (same there.0 there.1 there.2)) led)
  where
    same : (i : ℕ) → i < length r.reached.items → get_or r.reached.items i k ≡ k → get_or r.reached.items i 0 ≡ k
    same i less e = sym (get_or_read r.reached.items i k less (sym e) 0)

pub walk_exact : (graph : List (List ℕ)) (starts : List ℕ) (r : Reach) (at : ℕ) → length r.reached.items ≤ at → Walk graph starts r at → (j : ℕ) → IsTrue (is_marked r j) ↔ Reached graph starts j
walk_exact graph starts r at past w j = (w.sound j, marked_if graph starts r at past w j)

-- STARTING
wider : (graph : List (List ℕ)) (xs ys : List ℕ) → ((j : ℕ) → Contains xs j → Contains ys j) → (j : ℕ) → Reached graph xs j → Reached graph ys j
wider graph xs ys all j (at_first among) = at_first (all j among)
wider graph xs ys all j (further {k} way led) = further (wider graph xs ys all k way) led

-- what is reached from the marked starts
pub reached_from_starts : (graph : List (List ℕ)) (starts : List ℕ) (r s : Reach) → IsListed r → ((j : ℕ) → IsTrue (is_marked r j) ↔ Contains starts j) → ((j : ℕ) → IsTrue (is_marked s j) ↔ Reached graph r.reached.items j) → (j : ℕ) → IsTrue (is_marked s j) ↔ Reached graph starts j
reached_from_starts graph starts r s all started followed j = (
  λ now. wider graph r.reached.items starts (λ k at. (started k).0 ((all.listed k).1 at)) j ((followed j).0 now),
  λ way. (followed j).1 (wider graph starts r.reached.items (λ k at. (all.listed k).0 ((started k).1 at)) j way),
)

-- THE GRAPH
next_all : (P : ℕ → Type 0) (graph : List (List ℕ)) → AllByRecursion (AllByRecursion P) graph → (i : ℕ) → AllByRecursion P (next_of graph i)
next_all P [] all i = tt
next_all P (xs ∷ graph) all zero = all.0
next_all P (xs ∷ graph) all (suc i) = next_all P graph all.1 i

pub next_within : (graph : List (List ℕ)) (i n : ℕ) → IsGraph graph → n ≡ length graph → All (λ j. j < n) (next_of graph i)
next_within graph i n all size =
    subst (λ m. All (λ j. j < m) (next_of graph i)) (sym size) (All-from_recursion (λ j. j < length graph) (next_of graph i) (next_all (λ j. j < length graph) graph all i))
