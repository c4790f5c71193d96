-- Going through the files of a pool, the messages outside others in each, and those in each message, goes through all messages in their order.
use Rattle.std.proofs.Common.{◌≡◌, ℕ, zero, suc, ◌+◌, ◌<◌, ◌≤◌, inl, inr, ⊎_elim, List, [], ◌∷◌, Bool, true, false, ◌&&◌, cond, length, refl, sym, ap, ◌∙◌, subst, arith, Option, Some, None}
use Rattle.std.specs.Prelude.{slice_get, filter}
use Rattle.std.specs.List.{AllByRecursion, flat_map, enumerate_from}
use Rattle.std.proofs.lemmas.Bool.Decides.{Decides-eqb}
use Rattle.std.proofs.lemmas.Option.{none-some}
use Rattle.pb_schema.specs.Types.{MessageView, Types}
use Rattle.pb_schema.specs.Nesting.{parent_of, IsWithin, itself, deeper}
use Rattle.pb_schema.specs.Rules.{IsPool, FollowsParent}
use Rattle.pb_schema.proofs.OrderLemmas.{parents_before}
use Rattle.pb_link.specs.ToDecls.{is_parent, is_outermost, numbered, messages_in}
use Rattle.pb_link.proofs.ForestLemmas.{within_trans, within_least, siblings, inner, In, Rising, all_append, all_each, rising_append, rising_numbered, rising_filter, in_filter, in_flat, all_flat}

some_same : {A : Type 0} {o : Option A} (a b : A) → o ≡ Some a → o ≡ Some b → a ≡ b
some_same a b h k = cc

none_is : {A : Type 0} {P : Type 0} {o : Option A} (a : A) → o ≡ None → o ≡ Some a → P
none_is a p q = absurd (none-some a (sym p ∙ q))

-- MESSAGES WITH THEIR INDEXES

abbrev pub Stands : Types → ℕ × MessageView → Type 0
Stands ts m = slice_get ts.messages m.0 ≡ Some m.1

pub all_numbered : {X : Type 0} (whole : List X) (k : ℕ) (xs : List X) → ((j : ℕ) → slice_get xs j ≡ slice_get whole (k + j)) → AllByRecursion (λ m. slice_get whole m.0 ≡ Some m.1) (enumerate_from k xs)
all_numbered whole k [] same = tt
all_numbered whole k (x ∷ xs) same = let e : k ≡ k + 0 = omega arith in (ap (slice_get whole) e ∙ sym (same 0), all_numbered whole (k + 1) xs (λ j. let f : k + suc j ≡ k + 1 + j = omega arith in same (suc j) ∙ ap (slice_get whole) f))

pub each_stands : (ts : Types) → AllByRecursion (Stands ts) (numbered ts)
each_stands ts = all_numbered ts.messages 0 ts.messages (λ j. let e : j ≡ 0 + j = omega arith in ap (slice_get ts.messages) e)

pub in_numbered_from : {X : Type 0} (k : ℕ) (xs : List X) (i : ℕ) (x : X) → slice_get xs i ≡ Some x → In (k + i, x) (enumerate_from k xs)
in_numbered_from k [] i x h = absurd (none-some x h)
in_numbered_from {X = X} k (y ∷ xs) zero x h = let e : k + 0 ≡ k = omega arith in inl (λ j. (e j, some_same x y h refl j))
in_numbered_from k (y ∷ xs) (suc i) x h = let e : k + 1 + i ≡ k + suc i = omega arith in inr (subst (λ j. In (j, x) (enumerate_from (k + 1) xs)) e (in_numbered_from (k + 1) xs i x h))

pub in_numbered : (ts : Types) (m : ℕ × MessageView) → Stands ts m → In m (numbered ts)
in_numbered ts m there = let e : 0 + m.0 ≡ m.0 = omega arith in subst (λ j. In (j, m.1) (numbered ts)) e (in_numbered_from 0 ts.messages m.0 m.1 there)

pub all_filtered : {X : Type 0} (P : X → Type 0) (t : X → Bool) (xs : List X) → AllByRecursion P xs → AllByRecursion (λ x. P x × (t x ≡ true)) (filter t xs)
all_filtered P t [] all = tt
all_filtered {X = X} P t (x ∷ xs) all = by (t x) refl (all_filtered P t xs all.1)
  where
    by : (b : Bool) → t x ≡ b → AllByRecursion (λ y. P y × (t y ≡ true)) (filter t xs) → AllByRecursion (λ y. P y × (t y ≡ true)) (cond b (x ∷ filter t xs) (filter t xs))
    by true is rest = ((all.0, is), rest)
    by false is rest = rest

false_true : ◌≡◌ {A = Bool} false true → ⊥
false_true e = cc

pub parent_is : (p : ℕ) (o : Option ℕ) → is_parent p o ≡ true → o ≡ Some p
parent_is p None h = absurd (false_true h)
parent_is p (Some q) h = ap Some (sym ((Decides-eqb p q).0 h))

pub is_parent_of : (p : ℕ) (o : Option ℕ) → o ≡ Some p → is_parent p o ≡ true
is_parent_of p o is = ap (is_parent p) is ∙ (Decides-eqb p p).1 refl

pub outermost_is : (o : Option ℕ) → is_outermost o ≡ true → o ≡ None
outermost_is None h = refl
outermost_is (Some q) h = absurd (false_true h)

pub and_left : (a b : Bool) → (a && b) ≡ true → a ≡ true
and_left true b h = refl
and_left false b h = h

pub and_right : (a b : Bool) → (a && b) ≡ true → b ≡ true
and_right true b h = h
and_right false b h = absurd (false_true h)

pub parent_there : (ms : List MessageView) (i : ℕ) (t : MessageView) → slice_get ms i ≡ Some t → parent_of ms i ≡ t.parent
parent_there ms i t h = ap (λ x. parent_from x) h
  where
    parent_from : Option MessageView → Option ℕ
    parent_from None = None
    parent_from (Some u) = u.parent

pub get_less : {X : Type 0} (xs : List X) (i : ℕ) (x : X) → slice_get xs i ≡ Some x → i < length xs
get_less [] i x h = absurd (none-some x h)
get_less (y ∷ xs) zero x h = omega arith
get_less (y ∷ xs) (suc i) x h = omega (arith, get_less xs i x h)

get_past : {X : Type 0} (xs : List X) (i : ℕ) → length xs ≤ i → slice_get xs i ≡ None
get_past [] i h = refl
get_past (x ∷ xs) zero h = absurd (omega (arith, h))
get_past (x ∷ xs) (suc i) h = get_past xs i (omega (arith, h))

-- a message that has a parent is there
pub there_by_parent : (ms : List MessageView) (i p : ℕ) → parent_of ms i ≡ Some p → (t : MessageView) × (slice_get ms i ≡ Some t)
there_by_parent ms i p e = by (slice_get ms i) refl
  where
    by : (o : Option MessageView) → slice_get ms i ≡ o → (t : MessageView) × (slice_get ms i ≡ Some t)
    by (Some t) is = (t, is)
    by None is = none_is p (ap (λ x. parent_from x) is) e
      where
        parent_from : Option MessageView → Option ℕ
        parent_from None = None
        parent_from (Some u) = u.parent

abbrev pub Key : ℕ × MessageView → ℕ
Key m = m.0

-- THE MESSAGES UNDER ONE

abbrev pub under : Types → ℕ → ℕ × MessageView → List (ℕ × MessageView)
under ts zero m = m ∷ []
under ts (suc levels) m = m ∷ flat_map (under ts levels) (messages_in ts m.0)

module _ (ts : Types) (pool : IsPool ts) where
  abbrev pub follow : (i : ℕ) → FollowsParent ts.messages i
  follow i = pool.messages_in_order.1 i

  pub before : (m p : ℕ) → parent_of ts.messages m ≡ Some p → p < m
  before m p e = parents_before ts.messages (suc m) (λ i less. pool.messages_in_order.1 i) m p (omega arith) e

  pub children : (m : ℕ × MessageView) → AllByRecursion (λ c. Stands ts c × (parent_of ts.messages c.0 ≡ Some m.0)) (messages_in ts m.0)
  children m = all_each (λ c. Stands ts c × (is_parent m.0 c.1.parent ≡ true)) (λ c. Stands ts c × (parent_of ts.messages c.0 ≡ Some m.0)) (messages_in ts m.0) (λ c h. (h.0, parent_there ts.messages c.0 c.1 h.0 ∙ parent_is m.0 c.1.parent h.1)) (all_filtered (Stands ts) (λ c. is_parent m.0 c.1.parent) (numbered ts) (each_stands ts))

  abbrev pub Under : ℕ → ℕ × MessageView → Type 0
  Under p x = Stands ts x × IsWithin ts.messages p x.0

  -- each of them is there, and in the message
  pub all_under : (levels : ℕ) (m : ℕ × MessageView) → Stands ts m → AllByRecursion (Under m.0) (under ts levels m)
  all_under zero m there = ((there, itself), tt)
  all_under (suc levels) m there = (
    (there, itself),
    all_flat (λ c. Stands ts c × (parent_of ts.messages c.0 ≡ Some m.0)) (Under m.0) (under ts levels) (messages_in ts m.0)
        (λ c h. all_each (Under c.0) (Under m.0) (under ts levels c) (λ x k. (k.0, within_trans ts.messages m.0 c.0 x.0 (deeper h.1 itself) k.1)) (all_under levels c h.0)) (children m),
  )

  -- what is under messages in one place rises
  pub siblings_rise : (o : Option ℕ) (g : ℕ × MessageView → List (ℕ × MessageView)) (cs : List (ℕ × MessageView)) → Rising Key cs → AllByRecursion (λ c. (parent_of ts.messages c.0 ≡ o) × AllByRecursion (λ x. IsWithin ts.messages c.0 x.0) (g c) × Rising Key (g c)) cs → Rising Key (flat_map g cs)
  siblings_rise o g [] rise all = tt
  siblings_rise o g (c ∷ cs) rise all =
      rising_append Key (λ x. IsWithin ts.messages c.0 x.0) (λ y. (d : ℕ) × (parent_of ts.messages d ≡ o) × (c.0 < d) × IsWithin ts.messages d y.0) (g c) (flat_map g cs)
      (λ x y in_first in_later. siblings ts.messages follow before c.0 in_later.0 x.0 y.0 (all.0.0 ∙ sym in_later.1) in_later.2 in_first in_later.3)
      all.0.1
      (behind cs rise.0 all.1)
      all.0.2
      (siblings_rise o g cs rise.1 all.1)
    where
      behind : (ds : List (ℕ × MessageView)) → AllByRecursion (λ y. c.0 < y.0) ds → AllByRecursion (λ e. (parent_of ts.messages e.0 ≡ o) × AllByRecursion (λ x. IsWithin ts.messages e.0 x.0) (g e) × Rising Key (g e)) ds → AllByRecursion (λ y. (d : ℕ) × (parent_of ts.messages d ≡ o) × (c.0 < d) × IsWithin ts.messages d y.0) (flat_map g ds)
      behind [] later each = tt
      behind (e ∷ ds) later each =
          all_append (λ y. (d : ℕ) × (parent_of ts.messages d ≡ o) × (c.0 < d) × IsWithin ts.messages d y.0) (g e) (flat_map g ds)
          (all_each (λ x. IsWithin ts.messages e.0 x.0) (λ y. (d : ℕ) × (parent_of ts.messages d ≡ o) × (c.0 < d) × IsWithin ts.messages d y.0) (g e) (λ x w. (e.0, each.0.0, later.0, w)) each.0.1)
          (behind ds later.1 each.1)

  pub under_rises : (levels : ℕ) (m : ℕ × MessageView) → Stands ts m → Rising Key (under ts levels m)
  under_rises zero m there = (tt, tt)
  under_rises (suc levels) m there = (
    all_flat (λ c. Stands ts c × (parent_of ts.messages c.0 ≡ Some m.0)) (λ y. m.0 < y.0) (under ts levels) (messages_in ts m.0)
        (λ c h. all_each (Under c.0) (λ y. m.0 < y.0) (under ts levels c) (λ x k. let first = before c.0 m.0 h.1 in let rest = within_least ts.messages follow before c.0 x.0 k.1 in omega (arith, first, rest)) (all_under levels c h.0)) (children m),
    siblings_rise (Some m.0) (under ts levels) (messages_in ts m.0) (rising_filter Key (λ c. is_parent m.0 c.1.parent) (numbered ts) (rising_numbered 0 ts.messages).0)
        (all_each (λ c. Stands ts c × (parent_of ts.messages c.0 ≡ Some m.0)) (λ c. (parent_of ts.messages c.0 ≡ Some m.0) × AllByRecursion (λ x. IsWithin ts.messages c.0 x.0) (under ts levels c) × Rising Key (under ts levels c)) (messages_in ts m.0)
        (λ c h. (h.1, all_each (Under c.0) (λ x. IsWithin ts.messages c.0 x.0) (under ts levels c) (λ x k. k.1) (all_under levels c h.0), under_rises levels c h.0)) (children m)),
  )

  -- whatever is in the message is under it, if there are levels enough
  pub in_under : (levels : ℕ) (m x : ℕ × MessageView) → Stands ts m → Stands ts x → IsWithin ts.messages m.0 x.0 → length ts.messages ≤ levels + m.0 → In x (under ts levels m)
  in_under zero m x there_m there_x w enough = absurd (let h = get_less ts.messages m.0 m.1 there_m in omega (arith, h, enough))
  in_under (suc levels) m x there_m there_x w enough = ⊎_elim
      (λ same. inl (λ i. (same i, some_same x.1 m.1 there_x (ap (slice_get ts.messages) same ∙ there_m) i)))
      (λ h.
      let d = h.0 in
      let u = there_by_parent ts.messages d m.0 h.1 in
      let less = before d m.0 h.1 in
      inr (in_flat (under ts levels) (messages_in ts m.0) (d, u.0) x
      (in_filter (λ c. is_parent m.0 c.1.parent) (numbered ts) (d, u.0) (in_numbered ts (d, u.0) u.1) (is_parent_of m.0 u.0.parent (sym (parent_there ts.messages d u.0 u.1) ∙ h.1)))
      (in_under levels (d, u.0) x u.1 there_x h.2 (omega (arith, enough, less)))))
      (inner ts.messages follow before m.0 x.0 w)
