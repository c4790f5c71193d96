-- Going through the files of a pool, the messages outside others in each, and the enums of each message after those in the messages in it,
-- and then the enums outside messages, goes through all enums in their order.
use Rattle.std.proofs.Common.{◌≡◌, ◌≢◌, ℕ, zero, suc, ◌+◌, ◌<◌, ◌≤◌, ◌⊎◌, inl, inr, ⊎_elim, List, [], ◌∷◌, ◌++◌, true, ◌&&◌, ◌==◌, length, refl, sym, ap, ◌∙◌, subst, arith, Option, Some, None, IsSomeAnd}
use Rattle.std.specs.Prelude.{slice_get, filter}
use Rattle.std.specs.List.{AllByRecursion, flat_map, enumerate_from}
use Rattle.std.proofs.lemmas.Bool.{cases_eq, cases_lt}
use Rattle.std.proofs.lemmas.Bool.Decides.{Decides-eqb}
use Rattle.std.proofs.lemmas.Option.{none-some}
use Rattle.pb_schema.specs.Types.{MessageView, EnumView, FileView, Types}
use Rattle.pb_schema.specs.Nesting.{parent_of, IsWithin, itself, deeper}
use Rattle.pb_schema.specs.Rules.{IsPool, IsInFileOfParent, EndsNoLater, StandsBefore}
use Rattle.pb_link.specs.ToDecls.{is_parent, is_outermost, numbered, messages_in, outermost_messages}
use Rattle.pb_link.proofs.ForestLemmas.{root, inner, siblings, within_trans, within_least, In, Rising, in_left, in_right, in_all, all_append, all_each, rising_append, rising_same, rising_numbered, rising_filter, in_filter, in_flat, all_flat}
use Rattle.pb_link.proofs.FlatLemmas.{Stands, Key, all_numbered, in_numbered_from, in_numbered, all_filtered, and_left, and_right, outermost_is, parent_is, is_parent_of, parent_there, get_less, there_by_parent, follow, before, children}
use Rattle.pb_link.proofs.WholeLemmas.{all_at, get_there, share, Outermost, outermost}
use Rattle.pb_link.proofs.EnumOrderLemmas.{stands_before}

some_same : {A : Type 0} {o : Option A} (a b : A) → o ≡ Some a → o ≡ Some b → a ≡ b
some_same a b h k = cc

-- ENUMS WITH THEIR INDEXES

abbrev pub numbered_enums : Types → List (ℕ × EnumView)
numbered_enums ts = enumerate_from 0 ts.enums

-- the enums that are declared in the message of an index directly
abbrev pub own_enums : Types → ℕ → List (ℕ × EnumView)
own_enums ts i = filter (λ e. is_parent i e.1.parent) (numbered_enums ts)

-- the enums of a file outside messages
abbrev pub outer_enums : Types → ℕ → List (ℕ × EnumView)
outer_enums ts file = filter (λ e. (file == e.1.file) && is_outermost e.1.parent) (numbered_enums ts)

abbrev pub enums_under : Types → ℕ → ℕ × MessageView → List (ℕ × EnumView)
enums_under ts zero m = own_enums ts m.0
enums_under ts (suc levels) m = flat_map (enums_under ts levels) (messages_in ts m.0) ++ own_enums ts m.0

abbrev Index : ℕ × EnumView → ℕ
Index e = e.0

abbrev Is : Types → ℕ × EnumView → Type 0
Is ts e = slice_get ts.enums e.0 ≡ Some e.1

pub each_is : (ts : Types) → AllByRecursion (Is ts) (numbered_enums ts)
each_is ts = all_numbered ts.enums 0 ts.enums (λ j. let e : j ≡ 0 + j = omega arith in ap (slice_get ts.enums) e)

in_numbered_enums : (ts : Types) (e : ℕ × EnumView) → Is ts e → In e (numbered_enums ts)
in_numbered_enums ts e there = let z : 0 + e.0 ≡ e.0 = omega arith in subst (λ j. In (j, e.1) (numbered_enums ts)) z (in_numbered_from 0 ts.enums e.0 e.1 there)

-- the enum stands in a file, in a message that is message p or in it
record Held (ts : Types) (file p : ℕ) (e : ℕ × EnumView) : Type 0 where
  there : slice_get ts.enums e.0 ≡ Some e.1
  in_file : e.1.file ≡ file
  owner : ℕ
  is : e.1.parent ≡ Some owner
  within : IsWithin ts.messages p owner

module _ (ts : Types) (pool : IsPool ts) where
  -- of two enums, the one that the other cannot stand before is the first
  first_of : (x y : ℕ × EnumView) → Is ts x → Is ts y → x.1 ≢ y.1 → ¬ StandsBefore ts.messages y.1 x.1 → x.0 < y.0
  first_of x y at_x at_y ne never = by (cases_lt x.0 y.0) (cases_eq x.0 y.0)
    where
      by : (x.0 < y.0) ⊎ (y.0 ≤ x.0) → (x.0 ≡ y.0) ⊎ (x.0 ≢ y.0) → x.0 < y.0
      by (inl less) other = less
      by (inr past) (inl same) = absurd (ne (some_same x.1 y.1 at_x (ap (slice_get ts.enums) same ∙ at_y)))
      by (inr past) (inr differ) = absurd (never (stands_before ts.messages (follow ts pool) (before ts pool) ts.enums pool.enums_in_order y.0 x.0 y.1 x.1 (omega (arith, past, differ)) at_y at_x))

  ends_at : (a b : Option ℕ) (p q : ℕ) → a ≡ Some p → b ≡ Some q → EndsNoLater ts.messages a b → IsWithin ts.messages q p ⊎ ((p < q) × ¬ IsWithin ts.messages p q)
  ends_at a b p q is_a is_b h = subst (λ o. EndsNoLater ts.messages (Some p) o) is_b (subst (λ o. EndsNoLater ts.messages o b) is_a h)

  -- of two messages in one place, the enums in the first stand before those in the second
  apart_enums : (file c d : ℕ) (x y : ℕ × EnumView) → parent_of ts.messages c ≡ parent_of ts.messages d → c < d → Held ts file c x → Held ts file d y → x.0 < y.0
  apart_enums file c d x y same less first second = first_of x y first.there second.there differ never
    where
      lower : first.owner < second.owner
      lower = siblings ts.messages (follow ts pool) (before ts pool) c d first.owner second.owner same less first.within second.within

      differ : x.1 ≢ y.1
      differ e = let one : first.owner ≡ second.owner = some_same first.owner second.owner first.is (ap (λ t. t.parent) e ∙ second.is) in let h = lower in omega (arith, h, one)

      ends : IsWithin ts.messages first.owner second.owner ⊎ ((second.owner < first.owner) × ¬ IsWithin ts.messages second.owner first.owner) → ⊥
      ends (inl w) = let h = siblings ts.messages (follow ts pool) (before ts pool) c d second.owner second.owner same less (within_trans ts.messages c first.owner second.owner first.within w) second.within in omega (arith, h)
      ends (inr k) = let h = lower in let l = k.0 in omega (arith, h, l)

      never : StandsBefore ts.messages y.1 x.1 → ⊥
      never (inl files) = let a = first.in_file in let b = second.in_file in omega (arith, files, a, b)
      never (inr h) = ends (ends_at y.1.parent x.1.parent second.owner first.owner second.is first.is h.1)

  abbrev pub Own : ℕ × MessageView → ℕ × EnumView → Type 0
  Own m e = Is ts e × (e.1.file ≡ m.1.file) × (e.1.parent ≡ Some m.0)

  -- a message's own enums come after those in the messages in it
  inner_first : (c : ℕ) (m : ℕ × MessageView) (x y : ℕ × EnumView) → parent_of ts.messages c ≡ Some m.0 → Held ts m.1.file c x → Own m y → x.0 < y.0
  inner_first c m x y up first own = first_of x y first.there own.0 differ never
    where
      deep : IsWithin ts.messages m.0 first.owner
      deep = within_trans ts.messages m.0 c first.owner (deeper up itself) first.within

      below : m.0 < first.owner
      below = let a = before ts pool c m.0 up in let b = within_least ts.messages (follow ts pool) (before ts pool) c first.owner first.within in omega (arith, a, b)

      differ : x.1 ≢ y.1
      differ e = let one : first.owner ≡ m.0 = some_same first.owner m.0 first.is (ap (λ t. t.parent) e ∙ own.2) in let h = below in omega (arith, h, one)

      ends : IsWithin ts.messages first.owner m.0 ⊎ ((m.0 < first.owner) × ¬ IsWithin ts.messages m.0 first.owner) → ⊥
      ends (inl w) = let h = below in let l = within_least ts.messages (follow ts pool) (before ts pool) first.owner m.0 w in omega (arith, h, l)
      ends (inr k) = k.1 deep

      never : StandsBefore ts.messages y.1 x.1 → ⊥
      never (inl files) = let a = first.in_file in let b = own.1 in omega (arith, files, a, b)
      never (inr h) = ends (ends_at y.1.parent x.1.parent m.0 first.owner own.2 first.is h.1)

  -- THE ENUMS UNDER A MESSAGE

  own_file : (m : ℕ × MessageView) (e : ℕ × EnumView) → Stands ts m → Is ts e → e.1.parent ≡ Some m.0 → e.1.file ≡ m.1.file
  own_file m e there at_e own =
      let here : IsInFileOfParent ts.messages e.1.file e.1.parent = all_at (λ x. IsInFileOfParent ts.messages x.file x.parent) ts.enums e.0 e.1 pool.indexes.enum_parents at_e in
      sym (subst (λ o. IsSomeAnd o (λ t. t.file ≡ e.1.file)) there (subst (λ o. IsInFileOfParent ts.messages e.1.file o) own here))

  pub own_held : (m : ℕ × MessageView) → Stands ts m → AllByRecursion (Own m) (own_enums ts m.0)
  own_held m there = all_each (λ e. Is ts e × (is_parent m.0 e.1.parent ≡ true)) (Own m) (own_enums ts m.0)
      (λ e h. let own = parent_is m.0 e.1.parent h.1 in (h.0, own_file m e there h.0 own, own))
      (all_filtered (Is ts) (λ e. is_parent m.0 e.1.parent) (numbered_enums ts) (each_is ts))

  abbrev Child : ℕ × MessageView → ℕ × MessageView → Type 0
  Child m c = Stands ts c × (parent_of ts.messages c.0 ≡ Some m.0)

  child_file : (m c : ℕ × MessageView) → Stands ts m → Child m c → c.1.file ≡ m.1.file
  child_file m c there child = sym (share ts pool m.0 c.0 m.1 c.1 (deeper child.1 itself) there child.0)

  all_held : (levels : ℕ) (m : ℕ × MessageView) → Stands ts m → AllByRecursion (Held ts m.1.file m.0) (enums_under ts levels m)
  all_held zero m there = all_each (Own m) (Held ts m.1.file m.0) (own_enums ts m.0) (λ e h. record { there = h.0; in_file = h.1; owner = m.0; is = h.2; within = itself }) (own_held m there)
  all_held (suc levels) m there =
      all_append (Held ts m.1.file m.0) (flat_map (enums_under ts levels) (messages_in ts m.0)) (own_enums ts m.0)
      (all_flat (Child m) (Held ts m.1.file m.0) (enums_under ts levels) (messages_in ts m.0)
      (λ c h. all_each (Held ts c.1.file c.0) (Held ts m.1.file m.0) (enums_under ts levels c)
      (λ e k. record { there = k.there; in_file = k.in_file ∙ child_file m c there h; owner = k.owner; is = k.is; within = within_trans ts.messages m.0 c.0 k.owner (deeper h.1 itself) k.within })
      (all_held levels c h.0))
      (children ts pool m))
      (all_each (Own m) (Held ts m.1.file m.0) (own_enums ts m.0) (λ e h. record { there = h.0; in_file = h.1; owner = m.0; is = h.2; within = itself }) (own_held m there))

  -- what is in messages in one place rises
  siblings_enums : (file : ℕ) (o : Option ℕ) (g : ℕ × MessageView → List (ℕ × EnumView)) (cs : List (ℕ × MessageView)) → Rising Key cs → AllByRecursion (λ c. (parent_of ts.messages c.0 ≡ o) × AllByRecursion (Held ts file c.0) (g c) × Rising Index (g c)) cs → Rising Index (flat_map g cs)
  siblings_enums file o g [] rise all = tt
  siblings_enums file o g (c ∷ cs) rise all =
      rising_append Index (Held ts file c.0) (λ y. (d : ℕ) × (parent_of ts.messages d ≡ o) × (c.0 < d) × Held ts file d y) (g c) (flat_map g cs)
      (λ x y in_first in_later. apart_enums file c.0 in_later.0 x y (all.0.0 ∙ sym in_later.1) in_later.2 in_first in_later.3)
      all.0.1
      (behind cs rise.0 all.1)
      all.0.2
      (siblings_enums file o g cs rise.1 all.1)
    where
      behind : (ds : List (ℕ × MessageView)) → AllByRecursion (λ y. c.0 < y.0) ds → AllByRecursion (λ e. (parent_of ts.messages e.0 ≡ o) × AllByRecursion (Held ts file e.0) (g e) × Rising Index (g e)) ds → AllByRecursion (λ y. (d : ℕ) × (parent_of ts.messages d ≡ o) × (c.0 < d) × Held ts file d y) (flat_map g ds)
      behind [] later each = tt
      behind (e ∷ ds) later each =
          all_append (λ y. (d : ℕ) × (parent_of ts.messages d ≡ o) × (c.0 < d) × Held ts file d y) (g e) (flat_map g ds)
          (all_each (Held ts file e.0) (λ y. (d : ℕ) × (parent_of ts.messages d ≡ o) × (c.0 < d) × Held ts file d y) (g e) (λ x w. (e.0, each.0.0, later.0, w)) each.0.1)
          (behind ds later.1 each.1)

  own_rises : (i : ℕ) → Rising Index (own_enums ts i)
  own_rises i = rising_filter Index (λ e. is_parent i e.1.parent) (numbered_enums ts) (rising_numbered 0 ts.enums).0

  enums_rise : (levels : ℕ) (m : ℕ × MessageView) → Stands ts m → Rising Index (enums_under ts levels m)
  enums_rise zero m there = own_rises m.0
  enums_rise (suc levels) m there =
      rising_append Index (λ x. (c : ℕ) × (parent_of ts.messages c ≡ Some m.0) × Held ts m.1.file c x) (Own m) (flat_map (enums_under ts levels) (messages_in ts m.0)) (own_enums ts m.0)
      (λ x y first own. inner_first first.0 m x y first.1 first.2 own)
      (all_flat (Child m) (λ x. (c : ℕ) × (parent_of ts.messages c ≡ Some m.0) × Held ts m.1.file c x) (enums_under ts levels) (messages_in ts m.0)
      (λ c h. all_each (Held ts m.1.file c.0) (λ x. (d : ℕ) × (parent_of ts.messages d ≡ Some m.0) × Held ts m.1.file d x) (enums_under ts levels c) (λ x k. (c.0, h.1, k)) (held c h))
      (children ts pool m))
      (own_held m there)
      (siblings_enums m.1.file (Some m.0) (enums_under ts levels) (messages_in ts m.0) (rising_filter Key (λ c. is_parent m.0 c.1.parent) (numbered ts) (rising_numbered 0 ts.messages).0)
      (all_each (Child m) (λ c. (parent_of ts.messages c.0 ≡ Some m.0) × AllByRecursion (Held ts m.1.file c.0) (enums_under ts levels c) × Rising Index (enums_under ts levels c)) (messages_in ts m.0)
      (λ c h. (h.1, held c h, enums_rise levels c h.0)) (children ts pool m)))
      (own_rises m.0)
    where
      held : (c : ℕ × MessageView) → Child m c → AllByRecursion (Held ts m.1.file c.0) (enums_under ts levels c)
      held c h = subst (λ f. AllByRecursion (Held ts f c.0) (enums_under ts levels c)) (child_file m c there h) (all_held levels c h.0)

  -- whatever is in the message is under it, if there are levels enough
  in_under_enums : (levels : ℕ) (m : ℕ × MessageView) (e : ℕ × EnumView) (q : ℕ) → Stands ts m → Is ts e → e.1.parent ≡ Some q → IsWithin ts.messages m.0 q → length ts.messages ≤ levels + m.0 → In e (enums_under ts levels m)
  in_under_enums zero m e q there_m there_e own w enough = absurd (let h = get_less ts.messages m.0 m.1 there_m in omega (arith, h, enough))
  in_under_enums (suc levels) m e q there_m there_e own w enough = ⊎_elim
      (λ same. in_right e (flat_map (enums_under ts levels) (messages_in ts m.0)) (own_enums ts m.0) (in_filter (λ x. is_parent m.0 x.1.parent) (numbered_enums ts) e (in_numbered_enums ts e there_e) (is_parent_of m.0 e.1.parent (own ∙ ap Some same))))
      (λ h.
      let d = h.0 in
      let u = there_by_parent ts.messages d m.0 h.1 in
      let less = before ts pool d m.0 h.1 in
      in_left e (flat_map (enums_under ts levels) (messages_in ts m.0)) (own_enums ts m.0)
      (in_flat (enums_under ts levels) (messages_in ts m.0) (d, u.0) e
      (in_filter (λ c. is_parent m.0 c.1.parent) (numbered ts) (d, u.0) (in_numbered ts (d, u.0) u.1) (is_parent_of m.0 u.0.parent (sym (parent_there ts.messages d u.0 u.1) ∙ h.1)))
      (in_under_enums levels (d, u.0) e q u.1 there_e own h.2 (omega (arith, enough, less)))))
      (inner ts.messages (follow ts pool) (before ts pool) m.0 q w)

  -- FILES

  abbrev pub file_enums : ℕ → List (ℕ × EnumView)
  file_enums i = flat_map (enums_under ts (length ts.messages)) (outermost_messages ts i) ++ outer_enums ts i

  abbrev pub Outer : ℕ → ℕ × EnumView → Type 0
  Outer i e = Is ts e × (e.1.file ≡ i) × (e.1.parent ≡ None)

  pub outer : (i : ℕ) → AllByRecursion (Outer i) (outer_enums ts i)
  outer i = all_each (λ e. Is ts e × (((i == e.1.file) && is_outermost e.1.parent) ≡ true)) (Outer i) (outer_enums ts i)
      (λ e h. (h.0, sym ((Decides-eqb i e.1.file).0 (and_left (i == e.1.file) (is_outermost e.1.parent) h.1)), outermost_is e.1.parent (and_right (i == e.1.file) (is_outermost e.1.parent) h.1)))
      (all_filtered (Is ts) (λ e. (i == e.1.file) && is_outermost e.1.parent) (numbered_enums ts) (each_is ts))

  outer_last : (i c : ℕ) (x y : ℕ × EnumView) → Held ts i c x → Outer i y → x.0 < y.0
  outer_last i c x y first own = first_of x y first.there own.0 differ never
    where
      differ : x.1 ≢ y.1
      differ e = none-some first.owner (sym own.2 ∙ sym (ap (λ t. t.parent) e) ∙ first.is)

      never : StandsBefore ts.messages y.1 x.1 → ⊥
      never (inl files) = let a = first.in_file in let b = own.1 in omega (arith, files, a, b)
      never (inr h) = subst (λ o. EndsNoLater ts.messages None o) first.is (subst (λ o. EndsNoLater ts.messages o x.1.parent) own.2 h.1)

  held_in : (i : ℕ) (m : ℕ × MessageView) → Outermost ts pool i m → AllByRecursion (Held ts i m.0) (enums_under ts (length ts.messages) m)
  held_in i m h = subst (λ f. AllByRecursion (Held ts f m.0) (enums_under ts (length ts.messages) m)) h.1 (all_held (length ts.messages) m h.0)

  file_rises : (i : ℕ) → Rising Index (file_enums i)
  file_rises i =
      let n = length ts.messages in
      rising_append Index (λ x. (c : ℕ) × Held ts i c x) (Outer i) (flat_map (enums_under ts n) (outermost_messages ts i)) (outer_enums ts i)
      (λ x y first own. outer_last i first.0 x y first.1 own)
      (all_flat (Outermost ts pool i) (λ x. (c : ℕ) × Held ts i c x) (enums_under ts n) (outermost_messages ts i) (λ m h. all_each (Held ts i m.0) (λ x. (c : ℕ) × Held ts i c x) (enums_under ts n m) (λ x k. (m.0, k)) (held_in i m h)) (outermost ts pool i))
      (outer i)
      (siblings_enums i None (enums_under ts n) (outermost_messages ts i) (rising_filter Key (λ m. (i == m.1.file) && is_outermost m.1.parent) (numbered ts) (rising_numbered 0 ts.messages).0)
      (all_each (Outermost ts pool i) (λ c. (parent_of ts.messages c.0 ≡ None) × AllByRecursion (Held ts i c.0) (enums_under ts n c) × Rising Index (enums_under ts n c)) (outermost_messages ts i) (λ c h. (h.2, held_in i c h, enums_rise n c h.0)) (outermost ts pool i)))
      (rising_filter Index (λ e. (i == e.1.file) && is_outermost e.1.parent) (numbered_enums ts) (rising_numbered 0 ts.enums).0)

  abbrev Filed : ℕ → ℕ × EnumView → Type 0
  Filed i x = Is ts x × (x.1.file ≡ i)

  all_filed : (i : ℕ) → AllByRecursion (Filed i) (file_enums i)
  all_filed i =
      let n = length ts.messages in
      all_append (Filed i) (flat_map (enums_under ts n) (outermost_messages ts i)) (outer_enums ts i)
      (all_flat (Outermost ts pool i) (Filed i) (enums_under ts n) (outermost_messages ts i) (λ m h. all_each (Held ts i m.0) (Filed i) (enums_under ts n m) (λ x k. (k.there, k.in_file)) (held_in i m h)) (outermost ts pool i))
      (all_each (Outer i) (Filed i) (outer_enums ts i) (λ e h. (h.0, h.1)) (outer i))

  earlier : (k : ℕ) (x y : ℕ × EnumView) → Filed k x → Is ts y × (k + 1 ≤ y.1.file) → x.0 < y.0
  earlier k x y first later = first_of x y first.0 later.0 differ never
    where
      differ : x.1 ≢ y.1
      differ e = let same : x.1.file ≡ y.1.file = ap (λ t. t.file) e in let a = first.1 in let b = later.1 in omega (arith, same, a, b)

      never : StandsBefore ts.messages y.1 x.1 → ⊥
      never (inl files) = let a = first.1 in let b = later.1 in omega (arith, files, a, b)
      never (inr h) = let a = first.1 in let b = later.1 in let same = h.0 in omega (arith, same, a, b)

  abbrev pub in_files : ℕ → List FileView → List (ℕ × EnumView)
  in_files k fs = flat_map (λ (e : ℕ × FileView). file_enums e.0) (enumerate_from k fs)

  files_rise : (k : ℕ) (fs : List FileView) → Rising Index (in_files k fs) × AllByRecursion (λ x. Is ts x × (k ≤ x.1.file)) (in_files k fs)
  files_rise k [] = (tt, tt)
  files_rise k (f ∷ fs) =
      let rest = files_rise (k + 1) fs in (
        rising_append Index (Filed k) (λ y. Is ts y × (k + 1 ≤ y.1.file)) (file_enums k) (in_files (k + 1) fs) (earlier k) (all_filed k) rest.1 (file_rises k) rest.0,
        all_append (λ x. Is ts x × (k ≤ x.1.file)) (file_enums k) (in_files (k + 1) fs)
            (all_each (Filed k) (λ x. Is ts x × (k ≤ x.1.file)) (file_enums k) (λ x h. let e = h.1 in (h.0, omega (arith, e))) (all_filed k))
            (all_each (λ x. Is ts x × (k + 1 ≤ x.1.file)) (λ x. Is ts x × (k ≤ x.1.file)) (in_files (k + 1) fs) (λ x h. let e = h.1 in (h.0, omega (arith, e))) rest.1),
      )

  -- an enum in a message is in its file
  in_its_file : (e : ℕ × EnumView) (o : Option ℕ) → Is ts e → e.1.parent ≡ o → In e (file_enums e.1.file)
  in_its_file e None there is =
      let i = e.1.file in
      let passes : ((i == e.1.file) && is_outermost e.1.parent) ≡ true = ap (λ b. b && is_outermost e.1.parent) ((Decides-eqb i i).1 refl) ∙ ap is_outermost is in
      in_right e (flat_map (enums_under ts (length ts.messages)) (outermost_messages ts i)) (outer_enums ts i)
      (in_filter (λ x. (i == x.1.file) && is_outermost x.1.parent) (numbered_enums ts) e (in_numbered_enums ts e there) passes)
  in_its_file e (Some q) there is =
      let i = e.1.file in
      let n = length ts.messages in
      let t = owner_there in
      let r = root ts.messages (follow ts pool) (before ts pool) (suc q) q (omega arith) in
      let least = within_least ts.messages (follow ts pool) (before ts pool) r.0 q r.2 in
      let u = get_there ts.messages r.0 (let h = get_less ts.messages q t.0 t.1 in omega (arith, h, least)) in
      let outer_one : u.0.parent ≡ None = sym (parent_there ts.messages r.0 u.0 u.1) ∙ r.1 in
      let filed : i ≡ u.0.file = sym t.2 ∙ sym (share ts pool r.0 q u.0 t.0 r.2 u.1 t.1) in
      let passes : ((i == u.0.file) && is_outermost u.0.parent) ≡ true = ap (λ b. b && is_outermost u.0.parent) ((Decides-eqb i u.0.file).1 filed) ∙ ap is_outermost outer_one in
      in_left e (flat_map (enums_under ts n) (outermost_messages ts i)) (outer_enums ts i)
      (in_flat (enums_under ts n) (outermost_messages ts i) (r.0, u.0) e
      (in_filter (λ m. (i == m.1.file) && is_outermost m.1.parent) (numbered ts) (r.0, u.0) (in_numbered ts (r.0, u.0) u.1) passes)
      (in_under_enums n (r.0, u.0) e q u.1 there is r.2 (omega arith)))
    where
      owner_there : (t : MessageView) × (slice_get ts.messages q ≡ Some t) × (t.file ≡ e.1.file)
      owner_there = by (slice_get ts.messages q) refl
        where
          here : IsSomeAnd (slice_get ts.messages q) (λ t. t.file ≡ e.1.file)
          here = subst (λ o. IsInFileOfParent ts.messages e.1.file o) is (all_at (λ x. IsInFileOfParent ts.messages x.file x.parent) ts.enums e.0 e.1 pool.indexes.enum_parents there)

          by : (o : Option MessageView) → slice_get ts.messages q ≡ o → (t : MessageView) × (slice_get ts.messages q ≡ Some t) × (t.file ≡ e.1.file)
          by (Some t) found = (t, found, subst (λ o. IsSomeAnd o (λ t. t.file ≡ e.1.file)) found here)
          by None found = absurd (subst (λ o. IsSomeAnd o (λ t. t.file ≡ e.1.file)) found here)

  is_there : (e : ℕ × EnumView) → Is ts e → In e (in_files 0 ts.files)
  is_there e there =
      let i = e.1.file in
      let f = get_there ts.files i (all_at (λ t. t.file < length ts.files) ts.enums e.0 e.1 pool.indexes.enum_files there) in
      in_flat (λ (x : ℕ × FileView). file_enums x.0) (enumerate_from 0 ts.files) (0 + i, f.0) e (in_numbered_from 0 ts.files i f.0 f.1)
      (subst (λ j. In e (file_enums j)) (zero_plus i) (in_its_file e e.1.parent there refl))
    where
      zero_plus : (k : ℕ) → k ≡ 0 + k
      zero_plus k = omega arith

  -- all enums, in their order
  pub whole_enums : in_files 0 ts.files ≡ numbered_enums ts
  whole_enums =
      let all = files_rise 0 ts.files in
      rising_same Index (in_files 0 ts.files) (numbered_enums ts) all.0 (rising_numbered 0 ts.enums).0
      (λ z h. in_numbered_enums ts z (in_all (λ x. Is ts x × (0 ≤ x.1.file)) (in_files 0 ts.files) z all.1 h).0)
      (λ z h. is_there z (in_all (Is ts) (numbered_enums ts) z (each_is ts) h))
