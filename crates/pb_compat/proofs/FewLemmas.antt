-- The steps of a comparison to a pair are as few as the fields that lead there.
use Rattle.std.proofs.Common.{◌≡◌, ◌≤◌, ◌<◌, ◌⊎◌, inl, inr, ⊎_elim, ℕ, zero, suc, ◌+◌, List, length, map, Bool, true, false, Option, Some, None, refl, sym, ◌∙◌, ap, subst, arith, Contains}
use Rattle.std.specs.Prelude.{◌↔◌, ◌&&◌, nat_lt, slice_get, IsSomeAnd}
use Rattle.std.proofs.lemmas.Bool.Decides.{nat_tests}
use Rattle.std.proofs.lemmas.Bool.{cases_lt}
use Rattle.std.proofs.lemmas.Option.{slice_get_within}
use Rattle.pb_schema.specs.Types.{Types}
use Rattle.pb_value.proofs.Options.{some_of}
use Rattle.pb_compat.specs.declared.difference.ComparedTypes.{ComparedTypes}
use Rattle.pb_compat.specs.declared.difference.Step.{Step}
use Rattle.pb_compat.specs.Agrees.{break_among}
use Rattle.pb_compat.specs.Fields.{differences_at}
use Rattle.pb_compat.specs.Nested.{IsReachedFrom, IsFoundWhereNear}
use Rattle.pb_compat.specs.Pairs.{leads, types_of, ReachedIn, begun_in, further_in, IsWithinFields, IsReachedBy, IsNoLater, IsComparisonFrom}
use Rattle.pb_compat.proofs.ClimbLemmas.{began_in}
use Rattle.pb_compat.proofs.Lists.{get_earlier, get_mapped, index_of, mapped_got, one_index}
use Rattle.pb_compat.proofs.ReportedLemmas.{reached_by_fields}

some_same : {X : Type 0} {x y : X} {o : Option X} → o ≡ Some x → o ≡ Some y → x ≡ y
some_same p q = cc

none_some : {s : Step} {o : Option Step} → o ≡ None → o ≡ Some s → ⊥
none_some p q = cc

module _ (old new : Types) (starts : List (ℕ × ℕ)) (cs : List ComparedTypes) (compared : IsComparisonFrom old new starts cs) where
  -- pairs with a step come after those where the comparison began
  after_starts : (i : ℕ) (c : ComparedTypes) (s : Step) → slice_get cs i ≡ Some c → c.reached_by ≡ Some s → length starts ≤ i
  after_starts i c s at by = (subst (IsReachedBy old new starts cs i c) by (compared.steps i c at)).0

  step_earlier : (i : ℕ) (c : ComparedTypes) (s : Step) → slice_get cs i ≡ Some c → c.reached_by ≡ Some s → s.from < i
  step_earlier i c s at by = (subst (IsReachedBy old new starts cs i c) by (compared.steps i c at)).1

  -- where the step comes from
  source : (i : ℕ) (c : ComparedTypes) (s : Step) → slice_get cs i ≡ Some c → c.reached_by ≡ Some s
      → (d : ComparedTypes) × (slice_get cs s.from ≡ Some d) × (leads old new (types_of d) s.field ≡ Some (types_of c))
  source i c s at by =
      some_of (slice_get cs s.from) (λ d. leads old new (types_of d) s.field ≡ Some (types_of c)) (subst (IsReachedBy old new starts cs i c) by (compared.steps i c at)).2

  -- a pair without a step is where the comparison began
  start_at : (i : ℕ) (c : ComparedTypes) → slice_get cs i ≡ Some c → c.reached_by ≡ None → slice_get starts i ≡ Some (types_of c)
  start_at i c at none = subst (IsReachedBy old new starts cs i c) none (compared.steps i c at)

  -- a pair has no step, or has one
  reached_cases : (c : ComparedTypes) → (c.reached_by ≡ None) ⊎ ((s : Step) × (c.reached_by ≡ Some s))
  reached_cases c = by c.reached_by refl
    where
      by : (o : Option Step) → c.reached_by ≡ o → (c.reached_by ≡ None) ⊎ ((s : Step) × (c.reached_by ≡ Some s))
      by None e = inl e
      by (Some s) e = inr (s, e)

  -- what this many steps lead to this many fields lead to
  pub fields_lead : (start : ℕ × ℕ) (n i : ℕ) (c : ComparedTypes) → slice_get cs i ≡ Some c → IsReachedFrom cs start n i → ReachedIn old new start n (types_of c)
  fields_lead start zero i c at r =
      let d = some_of (slice_get cs i) (λ d. (d.reached_by ≡ None) × (types_of d ≡ start)) r in
      let same : types_of c ≡ start = ap types_of (some_same at d.1) ∙ d.2.1 in
      subst (ReachedIn old new start 0) (sym same) begun_in
  fields_lead start (suc n) i c at r =
      let d = some_of (slice_get cs i) (λ d. IsSomeAnd d.reached_by (λ s. IsReachedFrom cs start n s.from)) r in
      let s = some_of d.0.reached_by (λ s. IsReachedFrom cs start n s.from) d.2 in
      let same : c ≡ d.0 = some_same at d.1 in
      let by : c.reached_by ≡ Some s.0 = ap (λ (x : ComparedTypes). x.reached_by) same ∙ s.1 in
      let from = source i c s.0 at by in
      further_in s.0.field (fields_lead start n s.0.from from.0 from.1 s.2) from.2

  -- some steps lead to each pair
  abbrev IsStepped : ℕ → Type 0
  IsStepped i = (start : ℕ × ℕ) × (n : ℕ) × IsReachedFrom cs start n i

  stepped_first : (i : ℕ) (c : ComparedTypes) → slice_get cs i ≡ Some c → c.reached_by ≡ None → IsStepped i
  stepped_first i c at none = (types_of c, 0, subst (λ (o : Option ComparedTypes). IsSomeAnd o (λ d. (d.reached_by ≡ None) × (types_of d ≡ types_of c))) (sym at) (none, refl))

  stepped_on : (i : ℕ) (c : ComparedTypes) (s : Step) → slice_get cs i ≡ Some c → c.reached_by ≡ Some s → IsStepped s.from → IsStepped i
  stepped_on i c s at by (start, n, r) = (
    start,
    suc n,
    subst (λ (o : Option ComparedTypes). IsSomeAnd o (λ d. IsSomeAnd d.reached_by (λ t. IsReachedFrom cs start n t.from))) (sym at)
        (subst (λ (o : Option Step). IsSomeAnd o (λ t. IsReachedFrom cs start n t.from)) (sym by) r),
  )

  stepped_below : (most i : ℕ) (c : ComparedTypes) → i < most → slice_get cs i ≡ Some c → IsStepped i
  stepped_below zero i c less at = absurd (omega (arith, less))
  stepped_below (suc most) i c less at =
      ⊎_elim (stepped_first i c at)
      (λ s. let from = source i c s.0 at s.1 in stepped_on i c s.0 at s.1 (stepped_below most s.0.from from.0 (omega (arith, less, step_earlier i c s.0 at s.1)) from.1))
      (reached_cases c)

  pub stepped : (i : ℕ) (c : ComparedTypes) → slice_get cs i ≡ Some c → IsStepped i
  stepped i c at = stepped_below (i + 1) i c (omega arith) at

  no_later : (u v : Step) → IsNoLater u v → u.from ≤ v.from
  no_later u v (inl l) = omega (arith, l)
  no_later u v (inr e) = omega (arith, e.0)

  from_no_later : (i j : ℕ) (c d : ComparedTypes) (u v : Step) → i ≤ j → slice_get cs i ≡ Some c → slice_get cs j ≡ Some d → c.reached_by ≡ Some u → d.reached_by ≡ Some v → u.from ≤ v.from
  from_no_later i j c d u v less at there by also =
      ⊎_elim (λ l. no_later u v (compared.order.ordered i j c d u v l at there by also))
      (λ most. same (omega (arith, less, most)))
      (cases_lt i j)
    where
      same : i ≡ j → u.from ≤ v.from
      same e =
          let one : c ≡ d = some_same (subst (λ (x : ℕ). slice_get cs x ≡ Some c) e at) there in
          let step : u ≡ v = some_same by (ap (λ (x : ComparedTypes). x.reached_by) one ∙ also) in
          omega (arith, ap (λ (x : Step). x.from) step)

  -- no fewer steps lead to a later pair
  pub no_fewer : (m n i j : ℕ) (s t : ℕ × ℕ) → i ≤ j → IsReachedFrom cs s n i → IsReachedFrom cs t m j → n ≤ m
  no_fewer m zero i j s t less r q = omega arith
  no_fewer zero (suc n) i j s t less r q =
      let c = some_of (slice_get cs i) (λ d. IsSomeAnd d.reached_by (λ u. IsReachedFrom cs s n u.from)) r in
      let u = some_of c.0.reached_by (λ u. IsReachedFrom cs s n u.from) c.2 in
      let d = some_of (slice_get cs j) (λ d. (d.reached_by ≡ None) × (types_of d ≡ t)) q in
      absurd (omega (arith, less, after_starts i c.0 u.0 c.1 u.1, slice_get_within starts j (types_of d.0) (start_at j d.0 d.1 d.2.0)))
  no_fewer (suc m) (suc n) i j s t less r q =
      let c = some_of (slice_get cs i) (λ d. IsSomeAnd d.reached_by (λ u. IsReachedFrom cs s n u.from)) r in
      let u = some_of c.0.reached_by (λ u. IsReachedFrom cs s n u.from) c.2 in
      let d = some_of (slice_get cs j) (λ d. IsSomeAnd d.reached_by (λ u. IsReachedFrom cs t m u.from)) q in
      let v = some_of d.0.reached_by (λ u. IsReachedFrom cs t m u.from) d.2 in
      let fewer : n ≤ m = no_fewer m n u.0.from v.0.from s t (from_no_later i j c.0 d.0 u.0 v.0 less c.1 d.1 u.1 v.1) u.2 v.2 in
      omega (arith, fewer)

  -- no steps, where a pair has none
  none_lead : (t : ℕ × ℕ) (n j : ℕ) (d : ComparedTypes) → slice_get cs j ≡ Some d → d.reached_by ≡ None → IsReachedFrom cs t n j → n ≡ 0
  none_lead t zero j d at none r = refl
  none_lead t (suc n) j d at none r =
      let c = some_of (slice_get cs j) (λ e. IsSomeAnd e.reached_by (λ u. IsReachedFrom cs t n u.from)) r in
      let u = some_of c.0.reached_by (λ u. IsReachedFrom cs t n u.from) c.2 in
      absurd (none_some none (ap (λ (x : ComparedTypes). x.reached_by) (some_same at c.1) ∙ u.1))

  -- a pair where the comparison began has no step
  start_first : (p : ℕ × ℕ) (j : ℕ) (d : ComparedTypes) → Contains starts p → slice_get cs j ≡ Some d → types_of d ≡ p → d.reached_by ≡ None
  start_first p j d there at is = ⊎_elim (λ none. none) (λ s. absurd (not_stepped s.0 s.1)) (reached_cases d)
    where
      not_stepped : (s : Step) → d.reached_by ≡ Some s → ⊥
      not_stepped s by = clash
        where
          i : (i : ℕ) × (slice_get starts i ≡ Some p)
          i = index_of starts p there

          earlier : i.0 < j
          earlier = omega (arith, slice_get_within starts i.0 p i.1, after_starts j d s at by)

          c : (c : ComparedTypes) × (slice_get cs i.0 ≡ Some c)
          c = get_earlier cs i.0 j d earlier at

          first : c.0.reached_by ≡ None
          first = ⊎_elim (λ none. none) (λ t. absurd (omega (arith, after_starts i.0 c.0 t.0 c.1 t.1, slice_get_within starts i.0 p i.1))) (reached_cases c.0)

          same : types_of c.0 ≡ p
          same = some_same (start_at i.0 c.0 c.1 first) i.1

          clash : ⊥
          clash =
              let one = one_index (map types_of cs) i.0 j p compared.once (get_mapped types_of cs i.0 c.0 c.1 ∙ ap Some same) (get_mapped types_of cs j d at ∙ ap Some is) in
              omega (arith, one, earlier)

  -- where a field leads from a pair to another, at most one more step leads there
  one_more : (m i j k w : ℕ) (c d : ComparedTypes) (s t : ℕ × ℕ) → slice_get cs i ≡ Some c → slice_get cs j ≡ Some d → leads old new (types_of c) k ≡ Some (types_of d)
      → IsReachedFrom cs s w i → w ≤ m → (n : ℕ) → IsReachedFrom cs t n j → n ≤ suc m
  one_more m i j k w c d s t at there leading way few n r = by n r (reached_cases d)
    where
      by : (n : ℕ) → IsReachedFrom cs t n j → (d.reached_by ≡ None) ⊎ ((u : Step) × (d.reached_by ≡ Some u)) → n ≤ suc m
      by zero r cases = omega arith
      by (suc n) r (inl none) = omega (arith, none_lead t (suc n) j d there none r)
      by (suc n) r (inr u) =
          let e = some_of (slice_get cs j) (λ x. IsSomeAnd x.reached_by (λ v. IsReachedFrom cs t n v.from)) r in
          let v = some_of e.0.reached_by (λ v. IsReachedFrom cs t n v.from) e.2 in
          let its : d.reached_by ≡ Some v.0 = ap (λ (x : ComparedTypes). x.reached_by) (some_same there e.1) ∙ v.1 in
          let before = no_later v.0 (record { from = i; field = k }) (compared.order.first i j k c d v.0 at there leading its) in
          let fewer = no_fewer w n v.0.from i t s before v.2 way in
          omega (arith, few, fewer)

  -- no fewer fields lead to a pair than steps
  pub fields_no_fewer : (start : ℕ × ℕ) (m : ℕ) (p : ℕ × ℕ) → Contains starts start → ReachedIn old new start m p
      → (j n : ℕ) (d : ComparedTypes) (t : ℕ × ℕ) → slice_get cs j ≡ Some d → types_of d ≡ p → IsReachedFrom cs t n j → n ≤ m
  fields_no_fewer start zero p there begun_in j n d t at is r = omega (arith, none_lead t n j d at (start_first start j d there at is) r)
  fields_no_fewer start (suc m) q there (further_in {p = p} k reached to) j n d t at is r =
      let has : Contains (map types_of cs) p = (compared.reached p).1 (reached_by_fields old new starts start p m there reached) in
      let i = index_of (map types_of cs) p has in
      let c = mapped_got types_of cs i.0 p i.1 in
      let way = stepped i.0 c.0 c.1 in
      let fewer : way.1 ≤ m = fields_no_fewer start m p there reached i.0 way.1 c.0 way.0 c.1 c.2 way.2 in
      let leading : leads old new (types_of c.0) k ≡ Some (types_of d) = ap (λ (x : ℕ × ℕ). leads old new x k) c.2 ∙ to ∙ ap Some (sym is) in
      one_more m i.0 j k way.1 c.0 d way.0 t c.1 at leading way.2 fewer n r

  -- A PAIR THAT IS SHOWN

  module _ (i : ℕ) (c : ComparedTypes) (at : slice_get cs i ≡ Some c) where
    near : (start : ℕ × ℕ) (n : ℕ) → IsReachedFrom cs start n i → nat_lt n 100 ≡ true → IsWithinFields old new starts 99 (types_of c)
    near start n r few = record {
      start = start;
      given_start = began_in old new starts cs compared start n i r;
      fields = n;
      few = below n few;
      reached = fields_lead start n i c at r;
    }
      where
        below : (n : ℕ) → nat_lt n 100 ≡ true → n ≤ 99
        below n e = grind (arith, nat_tests)

    few_steps : (start : ℕ × ℕ) (n : ℕ) → IsReachedFrom cs start n i → IsWithinFields old new starts 99 (types_of c) → nat_lt n 100 ≡ true
    few_steps start n r within = below n (omega (arith, within.few, fields_no_fewer within.start within.fields (types_of c) within.given_start within.reached i n c start at refl r))
      where
        below : (n : ℕ) → n ≤ 99 → nat_lt n 100 ≡ true
        below n l = grind (arith, nat_tests)

    -- a message is found exactly where the field breaks and few fields lead to the pair
    pub found_within :
        (number : ℕ) (found : Bool)
        → ((d : ComparedTypes) (start : ℕ × ℕ) (n : ℕ) → slice_get cs i ≡ Some d → IsReachedFrom cs start n i → found ≡ (break_among (differences_at old new d.old.0 d.new.0 number) && nat_lt n 100))
        → (found ≡ true) ↔ ((break_among (differences_at old new c.old.0 c.new.0 number) ≡ true) × IsWithinFields old new starts 99 (types_of c))
    found_within number found exact =
        let way = stepped i c at in
        let is = exact c way.0 way.1 at way.2 in
        let breaks = break_among (differences_at old new c.old.0 c.new.0 number) in
        (λ e. let both = parts breaks (nat_lt way.1 100) (sym is ∙ e) in (both.0, near way.0 way.1 way.2 both.1), λ h. is ∙ whole breaks (nat_lt way.1 100) h.0 (few_steps way.0 way.1 way.2 h.1))
      where
        parts : (a b : Bool) → (a && b) ≡ true → (a ≡ true) × (b ≡ true)
        parts true b e = (refl, e)
        parts false b e = absurd (cc)

        whole : (a b : Bool) → a ≡ true → b ≡ true → (a && b) ≡ true
        whole true b h e = e
        whole false b h e = absurd (cc)

pub found_where_near :
    (old new : Types) (cs : List ComparedTypes) (i number : ℕ) (found : Bool)
    → ((d : ComparedTypes) (start : ℕ × ℕ) (n : ℕ) → slice_get cs i ≡ Some d → IsReachedFrom cs start n i → found ≡ (break_among (differences_at old new d.old.0 d.new.0 number) && nat_lt n 100))
    → IsFoundWhereNear old new cs i number found
found_where_near old new cs i number found exact c starts compared at = found_within old new starts cs compared i c at number found exact
