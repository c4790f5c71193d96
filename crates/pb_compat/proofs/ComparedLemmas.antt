-- The pairs that are compared, one after another.
use Rattle.std.proofs.Common.{◌≡◌, ◌<◌, ◌+◌, ◌⊎◌, inl, inr, ⊎_elim, ℕ, List, [], ◌∷◌, ◌++◌, length, get_or, map, Option, Some, None, sym, ◌∙◌, ap, subst, arith, Contains, length-append}
use Rattle.std.specs.Prelude.{slice_get, IsSomeAnd}
use Rattle.std.proofs.lemmas.Option.{slice_get_within, slice_get-get_or}
use Rattle.std.proofs.lemmas.Bool.{cases_lt}
use Rattle.std.proofs.lemmas.List.{take_all}
use Rattle.pb_graphs.proofs.ContainsLemmas.{Contains-none}
use Rattle.pb_schema.specs.Types.{Types}
use Rattle.pb_schema.specs.Names.{AllDiffer}
use Rattle.pb_compat.specs.declared.difference.Step.{Step}
use Rattle.pb_compat.specs.declared.difference.ComparedTypes.{ComparedTypes}
use Rattle.pb_compat.specs.declared.pairs.Pairs.{Pairs}
use Rattle.pb_compat.specs.Pairs.{leads, ReachedFrom, given, onward, types_of, AreDifferences, IsReachedBy, IsComparisonFrom}
use Rattle.pb_compat.specs.Walk.{pairs_of, steps_of, IsStep, IsWithin, HasBegun, IsWalkAt, Follows, FollowsAll, IsClosed, AreCompared}
use Rattle.pb_compat.proofs.Lists.{get_front, get_push_cases, all_got, all_pushed, all_contained, contains_got, index_of, none_past, map_same, some_mapped}

none_some : {X : Type 0} {x : X} → ◌≡◌ {A = Option X} None (Some x) → ⊥
none_some p = cc

some_same : {X : Type 0} {x y : X} {o : Option X} → o ≡ Some x → o ≡ Some y → x ≡ y
some_same p q = cc

module _ (old new : Types) (starts : List (ℕ × ℕ)) where
  pub compared_none : (ps : Pairs) → HasBegun old new starts (length starts) ps → AreCompared old new starts ps []
  compared_none ps has_begun =
      let whole : pairs_of ps ≡ starts = has_begun.same ∙ take_all (length starts) starts (omega arith) in
      record {
        walk = has_begun.walk;
        begun = omega (arith, ap length whole);
        closed = λ i k p q h at to. absurd (omega (arith, h));
        before = λ j s h. absurd (has_begun.given_steps j s h);
        within = omega arith;
        pairs = λ i c h. absurd (none_some h);
        steps = λ i c h. absurd (none_some h);
        differences = tt;
      }

  -- the pair that comes next
  pub next_within : (ps : Pairs) (cs : List ComparedTypes) (p : ℕ × ℕ) → AreCompared old new starts ps cs → slice_get (pairs_of ps) (length cs) ≡ Some p → IsWithin old new p
  next_within ps cs p compared at = all_got (IsWithin old new) (pairs_of ps) (length cs) p compared.walk.within at

  pub next_step : (ps : Pairs) (cs : List ComparedTypes) (p : ℕ × ℕ) → AreCompared old new starts ps cs → slice_get (pairs_of ps) (length cs) ≡ Some p → length cs < length (steps_of ps)
  next_step ps cs p compared at = omega (arith, slice_get_within (pairs_of ps) (length cs) p at, compared.walk.size)

  -- the walk comes to that pair
  walk_next : (ps : Pairs) (cs : List ComparedTypes) (p : ℕ × ℕ) → AreCompared old new starts ps cs → slice_get (pairs_of ps) (length cs) ≡ Some p → IsWalkAt old new starts (length cs) p [] ps
  walk_next ps cs p compared at = record {
    walk = compared.walk;
    begun = compared.begun;
    at = at;
    closed = compared.closed;
    listed = λ k q h. Contains-none k h;
    before = λ j s h. inl (compared.before j s h);
  }

  pub compared_more : (a b : Pairs) (cs : List ComparedTypes) (c : ComparedTypes) (p : ℕ × ℕ) → AreCompared old new starts a cs → slice_get (pairs_of a) (length cs) ≡ Some p → FollowsAll old new (length cs) p a b → types_of c ≡ p → slice_get (steps_of b) (length cs) ≡ Some c.reached_by → AreDifferences old new p.0 p.1 c.differences.items → AreCompared old new starts b (cs ++ c ∷ [])
  compared_more a b cs c p compared at all types step differences = record {
    walk = now.walk;
    begun = now.begun;
    closed = closed;
    before = λ j s h. before s (now.before j s h);
    within = omega (arith, slice_get_within (pairs_of b) (length cs) p now.at, size);
    pairs = λ i d h. ⊎_elim
        (λ e. kept i (types_of d) (compared.pairs i d e))
        (λ e. subst (λ (j : ℕ). slice_get (pairs_of b) j ≡ Some (types_of d)) (sym e.0) (now.at ∙ ap Some (sym types ∙ ap types_of e.1)))
        (get_push_cases cs c i d h);
    steps = λ i d h. ⊎_elim
        (λ e. subst (λ ss. slice_get ss i ≡ Some d.reached_by) (sym follows.more_steps) (get_front (steps_of a) follows.added_steps i d.reached_by (compared.steps i d e)))
        (λ e. subst (λ (j : ℕ). slice_get (steps_of b) j ≡ Some d.reached_by) (sym e.0) (step ∙ ap (λ (x : ComparedTypes). Some x.reached_by) e.1))
        (get_push_cases cs c i d h);
    differences = all_pushed (λ x. AreDifferences old new x.old.0 x.new.0 x.differences.items) cs c compared.differences (subst (λ (q : ℕ × ℕ). AreDifferences old new q.0 q.1 c.differences.items) (sym types) differences);
  }
    where
      follows : Follows old new (length cs) p all.numbers a b
      follows = all.follows

      now : IsWalkAt old new starts (length cs) p all.numbers b
      now = follows.walk starts (walk_next a cs p compared at)

      size : length (cs ++ c ∷ []) ≡ length cs + 1
      size = length-append cs (c ∷ [])

      kept : (i : ℕ) (q : ℕ × ℕ) → slice_get (pairs_of a) i ≡ Some q → slice_get (pairs_of b) i ≡ Some q
      kept i q h = subst (λ ks. slice_get ks i ≡ Some q) (sym follows.more) (get_front (pairs_of a) follows.added i q h)

      before : (s : Step) → (s.from < length cs) ⊎ ((s.from ≡ length cs) × Contains all.numbers s.field) → s.from < length (cs ++ c ∷ [])
      before s (inl less) = omega (arith, less, size)
      before s (inr e) = omega (arith, e.0, size)

      closed : IsClosed old new (pairs_of b) (length (cs ++ c ∷ []))
      closed i k r q h e to =
          ⊎_elim (λ less. now.closed i k r q less e to)
          (λ most. here (omega (arith, h, size, most)))
          (cases_lt i (length cs))
        where
          here : i ≡ length cs → Contains (pairs_of b) q
          here same =
              let is : r ≡ p = some_same (subst (λ (j : ℕ). slice_get (pairs_of b) j ≡ Some r) same e) now.at in
              let leading : leads old new p k ≡ Some q = subst (λ (x : ℕ × ℕ). leads old new x k ≡ Some q) is to in
              now.listed k q (all.all k q leading) leading

  pub compared_all : (ps : Pairs) (cs : List ComparedTypes) → AreCompared old new starts ps cs → slice_get (pairs_of ps) (length cs) ≡ None → IsComparisonFrom old new starts cs
  compared_all ps cs compared ended = record {
    reached = λ p. (
      λ h. all_contained (ReachedFrom old new starts) (pairs_of ps) p compared.walk.reached (subst (λ ks. Contains ks p) same h),
      λ r. subst (λ ks. Contains ks p) (sym same) (has p r),
    );
    once = subst AllDiffer (sym same) compared.walk.differ;
    steps = λ i c h. step i c c.reached_by (compared.walk.steps i (types_of c) c.reached_by (compared.pairs i c h) (compared.steps i c h));
    order = record {
      first = λ i j k c d s at there to by.
          compared.walk.first i j k (types_of c) (types_of d) s (compared.pairs i c at) (compared.pairs j d there) to (compared.steps j d there ∙ ap Some by);
      ordered = λ i j c d s t less at there by also.
          compared.walk.ordered i j s t less (compared.steps i c at ∙ ap Some by) (compared.steps j d there ∙ ap Some also);
    };
    differences = compared.differences;
  }
    where
      size : length cs ≡ length (pairs_of ps)
      size = omega (arith, none_past (pairs_of ps) (length cs) ended, compared.within)

      same : map types_of cs ≡ pairs_of ps
      same = map_same types_of cs (pairs_of ps) size compared.pairs

      -- where the walk begins, a pair has the index that it has among the starts
      started : (p q : ℕ × ℕ) (i : ℕ) (s : Option Step) → slice_get starts i ≡ Some p → IsStep old new starts (pairs_of ps) i q s → q ≡ p
      started p q i None at h = some_same h at
      started p q i (Some s) at h = absurd (omega (arith, h.0, slice_get_within starts i p at))

      there : (p : ℕ × ℕ) (i : ℕ) → slice_get starts i ≡ Some p → Contains (pairs_of ps) p
      there p i at =
          let inside : i < length (pairs_of ps) = omega (arith, compared.begun, slice_get_within starts i p at) in
          let q : ℕ × ℕ = get_or (pairs_of ps) i (0, 0) in
          let s : Option Step = get_or (steps_of ps) i None in
          let here : slice_get (pairs_of ps) i ≡ Some q = slice_get-get_or (pairs_of ps) i (0, 0) inside in
          let its : slice_get (steps_of ps) i ≡ Some s = slice_get-get_or (steps_of ps) i None (omega (arith, inside, compared.walk.size)) in
          subst (Contains (pairs_of ps)) (started p q i s at (compared.walk.steps i q s here its)) (contains_got (pairs_of ps) i q here)

      has : (p : ℕ × ℕ) → ReachedFrom old new starts p → Contains (pairs_of ps) p
      has p (given h) = let i = index_of starts p h in there p i.0 i.1
      has q (onward {p} k r to) =
          let at = index_of (pairs_of ps) p (has p r) in
          compared.closed at.0 k p q (omega (arith, slice_get_within (pairs_of ps) at.0 p at.1, size)) at.1 to

      step : (i : ℕ) (c : ComparedTypes) (s : Option Step) → IsStep old new starts (pairs_of ps) i (types_of c) s → IsReachedBy old new starts cs i c s
      step i c None h = h
      step i c (Some s) h = (h.0, h.1, some_mapped types_of (λ q. leads old new q s.field ≡ Some (types_of c)) cs s.from (subst (λ ks. IsSomeAnd (slice_get ks s.from) (λ q. leads old new q s.field ≡ Some (types_of c))) (sym same) h.2))
