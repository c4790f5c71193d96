-- Pairs of types, each once, in order, and how each is reached first.
use Rattle.std.proofs.Common.{◌≡◌, ◌+◌, ◌<◌, ◌≤◌, ◌⊎◌, inl, inr, ⊎_elim, ℕ, zero, suc, List, [], ◌∷◌, ◌++◌, length, Option, Some, None, refl, sym, ◌∙◌, ap, subst, arith, Contains, append_assoc, length-append}
use Rattle.std.specs.Prelude.{slice_get, IsSomeAnd}
use Rattle.std.proofs.lemmas.Bool.{cases_lt}
use Rattle.std.proofs.lemmas.List.{append-nil}
use Rattle.std.proofs.lemmas.Option.{slice_get_within}
use Rattle.std.proofs.lemmas.List.Elements.{Contains-push, Contains-push_cases, Contains-append_left}
use Rattle.pb_schema.specs.Types.{Types}
use Rattle.pb_schema.proofs.NameSetLemmas.{AllDiffer-push}
use Rattle.pb_compat.specs.declared.difference.Step.{Step}
use Rattle.pb_compat.specs.declared.pairs.Pairs.{Pairs}
use Rattle.pb_compat.specs.Pairs.{leads, ReachedFrom, given, onward, IsNoLater}
use Rattle.pb_compat.specs.Walk.{pairs_of, steps_of, Adds, IsStep, IsWithin, IsWalk, IsClosed, IsWalkAt, Follows}
use Rattle.pb_compat.proofs.Lists.{get_front, get_push_cases, all_got, all_pushed, contains_got}

none_some : {X : Type 0} {x : X} → ◌≡◌ {A = Option X} None (Some x) → ⊥
none_some p = cc

some_same : {X : Type 0} {x y : X} {o : Option X} → o ≡ Some x → o ≡ Some y → x ≡ y
some_same p q = cc

none_step : {s : Step} → ◌≡◌ {A = Option Step} None (Some s) → ⊥
none_step p = cc

-- a step stays one when pairs are added
some_front : (P : (ℕ × ℕ) → Type 0) (ks : List (ℕ × ℕ)) (q : ℕ × ℕ) (i : ℕ) → IsSomeAnd (slice_get ks i) P → IsSomeAnd (slice_get (ks ++ q ∷ []) i) P
some_front P [] q i h = absurd h
some_front P (k ∷ ks) q zero h = h
some_front P (k ∷ ks) q (suc i) h = some_front P ks q i h

module _ (old new : Types) (starts : List (ℕ × ℕ)) where
  step_front : (ks : List (ℕ × ℕ)) (q : ℕ × ℕ) (i : ℕ) (p : ℕ × ℕ) (s : Option Step) → IsStep old new starts ks i p s → IsStep old new starts (ks ++ q ∷ []) i p s
  step_front ks q i p None h = h
  step_front ks q i p (Some s) h = (h.0, h.1, some_front (λ r. leads old new r s.field ≡ Some p) ks q s.from h.2)

  -- a step goes from an earlier pair
  step_earlier : (ks : List (ℕ × ℕ)) (i : ℕ) (p : ℕ × ℕ) (s : Step) → IsStep old new starts ks i p (Some s) → s.from < i
  step_earlier ks i p s h = h.1

  -- the step to a pair that is added
  step_to : (ks : List (ℕ × ℕ)) (q p : ℕ × ℕ) (s : Step) → length starts ≤ length ks → slice_get ks s.from ≡ Some p → leads old new p s.field ≡ Some q
      → IsStep old new starts (ks ++ q ∷ []) (length ks) q (Some s)
  step_to ks q p s begun at leads_to =
      let here : slice_get (ks ++ q ∷ []) s.from ≡ Some p = get_front ks (q ∷ []) s.from p at in
      (begun, slice_get_within ks s.from p at, subst (λ (o : Option (ℕ × ℕ)). IsSomeAnd o (λ r. leads old new r s.field ≡ Some q)) (sym here) leads_to)

  steps_more : (ks : List (ℕ × ℕ)) (ss : List (Option Step)) (q : ℕ × ℕ) (s : Option Step) → length ss ≡ length ks
      → ((i : ℕ) (p : ℕ × ℕ) (t : Option Step) → slice_get ks i ≡ Some p → slice_get ss i ≡ Some t → IsStep old new starts ks i p t)
      → IsStep old new starts (ks ++ q ∷ []) (length ks) q s
      → (i : ℕ) (p : ℕ × ℕ) (t : Option Step) → slice_get (ks ++ q ∷ []) i ≡ Some p → slice_get (ss ++ s ∷ []) i ≡ Some t → IsStep old new starts (ks ++ q ∷ []) i p t
  steps_more ks ss q s size steps last i p t kp st = by (get_push_cases ks q i p kp) (get_push_cases ss s i t st)
    where
      by : (slice_get ks i ≡ Some p) ⊎ ((i ≡ length ks) × (q ≡ p)) → (slice_get ss i ≡ Some t) ⊎ ((i ≡ length ss) × (s ≡ t)) → IsStep old new starts (ks ++ q ∷ []) i p t
      by (inl k) (inl h) = step_front ks q i p t (steps i p t k h)
      by (inl k) (inr e) = absurd (omega (arith, slice_get_within ks i p k, e.0, size))
      by (inr e) (inl h) = absurd (omega (arith, slice_get_within ss i t h, e.0, size))
      by (inr e) (inr d) =
          subst (λ (j : ℕ). IsStep old new starts (ks ++ q ∷ []) j p t) (sym e.0)
          (subst (λ (r : ℕ × ℕ). IsStep old new starts (ks ++ q ∷ []) (length ks) r t) e.1 (subst (λ (r : Option Step). IsStep old new starts (ks ++ q ∷ []) (length ks) q r) d.1 last))

  -- no pair yet
  pub walk_none : IsWalk old new starts [] []
  walk_none = record {
    size = refl;
    differ = tt;
    reached = tt;
    within = tt;
    steps = λ i p s h k. absurd (none_some h);
    first = λ i j k p q s h. absurd (none_some h);
    ordered = λ i j s t less h. absurd (none_some h);
  }

  -- One more pair. If a step leads to it, no step before is later, and no field of a pair leads to it earlier.
  walk_more : (ks : List (ℕ × ℕ)) (ss : List (Option Step)) (q : ℕ × ℕ) (s : Option Step) → IsWalk old new starts ks ss → ReachedFrom old new starts q → IsWithin old new q
      → ¬ Contains ks q → IsStep old new starts (ks ++ q ∷ []) (length ks) q s
      → ((j : ℕ) (t u : Step) → slice_get ss j ≡ Some (Some t) → s ≡ Some u → IsNoLater t u)
      → ((i k : ℕ) (p : ℕ × ℕ) (u : Step) → slice_get ks i ≡ Some p → leads old new p k ≡ Some q → s ≡ Some u → IsNoLater u (record { from = i; field = k }))
      → IsWalk old new starts (ks ++ q ∷ []) (ss ++ s ∷ [])
  walk_more ks ss q s w reached within unknown last earlier later = record {
    size = length-append ss (s ∷ []) ∙ ap (λ n. n + 1) w.size ∙ sym (length-append ks (q ∷ []));
    differ = AllDiffer-push ks q w.differ unknown;
    reached = all_pushed (ReachedFrom old new starts) ks q w.reached reached;
    within = all_pushed (IsWithin old new) ks q w.within within;
    steps = steps;
    first = first;
    ordered = λ i j t u less st su. ordered i j t u less (get_push_cases ss s i (Some t) st) (get_push_cases ss s j (Some u) su);
  }
    where
      steps : (i : ℕ) (p : ℕ × ℕ) (t : Option Step) → slice_get (ks ++ q ∷ []) i ≡ Some p → slice_get (ss ++ s ∷ []) i ≡ Some t → IsStep old new starts (ks ++ q ∷ []) i p t
      steps = steps_more ks ss q s w.size w.steps last

      ordered : (i j : ℕ) (t u : Step) → i < j → (slice_get ss i ≡ Some (Some t)) ⊎ ((i ≡ length ss) × (s ≡ Some t))
          → (slice_get ss j ≡ Some (Some u)) ⊎ ((j ≡ length ss) × (s ≡ Some u)) → IsNoLater t u
      ordered i j t u less (inl h) (inl g) = w.ordered i j t u less h g
      ordered i j t u less (inl h) (inr e) = earlier i t u h e.1
      ordered i j t u less (inr e) (inl g) = absurd (omega (arith, slice_get_within ss j (Some u) g, e.0, less))
      ordered i j t u less (inr e) (inr d) = absurd (omega (arith, e.0, d.0, less))

      first : (i j k : ℕ) (p r : ℕ × ℕ) (u : Step) → slice_get (ks ++ q ∷ []) i ≡ Some p → slice_get (ks ++ q ∷ []) j ≡ Some r → leads old new p k ≡ Some r
          → slice_get (ss ++ s ∷ []) j ≡ Some (Some u) → IsNoLater u (record { from = i; field = k })
      first i j k p r u at there to by = split (get_push_cases ks q i p at) (get_push_cases ks q j r there) (get_push_cases ss s j (Some u) by)
        where
          less : u.from < j
          less = step_earlier (ks ++ q ∷ []) j r u (steps j r (Some u) there by)

          split : (slice_get ks i ≡ Some p) ⊎ ((i ≡ length ks) × (q ≡ p)) → (slice_get ks j ≡ Some r) ⊎ ((j ≡ length ks) × (q ≡ r))
              → (slice_get ss j ≡ Some (Some u)) ⊎ ((j ≡ length ss) × (s ≡ Some u)) → IsNoLater u (record { from = i; field = k })
          split (inl h) (inl g) (inl f) = w.first i j k p r u h g to f
          split (inl h) (inl g) (inr e) = absurd (omega (arith, slice_get_within ks j r g, e.0, w.size))
          split (inl h) (inr d) (inl f) = absurd (omega (arith, slice_get_within ss j (Some u) f, d.0, w.size))
          split (inl h) (inr d) (inr e) = later i k p u h (to ∙ ap Some (sym d.1)) e.1
          split (inr e) (inl g) f = inl (omega (arith, less, slice_get_within ks j r g, e.0))
          split (inr e) (inr d) f = inl (omega (arith, less, d.0, e.0))

  -- one of those where the walk begins
  pub walk_first : (ks : List (ℕ × ℕ)) (ss : List (Option Step)) (q : ℕ × ℕ) → IsWalk old new starts ks ss → slice_get starts (length ks) ≡ Some q → IsWithin old new q → ¬ Contains ks q
      → IsWalk old new starts (ks ++ q ∷ []) (ss ++ None ∷ [])
  walk_first ks ss q w at within unknown =
      walk_more ks ss q None w (given (contains_got starts (length ks) q at)) within unknown at (λ j t u h e. absurd (none_step e)) (λ i k p u h to e. absurd (none_step e))

  -- a pair that a step leads to
  pub walk_added : (ks : List (ℕ × ℕ)) (ss : List (Option Step)) (p q : ℕ × ℕ) (s : Step) → IsWalk old new starts ks ss → length starts ≤ length ks → slice_get ks s.from ≡ Some p
      → leads old new p s.field ≡ Some q → IsWithin old new q → ¬ Contains ks q
      → ((j : ℕ) (t : Step) → slice_get ss j ≡ Some (Some t) → IsNoLater t s)
      → ((i k : ℕ) (r : ℕ × ℕ) → slice_get ks i ≡ Some r → leads old new r k ≡ Some q → IsNoLater s (record { from = i; field = k }))
      → IsWalk old new starts (ks ++ q ∷ []) (ss ++ Some s ∷ [])
  walk_added ks ss p q s w begun at leads_to within unknown earlier later =
      walk_more ks ss q (Some s) w (onward s.field (all_got (ReachedFrom old new starts) ks s.from p w.reached at) leads_to) within unknown
      (step_to ks q p s begun at leads_to)
      (λ j t u h e. subst (IsNoLater t) (some_same refl e) (earlier j t h))
      (λ i k r u h to e. subst (λ (v : Step). IsNoLater v (record { from = i; field = k })) (some_same refl e) (later i k r h to))

-- the number that is followed next: no number before it is greater, and each other number of the fields is before it or no less
pub record IsNext (all ns : List ℕ) (n : ℕ) : Type 0 where
  pub least : (k : ℕ) → Contains ns k → k ≤ n
  pub rest : (k : ℕ) → Contains all k → Contains ns k ⊎ (n ≤ k)

module _ (old new : Types) where
  pub follow_none : (i : ℕ) (p : ℕ × ℕ) (a : Pairs) → Follows old new i p [] a a
  follow_none i p a = record {
    added = [];
    more = sym (append-nil (pairs_of a));
    added_steps = [];
    more_steps = sym (append-nil (steps_of a));
    walk = λ starts w. w;
  }

  -- the steps so far are of the numbers so far
  before_more : (i : ℕ) (ns : List ℕ) (n : ℕ) (s : Step) → (s.from < i) ⊎ ((s.from ≡ i) × Contains ns s.field) → (s.from < i) ⊎ ((s.from ≡ i) × Contains (ns ++ n ∷ []) s.field)
  before_more i ns n s (inl less) = inl less
  before_more i ns n s (inr h) = inr (h.0, Contains-append_left ns (n ∷ []) s.field h.1)

  -- a number whose fields lead nowhere
  pub follow_past : (i : ℕ) (p : ℕ × ℕ) (ns : List ℕ) (n : ℕ) (a b : Pairs) → Follows old new i p ns a b → leads old new p n ≡ None → Follows old new i p (ns ++ n ∷ []) a b
  follow_past i p ns n a b f nowhere = record {
    added = f.added;
    more = f.more;
    added_steps = f.added_steps;
    more_steps = f.more_steps;
    walk = λ starts w. past starts (f.walk starts w);
  }
    where
      past : (starts : List (ℕ × ℕ)) → IsWalkAt old new starts i p ns b → IsWalkAt old new starts i p (ns ++ n ∷ []) b
      past starts w = record {
        walk = w.walk;
        begun = w.begun;
        at = w.at;
        closed = w.closed;
        listed = λ k q h to. ⊎_elim (λ e. w.listed k q e to) (λ e. absurd (none_some (sym nowhere ∙ ap (leads old new p) e ∙ to))) (Contains-push_cases ns n k h);
        before = λ j s h. before_more i ns n s (w.before j s h);
      }

  module _ (i : ℕ) (p q : ℕ × ℕ) (ns : List ℕ) (n : ℕ) (b c : Pairs) (starts : List (ℕ × ℕ)) (w : IsWalkAt old new starts i p ns b) (leads_to : leads old new p n ≡ Some q) where
    seen : (k : ℕ) (r : ℕ × ℕ) → ((x : ℕ × ℕ) → Contains (pairs_of b) x → Contains (pairs_of c) x) → Contains (pairs_of c) q → Contains (ns ++ n ∷ []) k → leads old new p k ≡ Some r
        → Contains (pairs_of c) r
    seen k r keeps there h to =
        ⊎_elim (λ e. keeps r (w.listed k r e to)) (λ e. subst (Contains (pairs_of c)) (some_same leads_to (ap (leads old new p) e ∙ to)) there) (Contains-push_cases ns n k h)

    -- a pair that is there
    walk_to_known : Contains (pairs_of b) q → pairs_of c ≡ pairs_of b → steps_of c ≡ steps_of b → IsWalkAt old new starts i p (ns ++ n ∷ []) c
    walk_to_known known same same_steps = record {
      walk = subst (λ ks. IsWalk old new starts ks (steps_of c)) (sym same) (subst (λ ss. IsWalk old new starts (pairs_of b) ss) (sym same_steps) w.walk);
      begun = subst (λ (ks : List (ℕ × ℕ)). length starts ≤ length ks) (sym same) w.begun;
      at = subst (λ (ks : List (ℕ × ℕ)). slice_get ks i ≡ Some p) (sym same) w.at;
      closed = subst (λ (ks : List (ℕ × ℕ)). IsClosed old new ks i) (sym same) w.closed;
      listed = λ k r. seen k r (λ x h. subst (λ ks. Contains ks x) (sym same) h) (subst (λ ks. Contains ks q) (sym same) known);
      before = λ j s h. before_more i ns n s (w.before j s (subst (λ (ss : List (Option Step)). slice_get ss j ≡ Some (Some s)) same_steps h));
    }

    module _ (all : List ℕ) (next : IsNext all ns n) (every : (k : ℕ) (r : ℕ × ℕ) → leads old new p k ≡ Some r → Contains all k) (within : IsWithin old new q) (unknown : ¬ Contains (pairs_of b) q)
        (more : pairs_of c ≡ pairs_of b ++ q ∷ []) (more_steps : steps_of c ≡ steps_of b ++ Some (record { from = i; field = n }) ∷ []) where
      -- no step is later
      earlier : (t : Step) → (t.from < i) ⊎ ((t.from ≡ i) × Contains ns t.field) → IsNoLater t (record { from = i; field = n })
      earlier t (inl less) = inl less
      earlier t (inr h) = inr (h.0, next.least t.field h.1)

      -- no field leads there earlier
      later : (j k : ℕ) (r : ℕ × ℕ) → slice_get (pairs_of b) j ≡ Some r → leads old new r k ≡ Some q → IsNoLater (record { from = i; field = n }) (record { from = j; field = k })
      later j k r h to = ⊎_elim (λ less. absurd (unknown (w.closed j k r q less h to))) (λ most. ⊎_elim (λ less. inl less) (λ e. here (omega (arith, most, e))) (cases_lt i j)) (cases_lt j i)
        where
          here : j ≡ i → IsNoLater (record { from = i; field = n }) (record { from = j; field = k })
          here same =
              let is : r ≡ p = some_same (subst (λ (x : ℕ). slice_get (pairs_of b) x ≡ Some r) same h) w.at in
              let leading : leads old new p k ≡ Some q = subst (λ (x : ℕ × ℕ). leads old new x k ≡ Some q) is to in
              ⊎_elim (λ done. absurd (unknown (w.listed k q done leading))) (λ less. inr (sym same, less)) (next.rest k (every k q leading))

      -- a pair that is added
      walk_to_new : IsWalkAt old new starts i p (ns ++ n ∷ []) c
      walk_to_new = record {
        walk =
            subst (λ ks. IsWalk old new starts ks (steps_of c)) (sym more)
            (subst (λ ss. IsWalk old new starts (pairs_of b ++ q ∷ []) ss) (sym more_steps)
            (walk_added old new starts (pairs_of b) (steps_of b) p q (record { from = i; field = n }) w.walk w.begun w.at leads_to within unknown
            (λ j t h. earlier t (w.before j t h)) later));
        begun = subst (λ (ks : List (ℕ × ℕ)). length starts ≤ length ks) (sym more) (omega (arith, w.begun, length-append (pairs_of b) (q ∷ [])));
        at = kept i p w.at;
        closed = closed;
        listed = λ k r. seen k r keeps (subst (λ ks. Contains ks q) (sym more) (Contains-push (pairs_of b) q));
        before = λ j s h. before j s (get_push_cases (steps_of b) (Some (record { from = i; field = n })) j (Some s) (subst (λ (ss : List (Option Step)). slice_get ss j ≡ Some (Some s)) more_steps h));
      }
        where
          kept : (j : ℕ) (r : ℕ × ℕ) → slice_get (pairs_of b) j ≡ Some r → slice_get (pairs_of c) j ≡ Some r
          kept j r h = subst (λ (ks : List (ℕ × ℕ)). slice_get ks j ≡ Some r) (sym more) (get_front (pairs_of b) (q ∷ []) j r h)

          keeps : (x : ℕ × ℕ) → Contains (pairs_of b) x → Contains (pairs_of c) x
          keeps x h = subst (λ ks. Contains ks x) (sym more) (Contains-append_left (pairs_of b) (q ∷ []) x h)

          closed : IsClosed old new (pairs_of c) i
          closed j k r x less h to =
              ⊎_elim (λ g. keeps x (w.closed j k r x less g to)) (λ e. absurd (omega (arith, slice_get_within (pairs_of b) i p w.at, less, e.0)))
              (get_push_cases (pairs_of b) q j r (subst (λ (ks : List (ℕ × ℕ)). slice_get ks j ≡ Some r) more h))

          before : (j : ℕ) (s : Step) → (slice_get (steps_of b) j ≡ Some (Some s)) ⊎ ((j ≡ length (steps_of b)) × (◌≡◌ {A = Option Step} (Some (record { from = i; field = n })) (Some s)))
              → (s.from < i) ⊎ ((s.from ≡ i) × Contains (ns ++ n ∷ []) s.field)
          before j s (inl h) = before_more i ns n s (w.before j s h)
          before j s (inr e) =
              let same : ◌≡◌ {A = Step} (record { from = i; field = n }) s = some_same refl e.1 in
              inr (ap (λ (x : Step). x.from) (sym same), subst (Contains (ns ++ n ∷ [])) (ap (λ (x : Step). x.field) same) (Contains-push ns n))

  -- a number whose fields lead to a pair that is there or is added
  pub follow_to : (i : ℕ) (p q : ℕ × ℕ) (all ns : List ℕ) (n : ℕ) (a b c : Pairs) → Follows old new i p ns a b → IsNext all ns n → ((k : ℕ) (r : ℕ × ℕ) → leads old new p k ≡ Some r → Contains all k)
      → leads old new p n ≡ Some q → IsWithin old new q → Adds q (Some (record { from = i; field = n })) b c → Follows old new i p (ns ++ n ∷ []) a c
  follow_to i p q all ns n a b c f next every leads_to within adds = by adds
    where
      by : Adds q (Some (record { from = i; field = n })) b c → Follows old new i p (ns ++ n ∷ []) a c
      by (inl (known, same, same_steps)) = record {
        added = f.added;
        more = same ∙ f.more;
        added_steps = f.added_steps;
        more_steps = same_steps ∙ f.more_steps;
        walk = λ starts w. walk_to_known i p q ns n b c starts (f.walk starts w) leads_to known same same_steps;
      }
      by (inr (unknown, more, more_steps)) = record {
        added = f.added ++ q ∷ [];
        more = more ∙ ap (λ ks. ks ++ q ∷ []) f.more ∙ append_assoc (pairs_of a) f.added (q ∷ []);
        added_steps = f.added_steps ++ Some (record { from = i; field = n }) ∷ [];
        more_steps = more_steps ∙ ap (λ ss. ss ++ Some (record { from = i; field = n }) ∷ []) f.more_steps ∙ append_assoc (steps_of a) f.added_steps (Some (record { from = i; field = n }) ∷ []);
        walk = λ starts w. walk_to_new i p q ns n b c starts (f.walk starts w) leads_to all next every within unknown more more_steps;
      }
