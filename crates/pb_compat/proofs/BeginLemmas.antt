-- The pairs where a walk begins, added one by one.
use Rattle.std.proofs.Common.{◌≡◌, ◌+◌, ◌<◌, inl, inr, ⊎_elim, ℕ, List, [], ◌∷◌, ◌++◌, length, take, Option, Some, None, sym, ◌∙◌, ap, subst, arith, Contains, length-take-le}
use Rattle.std.specs.Prelude.{slice_get}
use Rattle.pb_schema.specs.Names.{AllDiffer}
use Rattle.pb_schema.specs.Types.{Types}
use Rattle.pb_compat.specs.declared.difference.Step.{Step}
use Rattle.pb_compat.specs.declared.pairs.Pairs.{Pairs}
use Rattle.pb_compat.specs.Walk.{pairs_of, steps_of, Adds, IsWithin, IsWalk, HasBegun}
use Rattle.pb_compat.proofs.Lists.{get_push_cases, taken_differ}
use Rattle.pb_compat.proofs.WalkLemmas.{walk_none, walk_first}

none_some : {X : Type 0} {x : X} → ◌≡◌ {A = Option X} None (Some x) → ⊥
none_some p = cc

none_is_some : {s : Step} → ◌≡◌ {A = Option Step} None (Some s) → ⊥
none_is_some p = cc

module _ (old new : Types) (starts : List (ℕ × ℕ)) where
  walk_of : (ps : Pairs) (ks : List (ℕ × ℕ)) (ss : List (Option Step)) → pairs_of ps ≡ ks → steps_of ps ≡ ss → IsWalk old new starts ks ss → IsWalk old new starts (pairs_of ps) (steps_of ps)
  walk_of ps ks ss pairs steps w = subst (λ xs. IsWalk old new starts xs (steps_of ps)) (sym pairs) (subst (λ ys. IsWalk old new starts ks ys) (sym steps) w)

  pub begun_none : (ps : Pairs) → pairs_of ps ≡ [] → steps_of ps ≡ [] → HasBegun old new starts 0 ps
  begun_none ps none no_steps = record {
    walk = walk_of ps [] [] none no_steps (walk_none old new starts);
    same = none;
    given_steps = λ i s h. none_some (subst (λ (ss : List (Option Step)). slice_get ss i ≡ Some (Some s)) no_steps h);
  }

  pub begun_more : (j : ℕ) (q : ℕ × ℕ) (a b : Pairs) → AllDiffer starts → HasBegun old new starts j a → j < length starts → take (j + 1) starts ≡ take j starts ++ q ∷ [] → slice_get starts j ≡ Some q
      → IsWithin old new q → Adds q None a b → HasBegun old new starts (j + 1) b
  begun_more j q a b differ begun inside longer at within adds = by adds
    where
      by : Adds q None a b → HasBegun old new starts (j + 1) b
      by (inl (known, same, same_steps)) = absurd (taken_differ j q starts differ longer (subst (λ (ks : List (ℕ × ℕ)). Contains ks q) begun.same known))
      by (inr (unknown, more, more_steps)) =
          let size : length (pairs_of a) ≡ j = ap length begun.same ∙ length-take-le j starts (omega (arith, inside)) in
          let here : slice_get starts (length (pairs_of a)) ≡ Some q = subst (λ (i : ℕ). slice_get starts i ≡ Some q) (sym size) at in
          record {
            walk = walk_of b (pairs_of a ++ q ∷ []) (steps_of a ++ None ∷ []) more more_steps (walk_first old new starts (pairs_of a) (steps_of a) q begun.walk here within unknown);
            same = more ∙ ap (λ (ks : List (ℕ × ℕ)). ks ++ q ∷ []) begun.same ∙ sym longer;
            given_steps = λ i s h.
                ⊎_elim (λ e. begun.given_steps i s e) (λ e. none_is_some e.1)
                (get_push_cases (steps_of a) None i (Some s) (subst (λ (ss : List (Option Step)). slice_get ss i ≡ Some (Some s)) more_steps h));
          }
