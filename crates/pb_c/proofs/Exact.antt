-- What is answered is exact, where there is one meaning or one fault, or memory ran out.
use Rattle.std.proofs.Common.{◌≡◌, ◌≢◌, ◌⊎◌, inl, inr, ⊎_elim, ℕ, ap, subst, Option, Some, ◌∙◌}
use Rattle.std.proofs.lemmas.Bool.{cases_eq}
use Rattle.pb_schema.specs.Types.{Types}
use Rattle.pb_c.specs.PoolFault.{PoolFault}

module _
    (Makes : Types → Type 0) (Fails : PoolFault → Type 0) (never_both : (ts : Types) (w : PoolFault) → Makes ts → Fails w → ⊥)
    (answer : ℕ) (held : Option Types) (Told : PoolFault → Type 0)
    (made : answer ≡ 0 → (ts : Types) × Makes ts × (held ≡ Some ts))
    (refused : answer ≢ 0 → answer ≢ 14 → (w : PoolFault) × Fails w × Told w) where
  pub accepted : ((ts us : Types) → Makes ts → Makes us → ts ≡ us) → (ts : Types) → Makes ts → ((answer ≡ 0) × (held ≡ Some ts)) ⊎ (answer ≡ 14)
  accepted one ts makes = ⊎_elim (λ done. inl (done, held_too done)) (λ other. ⊎_elim inr (λ else. refuse other else) (cases_eq answer 14)) (cases_eq answer 0)
    where
      held_too : answer ≡ 0 → held ≡ Some ts
      held_too done = let m = made done in m.2 ∙ ap (λ us. Some us) (one m.0 ts m.1 makes)

      refuse : answer ≢ 0 → answer ≢ 14 → ((answer ≡ 0) × (held ≡ Some ts)) ⊎ (answer ≡ 14)
      refuse other else = let r = refused other else in absurd (never_both ts r.0 makes r.1)

  pub told : ((v w : PoolFault) → Fails v → Fails w → v ≡ w) → (w : PoolFault) → Fails w → Told w ⊎ (answer ≡ 14)
  told one w fails = ⊎_elim (λ done. let m = made done in absurd (never_both m.0 w m.1 fails)) (λ other. ⊎_elim inr (λ else. inl (same other else)) (cases_eq answer 14)) (cases_eq answer 0)
    where
      same : answer ≢ 0 → answer ≢ 14 → Told w
      same other else = let r = refused other else in subst Told (one r.0 w r.1 fails) r.2
