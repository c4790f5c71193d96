-- What is answered of the fault of a JSON text, or that memory ran out.
use Rattle.std.proofs.Common.{◌≡◌, ◌⊎◌, ℕ, inl, inr, subst}
use Rattle.pb_json_read.specs.Faults.{out_of_memory}
use Rattle.pb_json_read.specs.declared.error.JsonReadError.{JsonReadError}
use Rattle.pb_c_answers.specs.Json.Reading.{ReportsRead}

module _
    (e : JsonReadError) (answer byte : ℕ) (memory : e ≡ out_of_memory → answer ≡ 14) (reported : ReportsRead e answer byte ⊎ (answer ≡ 14)) where
  -- another answer is the cause of the fault
  pub cause_answered :
      (Bad : JsonReadError → Type 0) → (e ≡ out_of_memory) ⊎ Bad e → (answer ≡ 14 → ⊥) → (f : JsonReadError) × Bad f × ReportsRead f answer byte
  cause_answered Bad (inl same) other = absurd (other (memory same))
  cause_answered Bad (inr bad) other = by reported
    where
      by : ReportsRead e answer byte ⊎ (answer ≡ 14) → (f : JsonReadError) × Bad f × ReportsRead f answer byte
      by (inl reports) = (e, bad, reports)
      by (inr none) = absurd (other none)

  -- a fault of the text is the one that is answered
  pub fault_answered : (f : JsonReadError) → (e ≡ out_of_memory) ⊎ (e ≡ f) → ReportsRead f answer byte ⊎ (answer ≡ 14)
  fault_answered f (inl same) = inr (memory same)
  fault_answered f (inr same) = subst (λ g. ReportsRead g answer byte ⊎ (answer ≡ 14)) same reported
