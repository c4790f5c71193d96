use Rattle.std.proofs.Common.{◌≡◌, ℕ, inl, inr}
use Rattle.std.specs.Prelude.{◌⊎◌, ◌≢◌}
use Rattle.pb_value.specs.declared.error.ValueError.{ValueError}
use Rattle.pb_value.specs.declared.error.ValueError.TheVariants.{Memory}
use Rattle.pb_json_read.specs.declared.error.JsonReadCause.TheVariants.{TooDeep}
use Rattle.pb_json_read.specs.declared.error.JsonReadError.{JsonReadError}
use Rattle.pb_json_read.specs.Faults.{fault, out_of_memory}
use Rattle.pb_json_read.proofs.depth.within_depth.Goals as goal

judged : (W : Type 0) (at : ℕ) (v : ValueError) (e : JsonReadError) → (W → v ≡ Memory) → ((v ≡ Memory) × (e ≡ out_of_memory)) ⊎ ((v ≢ Memory) × (e ≡ fault at TooDeep))
    → (e ≡ out_of_memory) ⊎ ((¬ W) × (e ≡ fault at TooDeep))
judged W at v e accepts (inl h) = inl h.1
judged W at v e accepts (inr h) = inr ((λ well. h.0 (accepts well)), h.1)

pub returns-in-Err-clause-refused : goal.returns-in-Err-clause-refused
returns-in-Err-clause-refused c = judged _ _ _ _ c.in-Err.ensures.accepts c.not_well_formed.ensures
