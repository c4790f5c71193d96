use Rattle.std.proofs.Common.{◌≡◌, ℕ, inl, inr, subst}
use Rattle.std.specs.Prelude.{None, ◌⊎◌}
use Rattle.std.proofs.lemmas.Result.{err_from_is_err_and}
use Rattle.pb_schema.specs.Types.{Types}
use Rattle.pb_value.specs.Data.{Message}
use Rattle.pb_value.specs.Dynamic.{Dynamic}
use Rattle.pb_value.specs.WellFormed.{IsWellFormed}
use Rattle.pb_json.specs.Refusals.{refused}
use Rattle.pb_json_read.specs.Answers.{IsUnfit}
use Rattle.pb_json_read.specs.Faults.{fault, out_of_memory}
use Rattle.pb_json_read.specs.declared.error.JsonReadCause.TheVariants.{TooDeep}
use Rattle.pb_json_read.specs.declared.error.JsonReadError.{JsonReadError}
use Rattle.pb_json_read.proofs.depth.with_form.Goals as goal

-- it nests too deep
deep : (pool : Types) (m at : ℕ) (v : Message) (e : JsonReadError) → (e ≡ out_of_memory) ⊎ ((¬ IsWellFormed pool m v) × (e ≡ fault at TooDeep))
    → (e ≡ out_of_memory) ⊎ IsUnfit pool m at v e
deep pool m at v e (inl none) = inl none
deep pool m at v e (inr ill) = inr (inl ill)

pub returns-in_err-message-clause-refused : goal.returns-in_err-message-clause-refused
returns-in_err-message-clause-refused c =
    let p = err_from_is_err_and c.from_residual.result c.from_residual.ensures.1 in
    rw (p.1, p.2) (deep c.args.pool.now c.args.message_type.0 c.args.at _ _ c.in_err-message.ensures.refused)

pub returns-in-Ok-clause-has_form : goal.returns-in-Ok-clause-has_form
returns-in-Ok-clause-has_form c =
    subst (λ (d : Dynamic). refused d ≡ None) c.in_ok-message.ensures.made
    (rw (c.view.ensures, c.in-Ok.is) at c.judge_json-judged.ensures.has_form)
