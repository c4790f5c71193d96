-- What is read of a value that is no message.
use Rattle.std.proofs.Common.{◌≡◌, ℕ, true, false, Option, None, Result, Ok, Err, IfOk, IfErr, inr, sym, subst}
use Rattle.std.specs.Prelude.{option_map}
use Rattle.pb_schema.specs.declared.types.Kind.{Kind}
use Rattle.pb_schema.specs.Types.{Types}
use Rattle.pb_value.specs.Data.{Datum}
use Rattle.pb_value.specs.View.{value_view}
use Rattle.pb_value.specs.declared.body.Value.{Value}
use Rattle.pb_json_text.specs.Json.{Json}
use Rattle.pb_json_read.specs.declared.error.JsonReadCause.TheVariants.{BadValue}
use Rattle.pb_json_read.specs.declared.error.JsonReadError.{JsonReadError}
use Rattle.pb_json_read.specs.declared.rules.JsonRules.{JsonRules}
use Rattle.pb_json_read.specs.Answers.{Answers}
use Rattle.pb_json_read.specs.Faults.{fault}
use Rattle.pb_json_read.specs.Values.{IsScalar}
use Rattle.pb_json_read.specs.Steps.{ReadsScalar, passes_over}

-- a value that is none of its kind
pub plain_without : (pool : Types) (rule : JsonRules) (k : Kind) (at : ℕ) (j : Json) (r : Result (Option Value) JsonReadError) → ((d : Datum) → ¬ IsScalar pool k j d)
    → IfOk r (λ read. (option_map value_view read ≡ None) × (passes_over rule k j ≡ true))
    → IfErr r (λ e. (e ≡ fault at BadValue) × (passes_over rule k j ≡ false)) → Answers (option_map value_view) (ReadsScalar pool rule k at j) r
plain_without pool rule k at j (Ok v) none ok err = subst (λ (o : Option Datum). ReadsScalar pool rule k at j (Ok o)) (sym ok.0) (none, ok.1)
plain_without pool rule k at j (Err e) none ok err = inr (none, err.1, err.0)
