-- What is reported of a scalar that was looked for.
use Rattle.std.specs.Prelude.{◌≡◌, ℕ, List, Option, Some, None, Result, Ok, Err}
use Rattle.pb_schema.specs.Scalar.{Scalar}
use Rattle.pb_decode.specs.declared.error.DecodeError.{DecodeError}
use Rattle.pb_find.specs.View.{scalar_view}
use Rattle.pb_find.specs.declared.scalar_ref.ScalarRef.{ScalarRef}
use Rattle.pb_c_message.specs.Plain.{scalar_bytes, scalar_plain}
use Rattle.pb_c_message.specs.declared.value.PlainValue.{PlainValue}
use Rattle.pb_c_answers.specs.Reporting.{Tells, laid_over}
use Rattle.pb_c_answers.specs.Typed.{ByFault}
use Rattle.pb_c_answers.specs.declared.reporting.FaultReport.{FaultReport}
use Rattle.pb_c_answers.specs.declared.reporting.Step.{Step}

-- The value is the scalar, and its bytes, if it has some, are laid over the buffer.
pub record Reports (x : Scalar) (reported : PlainValue) (old new : List ℕ) : Type 0 where
  pub value : reported ≡ scalar_plain x
  pub bytes : new ≡ laid_over (scalar_bytes x) old

abbrev pub TellsFound :
    Result (Option ScalarRef) DecodeError → ℕ → PlainValue → List ℕ → List ℕ → FaultReport → List Step → List Step → Type 0
TellsFound (Ok (Some x)) answer value old new fault path_old path_new = (answer ≡ 0) × Reports (scalar_view x) value old new
TellsFound (Ok None) answer value old new fault path_old path_new = answer ≡ 6
TellsFound (Err e) answer value old new fault path_old path_new = ByFault e (λ f. (answer ≡ 13) × Tells f fault path_old path_new) (answer ≡ 14)
