-- What is reported of a scalar that was looked for is what was found.
use Rattle.std.proofs.Common.{◌≡◌, ◌<◌, ◌⊎◌, inl, inr, ℕ, List, Option, Some, None, Result, Ok, Err, IfOk, IfErr, ap, subst, arith}
use Rattle.std.specs.Result.{IsOkAnd}
use Rattle.pb_wire.specs.Fault.{Fault}
use Rattle.pb_wire.specs.Fault as wire
use Rattle.pb_schema.specs.Scalar.{Scalar}
use Rattle.pb_decode.specs.Push as push
use Rattle.pb_decode.specs.Reader.{IfFault}
use Rattle.pb_decode.specs.declared.error.DecodeError.{DecodeError}
use Rattle.pb_decode.specs.declared.error.DecodeError.TheVariants as error
use Rattle.pb_find.specs.View.{found_view, scalar_view}
use Rattle.pb_find.specs.declared.scalar_ref.ScalarRef.{ScalarRef}
use Rattle.pb_c_message.specs.declared.value.PlainValue.{PlainValue}
use Rattle.pb_c_answers.specs.Reporting.{Tells}
use Rattle.pb_c_answers.specs.Typed.{ByFault}
use Rattle.pb_c.specs.Typed.Found.{Reports, TellsFound}
use Rattle.pb_c_answers.specs.declared.reporting.FaultReport.{FaultReport}
use Rattle.pb_c_answers.specs.declared.reporting.Step.{Step}

abbrev or_else : {A : Type 0} → A → Option A → A
or_else a None = a
or_else a (Some b) = b

error_answer : (e : DecodeError) (answer : ℕ) (T : Fault → Type 0) → ByFault e (λ f. (answer ≡ 13) × T f) (answer ≡ 14) → (answer ≡ 13) ⊎ (answer ≡ 14)
error_answer (error.Fault byte path cause) answer T told = inl told.0
error_answer error.Memory answer T told = inr told
error_answer error.Device answer T told = inr told
error_answer error.Finished answer T told = inr told

no_error : (n answer : ℕ) → n < 13 → answer ≡ n → (answer ≡ 13) ⊎ (answer ≡ 14) → ⊥
no_error n answer low was (inl is) = absurd (omega (arith, low, was, is))
no_error n answer low was (inr is) = absurd (omega (arith, low, was, is))

module _ (answer : ℕ) (value : PlainValue) (old new : List ℕ) (report : FaultReport) (path_old path_new : List Step) where
  pub found_told :
      (r : Result (Option ScalarRef) DecodeError) (P : Option Scalar → Type 0) → TellsFound r answer value old new report path_old path_new
      → IfOk r (λ x. P (found_view x)) → answer ≡ 0 → (x : Scalar) × P (Some x) × Reports x value old new
  found_told (Ok (Some x)) P told is was = (scalar_view x, is, told.1)
  found_told (Ok None) P told is was = absurd (omega (arith, told, was))
  found_told (Err e) P told is was = absurd (no_error 0 answer (omega arith) was (error_answer e answer (λ f. Tells f report path_old path_new) told))

  pub absent_told :
      (r : Result (Option ScalarRef) DecodeError) (P : Option Scalar → Type 0) → TellsFound r answer value old new report path_old path_new
      → IfOk r (λ x. P (found_view x)) → answer ≡ 6 → P None
  absent_told (Ok (Some x)) P told is was = let done = told.0 in absurd (omega (arith, done, was))
  absent_told (Ok None) P told is was = is
  absent_told (Err e) P told is was = absurd (no_error 6 answer (omega arith) was (error_answer e answer (λ f. Tells f report path_old path_new) told))

  pub fault_told :
      (r : Result (Option ScalarRef) DecodeError) (F : Fault → Type 0) → TellsFound r answer value old new report path_old path_new
      → IfErr r (λ e. IfFault e F) → answer ≡ 13 → (f : Fault) × F f × Tells f report path_old path_new
  fault_told (Ok (Some x)) F told is was = let done = told.0 in absurd (omega (arith, done, was))
  fault_told (Ok None) F told is was = absurd (omega (arith, told, was))
  fault_told (Err (error.Fault byte path cause)) F told is was = (wire.fault byte path.items cause, is, told.1)
  fault_told (Err error.Memory) F told is was = absurd (omega (arith, told, was))
  fault_told (Err error.Device) F told is was = absurd is
  fault_told (Err error.Finished) F told is was = absurd is

  pub reported_told :
      (r : Result (Option ScalarRef) DecodeError) (y : Scalar) → TellsFound r answer value old new report path_old path_new
      → IsOkAnd r (λ x. found_view x ≡ Some y) → (answer ≡ 0) × Reports y value old new
  reported_told (Ok (Some x)) y told is = (told.0, subst (λ z. Reports z value old new) (ap (or_else (scalar_view x)) is) told.1)
  reported_told (Ok None) y told is = absurd cc
  reported_told (Err e) y told is = absurd is

  pub missing_told :
      (r : Result (Option ScalarRef) DecodeError) → TellsFound r answer value old new report path_old path_new
      → IsOkAnd r (λ x. found_view x ≡ None) → answer ≡ 6
  missing_told (Ok (Some x)) told is = absurd cc
  missing_told (Ok None) told is = told
  missing_told (Err e) told is = absurd is

  pub refused_told :
      (r : Result (Option ScalarRef) DecodeError) (f : Fault) → TellsFound r answer value old new report path_old path_new
      → push.Tells r f → ((answer ≡ 13) × Tells f report path_old path_new) ⊎ (answer ≡ 14)
  refused_told (Ok x) f told is = absurd is
  refused_told (Err (error.Fault byte path cause)) f told is = inl (told.0, subst (λ g. Tells g report path_old path_new) is told.1)
  refused_told (Err error.Memory) f told is = inr told
  refused_told (Err error.Device) f told is = absurd is
  refused_told (Err error.Finished) f told is = absurd is
