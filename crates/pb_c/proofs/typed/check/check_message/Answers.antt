-- A message is accepted, so where there is an error it is the one fault, or memory ran out.
use Rattle.std.proofs.Common.{◌≡◌, subst, sym}
use Rattle.pb_value.specs.Derives.{Text}
use Rattle.pb_decode.specs.Push.{IsFaultOf}
use Rattle.pb_c_answers.specs.Reporting.{Tells}
use Rattle.pb_c_answers.proofs.Refusals.{of_bytes, the_fault_of}
use Rattle.pb_c.proofs.typed.check.check_message.Goals as goal

pub returns-in-Err-clause-accepted : goal.returns-in-Err-clause-accepted
returns-in-Err-clause-accepted c within v text =
    let accepted = c.in-Err.ensures.accepted v (subst (λ m. Text c.args.pool.now m c.args.limits c.args.bytes.now v) (sym c.in-Some.ensures.found.0) text) in
    absurd cc

pub returns-in-Err-clause-refused : goal.returns-in-Err-clause-refused
returns-in-Err-clause-refused c within f fault =
    the_fault_of c.in-Err.error f (λ g. (c.tell_error.result ≡ 13) × Tells g c.tell_error.new.fault c.args.path.now c.tell_error.new.path)
    (c.tell_error.result ≡ 14)
    (of_bytes c.in-Err.error (λ g. g ≡ f)
    (c.in-Err.ensures.refused f (subst (λ m. IsFaultOf c.args.pool.now m c.args.limits c.args.bytes.now f) (sym c.in-Some.ensures.found.0) fault)))
    c.tell_error.ensures.told
