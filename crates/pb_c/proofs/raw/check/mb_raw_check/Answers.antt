-- A fault of the bytes is the one that was reported, or memory ran out.
use Rattle.std.proofs.Common.{◌≡◌, ◌≤◌, ◌+◌, subst, sym}
use Rattle.pb_wire.specs.Schema.{blank}
use Rattle.pb_wire.specs.Grammar.{HasFault}
use Rattle.pb_c_answers.specs.Reporting.{Tells}
use Rattle.pb_c.proofs.StepBounds.{of_raw_error}
use Rattle.pb_c.proofs.Telling.{one_told}
use Rattle.pb_c.proofs.raw.check.mb_raw_check.Goals as goal

pub returns-in-Err-clause-refused : goal.returns-in-Err-clause-refused
returns-in-Err-clause-refused c limits f fault =
    one_told c.in-Err.error f (λ g. (c.tell_raw.result ≡ 13) × Tells g c.tell_raw.new.fault c.args.path.now c.tell_raw.new.path) (c.tell_raw.result ≡ 14)
    (c.in-Err.ensures.refused f (subst (λ l. HasFault blank tt l c.args.bytes.now f) (sym c.in-Some.ensures.1) fault))
    c.tell_raw.ensures.fault (λ is. (c.tell_raw.ensures.memory is).0)

pub returns-in-Err-clause-steps : goal.returns-in-Err-clause-steps
returns-in-Err-clause-steps c is =
    let few : c.tell_raw.new.fault.steps ≤ c.in-Some.limits.depth + 1 =
    of_raw_error c.in-Some.limits c.args.bytes.now c.tell_raw.new.fault c.args.path.now c.tell_raw.new.path c.tell_raw.result c.in-Err.error
    c.in-Err.ensures.fault c.tell_raw.ensures.fault (λ e. (c.tell_raw.ensures.memory e).0) is
    in
    rw c.in-Some.ensures.1 at few
