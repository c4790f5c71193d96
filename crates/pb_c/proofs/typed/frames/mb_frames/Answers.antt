-- The pool that was taken out is the one that the handle holds.
use Rattle.std.proofs.Common.{◌≡◌, ◌≤◌, ◌+◌, ◌*◌, sym}
use Rattle.pb_c.proofs.StepBounds.{of_frame}
use Rattle.pb_c.proofs.typed.frames.mb_frames.Goals as goal

pub returns-clause-accepted : goal.returns-clause-accepted
returns-clause-accepted c limits p has r framed =
    let holds = rw (sym c.in-Some-take.ensures.taken) at has.holds in
    let same : c.deref-2.result.now ≡ p = cc in
    c.check_frame-answer.ensures.accepted (rw same has.within) r (rw (same, c.in-Some.ensures.1) framed)

pub returns-clause-steps : goal.returns-clause-steps
returns-clause-steps c is =
    let bad = c.check_frame-answer.ensures.fault is in
    let few : c.check_frame-answer.new.fault.steps ≤ 2 * c.in-Some.limits.depth + 1 = of_frame bad.1.fault bad.2 in
    rw c.in-Some.ensures.1 at few
