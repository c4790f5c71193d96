-- The pool that was taken out is the one that the handle holds.
use Rattle.std.proofs.Common.{◌≡◌, ◌≤◌, ◌+◌, ◌*◌, ◌∙◌, Some, ap, inl, inr, refl, sym}
use Rattle.pb_c_answers.proofs.StepBounds.{of_message}
use Rattle.pb_c.proofs.message.decode.mb_message_decode.Goals as goal

pub returns-in-Ok-clause-accepted : goal.returns-in-Ok-clause-accepted
returns-in-Ok-clause-accepted c limits p has v text =
    let holds = rw (sym c.in-Some-take.ensures.taken) at has.holds in
    let same : c.deref.result.now.pool.value ≡ p = cc in
    let made = c.in-Ok.ensures.accepted (rw same has.within) v (rw (same, c.in-Some.ensures.1) text) in
    inl (refl, c.hold.ensures ∙ ap (λ d. Some d) (rw same at made))

pub returns-in-Err-clause-accepted : goal.returns-in-Err-clause-accepted
returns-in-Err-clause-accepted c limits p has v text =
    let holds = rw (sym c.in-Some-take.ensures.taken) at has.holds in
    let same : c.deref.result.now.pool.value ≡ p = cc in
    inr (c.in-Err.ensures.accepted (rw same has.within) v (rw (same, c.in-Some.ensures.1) text))

pub returns-in-Err-clause-refused : goal.returns-in-Err-clause-refused
returns-in-Err-clause-refused c limits p has f fault =
    let holds = rw (sym c.in-Some-take.ensures.taken) at has.holds in
    let same : c.deref.result.now.pool.value ≡ p = cc in
    c.in-Err.ensures.refused (rw same has.within) f (rw (same, c.in-Some.ensures.1) fault)

pub returns-in-Err-clause-steps : goal.returns-in-Err-clause-steps
returns-in-Err-clause-steps c is =
    let bad = c.in-Err.ensures.fault is in
    let few : c.decode_message-decoded.new.fault.steps ≤ 2 * c.in-Some.limits.depth + 1 =
    of_message c.deref.result.now.pool.value c.args.message_type bad.1 bad.2
    in
    rw c.in-Some.ensures.1 at few
