-- The pool that was taken out is the one that the handle holds.
use Rattle.std.proofs.Common.{◌≡◌, ◌≤◌, ◌+◌, ◌*◌, sym}
use Rattle.pb_c_answers.proofs.StepBounds.{of_message}
use Rattle.pb_c.proofs.typed.canon.mb_canon.Goals as goal

pub returns-clause-refused : goal.returns-clause-refused
returns-clause-refused c limits p has f fault =
    let holds = rw (sym c.in-Some-take.ensures.taken) at has.holds in
    let same : c.deref-2.result.now ≡ p = cc in
    c.canon_message-answer.ensures.refused (rw same has.within) f (rw (same, c.in-Some.ensures.1) fault)

pub returns-clause-steps : goal.returns-clause-steps
returns-clause-steps c is =
    let bad = c.canon_message-answer.ensures.fault is in
    let few : c.canon_message-answer.new.fault.steps ≤ 2 * c.in-Some.limits.depth + 1 = of_message c.deref-2.result.now c.args.message_type bad.1 bad.2 in
    rw c.in-Some.ensures.1 at few

pub returns-clause-copied : goal.returns-clause-copied
returns-clause-copied c limits p has canonical v text =
    let holds = rw (sym c.in-Some-take.ensures.taken) at has.holds in
    let same : c.deref-2.result.now ≡ p = cc in
    c.canon_message-answer.ensures.copied (rw same has.within) (rw same canonical) v (rw (same, c.in-Some.ensures.1) text)
