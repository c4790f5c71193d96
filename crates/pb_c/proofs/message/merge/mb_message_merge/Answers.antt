-- The message that was taken out is the one that the handle holds.
use Rattle.std.proofs.Common.{◌≡◌, ◌≤◌, ◌+◌, ◌*◌, ◌∙◌, Some, inl, inr}
use Rattle.pb_c.proofs.Copies.{some_same}
use Rattle.pb_c_answers.proofs.StepBounds.{of_message}
use Rattle.pb_c.proofs.message.merge.mb_message_merge.Goals as goal

pub returns-clause-steps : goal.returns-clause-steps
returns-clause-steps c is =
    let bad = c.merge_own-answer.ensures.fault is in
    let few : c.merge_own-answer.new.fault.steps ≤ 2 * c.in-Some.limits.depth + 1 = of_message c.deref_mut.result.now.pool c.deref_mut.result.now.kind bad.1 bad.2 in
    rw c.in-Some.ensures.1 at few

pub returns-clause-accepted : goal.returns-clause-accepted
returns-clause-accepted c limits m held w text =
    let own = c.deref_mut.ensures.value in let taken = c.in-Some-take.ensures.taken in
    let there : Some c.deref_mut.result.now ≡ c.args.message.now.seal.message = cc in
    let same : c.deref_mut.result.now ≡ m = some_same c.deref_mut.result.now m (there ∙ held) in
    let made = rw same at c.merge_own-answer.ensures.accepted w (rw c.in-Some.ensures.1 text) in
    elim made [
      | inl is ↦ inl (is.0, let put = c.put.ensures in let onto = is.1 in cc)
      | inr is ↦ inr is
    ]

pub returns-clause-refused : goal.returns-clause-refused
returns-clause-refused c limits m held f fault =
    let own = c.deref_mut.ensures.value in let taken = c.in-Some-take.ensures.taken in
    let there : Some c.deref_mut.result.now ≡ c.args.message.now.seal.message = cc in
    let same : c.deref_mut.result.now ≡ m = some_same c.deref_mut.result.now m (there ∙ held) in
    c.merge_own-answer.ensures.refused f (rw (same, c.in-Some.ensures.1) fault)
