use Rattle.std.proofs.Common.{◌+◌, drop, sym, ap, ◌∙◌}
use Rattle.std.proofs.lemmas.Result.{err_from_is_err_and}
use Rattle.pb_c_message.specs.Places.{places}
use Rattle.pb_c_message.proofs.StepLemmas.{after, one_more, all_read, none_said}
use Rattle.pb_c_message.proofs.place.read_steps.Goals as goal

pub returns-in_err-next : goal.returns-in_err-next
returns-in_err-next c =
    let p = err_from_is_err_and c.from_residual.result c.from_residual.ensures.1 in
    rw (p.1, p.2)
    (none_said c.args.keys.now c.args.place.now c.loop-step.step-index _ c.loop-step.steps.items c.in_err-next.field-0.0 c.loop-step-test.true c.in_err-next.ensures
    c.loop-step.invariant)

pub loop-step-preserved : goal.loop-step-preserved
loop-step-preserved c =
    let keys = c.args.keys.now in let place = c.args.place.now in let i = c.loop-step.step-index in
    one_more keys place i _ c.loop-step.steps.items c.in_ok-next.next c.loop-step-test.true c.in_ok-next.ensures c.loop-step.invariant
    ∙ ap (λ l. after l (places keys (drop (i + 1) place))) (sym c.in_ok-push.ensures.items)

pub returns : goal.returns
returns c = all_read c.args.keys.now c.args.place.now c.loop-step.step-index c.loop-step.steps.items c.loop-step-test.false c.loop-step.invariant
