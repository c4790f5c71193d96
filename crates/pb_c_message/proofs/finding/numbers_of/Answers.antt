use Rattle.std.proofs.Common.{◌+◌, drop, map, sym, ap, ◌∙◌, Some}
use Rattle.pb_place.specs.declared.step.PlaceStep.TheVariants.{Field}
use Rattle.pb_c_message.specs.Places.{places}
use Rattle.pb_c_message.proofs.StepLemmas.{after, one_more, all_read}
use Rattle.pb_c_message.proofs.Paths.{map_push, steps_of}
use Rattle.pb_c_message.proofs.finding.numbers_of.Goals as goal

pub loop-step-preserved : goal.loop-step-preserved
loop-step-preserved c = λ keys.
    let place = c.args.place.now in let i = c.loop-step.step-index in let ns = c.loop-step.numbers.items in
    one_more keys place i _ (map Field ns) (Field c.in-Some.number) c.loop-step-test.true (c.in-Some.ensures keys) (c.loop-step.invariant keys)
    ∙ ap (λ l. after l (places keys (drop (i + 1) place))) (map_push ns c.in-Some.number ∙ ap (map Field) (sym c.in_ok-push.ensures.items))

pub returns : goal.returns
returns c = λ keys.
    all_read keys c.args.place.now c.loop-step.step-index (map Field c.loop-step.numbers.items) c.loop-step-test.false (c.loop-step.invariant keys)
    ∙ ap (λ l. Some l) (steps_of c.loop-step.numbers.items)
