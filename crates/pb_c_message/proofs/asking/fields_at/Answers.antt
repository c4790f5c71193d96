use Rattle.std.proofs.Common.{refl}
use Rattle.pb_place.specs.At.{at}
use Rattle.pb_c_message.proofs.FieldLemmas.{counted, uncounted}
use Rattle.pb_c_message.specs.Steps.{steps_held}
use Rattle.pb_c_message.proofs.asking.fields_at.Goals as goal

pub returns-in-Some-clause-answer : goal.returns-in-Some-clause-answer
returns-in-Some-clause-answer c =
    let place = steps_held c.in_ok-steps.steps in
    let f = counted (at place c.args.message) c.in-Some.count c.args.buffer.now c.numbers_at.new.buffer (rw c.as_slice.ensures at c.in-Some.ensures.counted)
    (rw c.as_slice.ensures at c.in-Some.ensures.written)
    in
    (f.0, (at place c.args.message, (place, c.in_ok-steps.ensures, refl), f.1), f.2, f.3)

pub returns-clause-answer : goal.returns-clause-answer
returns-clause-answer c =
    let place = steps_held c.in_ok-steps.steps in
    let f = uncounted (at place c.args.message) c.args.buffer.now c.numbers_at.new.buffer (rw c.as_slice.ensures at c.in-None.ensures.counted)
    (rw c.as_slice.ensures at c.in-None.ensures.written)
    in
    (at place c.args.message, (place, c.in_ok-steps.ensures, refl), f.0)
