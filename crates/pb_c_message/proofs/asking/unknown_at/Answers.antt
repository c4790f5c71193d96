use Rattle.std.proofs.Common.{Some, None, refl}
use Rattle.pb_wire.specs.Spell.{shortest_records}
use Rattle.pb_wire.specs.Unknown.{records_of}
use Rattle.pb_place.specs.At.{at}
use Rattle.pb_c_message.specs.Answers.{Answers, unknown_in}
use Rattle.pb_c_message.proofs.FieldLemmas.{unknown_is, unknown_none, written}
use Rattle.pb_c_message.specs.Steps.{steps_held}
use Rattle.pb_c_message.proofs.asking.unknown_at.Goals as goal

pub returns-in-Some : goal.returns-in-Some
returns-in-Some c =
    let keys = c.args.keys.now in let steps = c.args.place.now in let v = c.args.message in
    let place = steps_held c.in_ok-steps.steps in let x = at place v in let rs = records_of c.in-Some.records.now in
    written (λ b. b.items) c.shortest_of.result (shortest_records rs) (λ b. Answers unknown_in keys steps v (Some b)) (Answers unknown_in keys steps v None) keys steps
    (x, (place, c.in_ok-steps.ensures, refl), unknown_is x rs (rw c.as_slice.ensures at c.in-Some.ensures)) c.shortest_of.ensures

pub returns : goal.returns
returns c =
    let place = steps_held c.in_ok-steps.steps in let x = at place c.args.message in
    (x, (place, c.in_ok-steps.ensures, refl), unknown_none x (rw c.as_slice.ensures at c.in-None.ensures))
