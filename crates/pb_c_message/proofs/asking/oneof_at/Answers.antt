use Rattle.std.proofs.Common.{refl, sym, ◌∙◌}
use Rattle.pb_place.specs.At.{at}
use Rattle.pb_c_message.proofs.FieldLemmas.{member_is}
use Rattle.pb_c_message.specs.Steps.{steps_held}
use Rattle.pb_c_message.proofs.asking.oneof_at.Goals as goal

pub returns-in-Some : goal.returns-in-Some
returns-in-Some c =
    let place = steps_held c.in_ok-steps.steps in let x = at place c.args.message in
    (x, (place, c.in_ok-steps.ensures, refl), sym (member_is c.args.oneof x) ∙ sym (rw c.as_slice.ensures at c.in-Some.ensures))

pub returns : goal.returns
returns c =
    let place = steps_held c.in_ok-steps.steps in let x = at place c.args.message in
    (x, (place, c.in_ok-steps.ensures, refl), sym (member_is c.args.oneof x) ∙ sym (rw c.as_slice.ensures at c.in-None.ensures))
