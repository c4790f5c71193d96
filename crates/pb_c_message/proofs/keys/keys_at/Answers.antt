use Rattle.std.proofs.Common.{refl}
use Rattle.pb_value.specs.View.{entries_view}
use Rattle.pb_place.specs.At.{at}
use Rattle.pb_c_message.proofs.KeyLists.{left, keys_none, keys_some}
use Rattle.pb_c_message.specs.Steps.{steps_held}
use Rattle.pb_c_message.proofs.keys.keys_at.Goals as goal

pub returns-in_default-clause-answer : goal.returns-in_default-clause-answer
returns-in_default-clause-answer c =
    let place = steps_held c.in_ok-steps.steps in let x = at place c.args.message in
    (x, (place, c.in_ok-steps.ensures, refl), keys_none c.args.first x (rw c.as_slice.ensures at c.in_default.ensures))

pub returns-in-Some-report_keys-clause-answer : goal.returns-in-Some-report_keys-clause-answer
returns-in-Some-report_keys-clause-answer c =
    let place = steps_held c.in_ok-steps.steps in let x = at place c.args.message in let es = c.in-Some.entries.now.entries in (
      left c.args.first es,
      (x, (place, c.in_ok-steps.ensures, refl), keys_some c.args.first x (entries_view es) (rw c.as_slice.ensures at c.in-Some.ensures)),
      c.in-Some-report_keys.ensures.reported,
    )
