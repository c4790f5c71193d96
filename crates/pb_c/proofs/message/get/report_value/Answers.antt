-- What is reported is what was found.
use Rattle.std.proofs.Common.{◌≡◌, refl}
use Rattle.pb_c_message.specs.Answers.{plain_in}
use Rattle.pb_c.proofs.PlaceAnswers.{done, missed}
use Rattle.pb_c.proofs.message.get.report_value.Goals as goal

pub returns-in-Ok-clause-answered : goal.returns-in-Ok-clause-answered
returns-in-Ok-clause-answered c =
    done plain_in c.args.keys.now c.args.place.now c.args.message.now 0 (λ x. c.in-Ok.found ≡ x) c.in-Ok.found (rw c.view.ensures at c.in-Ok.ensures) refl refl

pub returns-in-Err-clause-answered : goal.returns-in-Err-clause-answered
returns-in-Err-clause-answered c =
    missed plain_in c.args.keys.now c.args.place.now c.args.message.now c.miss_number.result (λ x. c.args.value.now ≡ x) c.in-Err.miss (rw c.view.ensures at c.in-Err.ensures) c.miss_number.ensures
