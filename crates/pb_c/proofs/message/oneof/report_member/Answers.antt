-- What is reported is what was found.
use Rattle.std.proofs.Common.{◌≡◌, refl}
use Rattle.pb_c_message.specs.Answers.{member_in}
use Rattle.pb_c.proofs.PlaceAnswers.{done, missed}
use Rattle.pb_c.proofs.message.oneof.report_member.Goals as goal

pub returns-in-Ok-clause-answered : goal.returns-in-Ok-clause-answered
returns-in-Ok-clause-answered c =
    done (member_in c.args.oneof) c.args.keys.now c.args.place.now c.args.message.now 0 (λ n. c.in-Ok.member ≡ n) c.in-Ok.member (rw c.view.ensures at c.in-Ok.ensures) refl refl

pub returns-in-Err-clause-answered : goal.returns-in-Err-clause-answered
returns-in-Err-clause-answered c =
    missed (member_in c.args.oneof) c.args.keys.now c.args.place.now c.args.message.now c.miss_number.result (λ n. c.args.number.now ≡ n) c.in-Err.miss (rw c.view.ensures at c.in-Err.ensures) c.miss_number.ensures
