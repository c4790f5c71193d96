-- What is found in the bytes is there, and the message that was put together is the one that is held.
use Rattle.std.proofs.Common.{◌≡◌, refl}
use Rattle.pb_c_message.specs.Answers.{plain_in}
use Rattle.pb_c.proofs.PlaceAnswers.{done}
use Rattle.pb_c.proofs.message.get.get_own.Goals as goal

pub returns-in-Some-clause-answered : goal.returns-in-Some-clause-answered
returns-in-Some-clause-answered c =
    done plain_in c.args.keys.now c.args.place.now c.args.own.now 0 (λ x. c.in-Some.found ≡ x) c.in-Some.found (c.in-Some.ensures.found c.args.keys.now) refl refl

pub returns-clause-answered : goal.returns-clause-answered
returns-clause-answered c =
    let made = c.from_well_formed-message.ensures in let seen = c.own.view_is in let looked = c.look.ensures.same in let pool = c.deref-2.ensures in let body = c.in-Some-take_body.ensures.body in
    let same : c.from_well_formed-message.result ≡ c.args.own.now = cc in
    rw same at c.report_value-answer.ensures.answered
