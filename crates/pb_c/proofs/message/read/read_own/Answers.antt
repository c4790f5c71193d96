-- What is found in the bytes is there, and the message that was put together is the one that is held.
use Rattle.std.proofs.Common.{◌≡◌, refl}
use Rattle.pb_c_message.specs.Answers.{bytes_in}
use Rattle.pb_c_answers.specs.Reporting.{IsLaid}
use Rattle.pb_c.proofs.PlaceAnswers.{done}
use Rattle.pb_c.proofs.message.read.read_own.Goals as goal

pub returns-then-write_found-clause-answered : goal.returns-then-write_found-clause-answered
returns-then-write_found-clause-answered c =
    let found = c.write_found.ensures.found c.if-write_found.true in
    done bytes_in c.args.keys.now c.args.place.now c.args.own.now 0 (λ b. IsLaid b c.args.out.now c.write_found.new.out c.write_found.new.size) found.0
    (found.1 c.args.keys.now) found.2 refl

pub returns-clause-answered : goal.returns-clause-answered
returns-clause-answered c =
    let made = c.from_well_formed-message.ensures in let seen = c.own.view_is in let looked = c.write_found.ensures.same in let pool = c.deref-2.ensures in let body = c.in-Some.ensures.body in
    let same : c.from_well_formed-message.result ≡ c.args.own.now = cc in
    let unwritten = c.write_found.ensures.unwritten c.if-write_found.false in
    rw (same, unwritten.0) at c.write_bytes-answer.ensures.answered
