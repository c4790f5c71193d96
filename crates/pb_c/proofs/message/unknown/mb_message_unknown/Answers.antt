-- The message that was taken out is the one that the handle holds, and what is reported is what was found.
use Rattle.std.proofs.Common.{◌≡◌, ℕ, List, Some, refl, subst}
use Rattle.pb_c_message.specs.Answers.{unknown_in}
use Rattle.pb_c_answers.specs.Reporting.{IsLaid}
use Rattle.pb_c.specs.Message.Places.{IsAnswered}
use Rattle.pb_c.proofs.PlaceAnswers.{done, missed}
use Rattle.pb_c.proofs.message.unknown.mb_message_unknown.Goals as goal

pub returns-in-Ok-clause-answered : goal.returns-in-Ok-clause-answered
returns-in-Ok-clause-answered c =
    let own = c.deref_mut.ensures.value in let taken = c.in-Some.ensures.taken in
    let same : Some c.deref_mut.result.now ≡ c.args.message.now.seal.message = cc in
    let Reported : List ℕ → Type 0 = λ b. IsLaid b c.args.out.now c.write_out.new.out c.write_out.new.size in
    subst (λ h. IsAnswered unknown_in c.args.keys.now c.args.place.now h 0 Reported) same
    (done unknown_in c.args.keys.now c.args.place.now c.deref_mut.result.now 0 Reported c.in-Ok.bytes.items c.in-Ok.ensures.answer
    (rw c.deref.ensures.value at c.write_out.ensures) refl)

pub returns-in-Err-clause-answered : goal.returns-in-Err-clause-answered
returns-in-Err-clause-answered c =
    let own = c.deref_mut.ensures.value in let taken = c.in-Some.ensures.taken in
    let same : Some c.deref_mut.result.now ≡ c.args.message.now.seal.message = cc in
    let Reported : List ℕ → Type 0 = λ b. IsLaid b c.args.out.now c.args.out.now c.args.size.now in
    subst (λ h. IsAnswered unknown_in c.args.keys.now c.args.place.now h c.miss_number.result Reported) same
    (missed unknown_in c.args.keys.now c.args.place.now c.deref_mut.result.now c.miss_number.result Reported c.in-Err.miss
    c.in-Err.ensures.answer c.miss_number.ensures)
