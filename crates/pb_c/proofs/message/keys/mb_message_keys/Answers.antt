-- The message that was taken out is the one that the handle holds, and what is reported is what was found.
use Rattle.std.proofs.Common.{◌≡◌, List, Some, refl, subst}
use Rattle.pb_schema.specs.Scalar.{Scalar}
use Rattle.pb_c_message.specs.Keys.{ReportsKeys, keys_in}
use Rattle.pb_c.specs.Message.Places.{IsAnswered}
use Rattle.pb_c.proofs.PlaceAnswers.{done, missed}
use Rattle.pb_c.proofs.message.keys.mb_message_keys.Goals as goal

pub returns-in-Ok-clause-answered : goal.returns-in-Ok-clause-answered
returns-in-Ok-clause-answered c =
    let own = c.deref_mut.ensures.value in let taken = c.in-Some.ensures.taken in let f = c.in-Ok.ensures.answer in
    let same : Some c.deref_mut.result.now ≡ c.args.message.now.seal.message = cc in
    let Reported : List Scalar → Type 0 = λ xs. ReportsKeys xs c.args.found.now c.keys_own-answer.new.found c.args.out.now c.keys_own-answer.new.out c.in-Ok.count in
    subst (λ h. IsAnswered (keys_in c.args.first) c.args.keys.now c.args.place.now h 0 Reported) same
    (done (keys_in c.args.first) c.args.keys.now c.args.place.now c.deref_mut.result.now 0 Reported f.0 f.1 f.2 refl)

pub returns-in-Err-clause-answered : goal.returns-in-Err-clause-answered
returns-in-Err-clause-answered c =
    let own = c.deref_mut.ensures.value in let taken = c.in-Some.ensures.taken in
    let same : Some c.deref_mut.result.now ≡ c.args.message.now.seal.message = cc in
    let Reported : List Scalar → Type 0 = λ xs. ReportsKeys xs c.args.found.now c.keys_own-answer.new.found c.args.out.now c.keys_own-answer.new.out c.args.counts.now in
    subst (λ h. IsAnswered (keys_in c.args.first) c.args.keys.now c.args.place.now h c.miss_number.result Reported) same
    (missed (keys_in c.args.first) c.args.keys.now c.args.place.now c.deref_mut.result.now c.miss_number.result Reported c.in-Err.miss
    c.in-Err.ensures.answer c.miss_number.ensures)
