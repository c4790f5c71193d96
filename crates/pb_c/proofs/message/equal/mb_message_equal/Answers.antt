-- The messages that were taken out are those that the handles hold.
use Rattle.std.proofs.Common.{◌≡◌, Some}
use Rattle.pb_c.proofs.Copies.{marked_held}
use Rattle.pb_c.proofs.message.equal.mb_message_equal.Goals as goal

pub returns-clause-decided : goal.returns-clause-decided
returns-clause-decided c = λ done.
    let own = c.deref_mut.ensures.value in let taken = c.in-Some-take.ensures.taken in
    let other = c.deref_mut-2.ensures.value in let taken_too = c.in-Some.ensures.taken in
    let held : Some c.deref_mut.result.now ≡ c.args.message.now.seal.message = cc in
    let held_too : Some c.deref_mut-2.result.now ≡ c.args.other.now.seal.message = cc in
    marked_held c.equal_own-answer.new.equal c.deref_mut.result.now c.deref_mut-2.result.now c.args.message.now.seal.message c.args.other.now.seal.message held held_too
    (c.equal_own-answer.ensures.decided done)
