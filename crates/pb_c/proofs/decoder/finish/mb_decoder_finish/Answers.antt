-- The decoder that was taken out is the one that the handle holds, and the message that it gave is held.
use Rattle.std.proofs.Common.{◌≡◌, ◌∙◌, Some, ap}
use Rattle.pb_value.specs.Dynamic.{Dynamic}
use Rattle.pb_c_answers.proofs.Answered.{given_as}
use Rattle.pb_c.proofs.decoder.finish.mb_decoder_finish.Goals as goal

pub returns-in-Ok-clause-ended : goal.returns-in-Ok-clause-ended
returns-in-Ok-clause-ended c =
    let own = c.deref_mut.ensures.value in let taken = c.in-Some.ensures.taken in
    let before : Some c.deref_mut.result.now ≡ c.args.decoder.now.seal.decoder = cc in
    let put = c.put.ensures in let wrote = c.deref_mut.ensures.writes_back in
    let after : Some c.finish_own-ended.new.own ≡ c.put.new.handle.seal.decoder = cc in
    given_as c.args.decoder.now.seal.decoder c.put.new.handle.seal.decoder 0 (λ (m : Dynamic). c.in-Ok.ended.value ≡ m) _ _
    (λ m is. c.hold.ensures ∙ ap (λ d. Some d) is) (rw (before, after) at c.in-Ok.ensures.given)

pub returns-in-Err-clause-ended : goal.returns-in-Err-clause-ended
returns-in-Err-clause-ended c =
    let own = c.deref_mut.ensures.value in let taken = c.in-Some.ensures.taken in
    let before : Some c.deref_mut.result.now ≡ c.args.decoder.now.seal.decoder = cc in
    let put = c.put.ensures in let wrote = c.deref_mut.ensures.writes_back in
    let after : Some c.finish_own-ended.new.own ≡ c.put.new.handle.seal.decoder = cc in
    given_as c.args.decoder.now.seal.decoder c.put.new.handle.seal.decoder c.in-Err.answer (λ (m : Dynamic). ⊥) _ _
    (λ m none. absurd none) (rw (before, after) at c.in-Err.ensures.refused)
