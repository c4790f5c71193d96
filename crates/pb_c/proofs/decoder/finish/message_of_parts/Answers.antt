-- The message that is held is the one that the decoder gave.
use Rattle.std.proofs.Common.{◌≡◌, sym, ◌∙◌}
use Rattle.pb_value.specs.Dynamic.{Dynamic}
use Rattle.pb_c_answers.proofs.Answered.{given_as, lost}
use Rattle.pb_c.proofs.decoder.finish.message_of_parts.Goals as goal

pub returns-in-Ok-boxed-clause-given : goal.returns-in-Ok-boxed-clause-given
returns-in-Ok-boxed-clause-given c =
    let pool = c.deref.ensures in let same : c.deref.result.now ≡ c.args.pool.now.value = cc in
    given_as _ _ 0 (λ (n : Dynamic). n ≡ c.in-Ok.message) (λ (n : Dynamic). c.in-Ok-boxed.message.value ≡ n) _
    (λ n is. c.in-Ok-boxed.ensures.same ∙ sym is) (rw same at c.in-Ok.ensures.given)

pub returns-in-Err-boxed-clause-refused : goal.returns-in-Err-boxed-clause-refused
returns-in-Err-boxed-clause-refused c =
    let pool = c.deref.ensures in let same : c.deref.result.now ≡ c.args.pool.now.value = cc in
    lost _ _ (λ (n : Dynamic). n ≡ c.in-Ok.message) _ _ (rw same at c.in-Ok.ensures.given)

pub returns-in-Err-clause-refused : goal.returns-in-Err-clause-refused
returns-in-Err-clause-refused c =
    let pool = c.deref.ensures in let same : c.deref.result.now ≡ c.args.pool.now.value = cc in rw same at c.in-Err.ensures.refused
