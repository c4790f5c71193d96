-- The message is what was merged.
use Rattle.std.proofs.Common.{inl, inr, refl}
use Rattle.pb_c.proofs.message.merge.merge_message.Goals as goal

pub returns-in-Ok-clause-accepted : goal.returns-in-Ok-clause-accepted
returns-in-Ok-clause-accepted c w text = inl (refl, c.in-Ok.ensures.accepted w text)

pub returns-in-Err-clause-accepted : goal.returns-in-Err-clause-accepted
returns-in-Err-clause-accepted c w text = inr (c.in-Err.ensures.accepted w text)
