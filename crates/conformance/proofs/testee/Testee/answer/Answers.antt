use Rattle.std.proofs.Common.{Err, ap}
use Rattle.conformance.proofs.ReplyLemmas.{answered_shorter, answered_whole}
use Rattle.conformance.proofs.testee.Testee.answer.Goals as goal

pub returns-in_ok-shorter-in-Err-TooLarge-clause-answered : goal.returns-in_ok-shorter-in-Err-TooLarge-clause-answered
returns-in_ok-shorter-in-Err-TooLarge-clause-answered c =
    answered_shorter _ _ _ _ _ _ c.encoded-in-Err-TooLarge.result c.in_ok-reply.ensures.made
    (c.in-Err-TooLarge.ensures.large (ap Err c.in-Err-TooLarge.field-0-is)) c.in_ok-shorter-in-Err-TooLarge.ensures.made
    c.encoded-in-Err-TooLarge.ensures.made

pub returns-in_default-2-clause-answered : goal.returns-in_default-2-clause-answered
returns-in_default-2-clause-answered c =
    answered_whole _ _ _ _ _ c.encoded.result c.in_ok-reply.ensures.made c.encoded.ensures.made c.encoded.ensures.small
