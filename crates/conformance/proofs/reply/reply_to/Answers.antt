use Rattle.conformance.proofs.ReplyLemmas.{reply_tested}
use Rattle.conformance.proofs.reply.reply_to.Goals as goal

pub returns-clause-made : goal.returns-clause-made
returns-clause-made c =
    reply_tested _ _ _ _ _ _ c.test.result c.pool-pool.ensures c.in-Some-message_by_name.ensures.found c.in-Some.ensures c.test.ensures.made
