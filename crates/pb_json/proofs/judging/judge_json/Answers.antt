use Rattle.std.proofs.Common.{refl}
use Rattle.pb_json.proofs.RefusalLemmas.{judged_whole}
use Rattle.pb_json.proofs.judging.judge_json.Goals as goal

pub returns-clause-has_form : goal.returns-clause-has_form
returns-clause-has_form c =
    (judged_whole c.args.message.now _ _ _ _ c.judge_message.result refl c.pool-pool.ensures c.message_type-id.ensures.named c.body-body.ensures.held c.judge_message.ensures).0

pub returns-clause-failed : goal.returns-clause-failed
returns-clause-failed c =
    (judged_whole c.args.message.now _ _ _ _ c.judge_message.result refl c.pool-pool.ensures c.message_type-id.ensures.named c.body-body.ensures.held c.judge_message.ensures).1
