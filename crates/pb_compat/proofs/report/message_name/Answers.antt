use Rattle.pb_compat.proofs.NameLemmas.{message_name_is_text}
use Rattle.pb_compat.proofs.report.message_name.Goals as goal

pub unreachable-requires : goal.unreachable-requires
unreachable-requires c =
    c.in-Err.ensures (message_name_is_text c.args.pool.now c.messages.ensures.rules c.args.message.0 c.message_name.result.now c.message_name.ensures.found)
