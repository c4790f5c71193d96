use Rattle.std.proofs.Common.{map, arith}
use Rattle.pb_schema.specs.View.{file_view}
use Rattle.pb_schema.proofs.NameLemmas.{names-push}
use Rattle.pb_schema.proofs.names.message_names.Goals as goal

pub loop-message-preserved : goal.loop-message-preserved
loop-message-preserved c =
    let named = c.in_ok-name.ensures in
    rw c.in_ok-push.ensures.items (names-push (map file_view c.args.files.now) c.args.messages.now c.loop-message.message-index c.message-item.result c.loop-message.names.items c.in_ok-name.name c.requires (omega arith) c.message-item.is c.loop-message.invariant cc)
