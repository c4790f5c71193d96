use Rattle.std.proofs.Common.{◌≤◌, arith}
use Rattle.pb_schema.specs.Types.{MessageView}
use Rattle.pb_schema.specs.View.{message_view}
use Rattle.pb_schema.proofs.OrderLemmas.{pairs_end}
use Rattle.pb_schema.proofs.rules.order.files_rise.Goals as goal

pub returns : goal.returns
returns c = pairs_end (λ (s t : MessageView). s.file ≤ t.file) message_view _ c.args.messages.now c.loop-next.next c.loop-next.invariant (omega arith)
