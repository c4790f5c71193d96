use Rattle.std.proofs.Common.{arith}
use Rattle.std.specs.List.{AllByRecursion}
use Rattle.pb_schema.specs.Types.{MessageView}
use Rattle.pb_schema.specs.View.{message_view, types_of}
use Rattle.pb_schema.specs.Rules.{TypeIsSeen}
use Rattle.pb_schema.proofs.Loops.{stops, goes_on}
use Rattle.pb_schema.proofs.rules.fields.types_are_seen.Goals as goal

pub returns-then-not-seen : goal.returns-then-not-seen
returns-then-not-seen c =
    let ts = types_of c.args.files.now c.args.messages.now c.args.enums.now in
    stops (λ (t : MessageView). AllByRecursion (λ f. TypeIsSeen ts t.file f.kind) t.fields) message_view _ c.args.messages.now c.loop-message.message-index c.message-item.result c.in_ok-seen.seen c.in_ok-seen.ensures.seen c.loop-message.invariant.0 (omega arith) c.message-item.is c.if-not-seen.true

pub loop-message-preserved : goal.loop-message-preserved
loop-message-preserved c =
    let ts = types_of c.args.files.now c.args.messages.now c.args.enums.now in
    (goes_on (λ (t : MessageView). AllByRecursion (λ f. TypeIsSeen ts t.file f.kind) t.fields) message_view _ c.args.messages.now c.loop-message.message-index c.message-item.result c.in_ok-seen.seen c.in_ok-seen.ensures.seen c.loop-message.invariant.0 (omega arith) c.message-item.is c.if-not-seen.false, c.in_ok-seen.ensures.known)
