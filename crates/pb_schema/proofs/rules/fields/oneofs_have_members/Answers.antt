use Rattle.std.proofs.Common.{arith}
use Rattle.pb_schema.specs.View.{message_view}
use Rattle.pb_schema.specs.Rules.{EachOneofHasMember}
use Rattle.pb_schema.proofs.Loops.{stops, goes_on}
use Rattle.pb_schema.proofs.rules.fields.oneofs_have_members.Goals as goal

pub returns-then-not-holds : goal.returns-then-not-holds
returns-then-not-holds c =
    stops EachOneofHasMember message_view _ c.args.messages.now c.loop-message.message-index c.message-item.result c.in_ok-holds.holds c.in_ok-holds.ensures c.loop-message.invariant (omega arith) c.message-item.is c.if-not-holds.true

pub loop-message-preserved : goal.loop-message-preserved
loop-message-preserved c =
    goes_on EachOneofHasMember message_view _ c.args.messages.now c.loop-message.message-index c.message-item.result c.in_ok-holds.holds c.in_ok-holds.ensures c.loop-message.invariant (omega arith) c.message-item.is c.if-not-holds.false
