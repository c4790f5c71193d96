use Rattle.std.proofs.Common.{map, arith}
use Rattle.pb_schema.specs.View.{message_view, enum_view}
use Rattle.pb_schema.specs.Rules.{StandsBefore}
use Rattle.pb_schema.proofs.OrderLemmas.{pair_goes_on, pairs_end}
use Rattle.pb_schema.proofs.rules.order.enums_stand_in_order.Goals as goal

pub loop-next-preserved : goal.loop-next-preserved
loop-next-preserved c =
    pair_goes_on (StandsBefore (map message_view c.args.messages.now)) enum_view _ c.args.enums.now c.loop-next.next c.index-enums-next.result c.index-enums-next-in-loop-next.result c.stands_before.result c.loop-next.invariant (omega arith) (omega arith) c.index-enums-next.is c.index-enums-next-in-loop-next.is c.stands_before.ensures c.if-not-stands_before.false

pub returns : goal.returns
returns c = pairs_end (StandsBefore (map message_view c.args.messages.now)) enum_view _ c.args.enums.now c.loop-next.next c.loop-next.invariant (omega arith)
