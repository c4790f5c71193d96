use Rattle.std.proofs.Common.{map}
use Rattle.pb_schema.specs.View.{message_view}
use Rattle.pb_schema.proofs.OrderLemmas.{parents_before}
use Rattle.pb_schema.proofs.rules.meet_rules.Goals as goal

pub names_meet_rules-requires-clause-parents : goal.names_meet_rules-requires-clause-parents
names_meet_rules-requires-clause-parents c =
    parents_before (map message_view c.args.messages.now) _ (λ i _. (c.messages_stand_in_order-in_order.ensures.0 c.if-not-in_order.false).1 i)
