use Rattle.std.proofs.Common.{map}
use Rattle.pb_schema.specs.View.{message_view}
use Rattle.pb_schema.proofs.OrderLemmas.{parents_before}
use Rattle.pb_schema.proofs.rules.order.ends_no_later.Goals as goal

pub is_within-requires : goal.is_within-requires
is_within-requires c = parents_before (map message_view c.args.messages.now) _ (λ i _. c.requires i)

pub is_within-requires-then-a-b : goal.is_within-requires-then-a-b
is_within-requires-then-a-b c = parents_before (map message_view c.args.messages.now) _ (λ i _. c.requires i)
