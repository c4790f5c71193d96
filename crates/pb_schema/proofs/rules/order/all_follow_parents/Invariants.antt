use Rattle.std.proofs.Common.{ℕ, ◌<◌, map}
use Rattle.pb_schema.specs.View.{message_view}
use Rattle.pb_schema.specs.Rules.{FollowsParent}
use Rattle.pb_schema.proofs.rules.order.all_follow_parents.Given as goal

abbrev pub invariant-loop-index : goal.invariant-loop-index
invariant-loop-index l = (k : ℕ) → k < l.index → FollowsParent (map message_view l.messages) k
