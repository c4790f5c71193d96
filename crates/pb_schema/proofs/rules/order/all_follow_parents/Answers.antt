use Rattle.std.proofs.Common.{map, refl, arith}
use Rattle.std.proofs.lemmas.List.{length-map}
use Rattle.pb_schema.specs.View.{message_view}
use Rattle.pb_schema.proofs.OrderLemmas.{parents_before, follow_all}
use Rattle.pb_schema.proofs.rules.order.all_follow_parents.Goals as goal

pub follows_parent-requires : goal.follows_parent-requires
follows_parent-requires c = parents_before (map message_view c.args.messages.now) c.loop-index.index c.loop-index.invariant

pub returns : goal.returns
returns c =
    (λ _. follow_all (map message_view c.args.messages.now) c.loop-index.index (omega (arith, length-map c.args.messages.now message_view)) c.loop-index.invariant, λ _. refl)
