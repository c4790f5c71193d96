use Rattle.std.proofs.Common.{◌≤◌, ◌↔◌, map}
use Rattle.pb_schema.specs.View.{message_view}
use Rattle.pb_schema.specs.Nesting.{IsWithin}
use Rattle.pb_schema.proofs.rules.order.is_within.Given as goal

abbrev pub invariant-loop-at : goal.invariant-loop-at
invariant-loop-at l =
    (l.at ≤ l.inner) × (IsWithin (map message_view l.messages) l.outer l.inner ↔ IsWithin (map message_view l.messages) l.outer l.at)

abbrev pub decreases-loop-at : goal.decreases-loop-at
decreases-loop-at l = l.at
