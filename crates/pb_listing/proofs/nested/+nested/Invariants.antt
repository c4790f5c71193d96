use Rattle.std.proofs.Common.{◌+◌, ◌-◌, ◌*◌, List}
use Rattle.pb_wire.specs.Record.{Record, group_of}
use Rattle.pb_wire.specs.Grammar.{IsText}
use Rattle.pb_wire.specs.Schema.{blank}
use Rattle.pb_listing.specs.Borrowed.{limits_inside}
use Rattle.pb_listing.specs.NestedListing.{AreNestedLines}
use Rattle.pb_listing.specs.Putting.{PutsSome}
use Rattle.pb_listing.proofs.Borrowing.{IsPut}
use Rattle.pb_listing.proofs.nested.+nested.Given as goal

abbrev pub invariant-put_nested-loop-item : goal.invariant-put_nested-loop-item
invariant-put_nested-loop-item g l =
    (goal.iterator-put_nested-loop-item g).can_next l.item-iterator × (goal.iterator-put_nested-loop-item g).is_finite l.item-iterator
    × ((rs : List Record) → IsText blank tt (limits_inside l.level) l.bytes rs
    → IsPut l.level rs (λ done. PutsSome g.O.Output.written g.O.Output.failures l.initial.out l.out l.initial.sink l.sink (AreNestedLines l.level (group_of done))) l.item-iterator)

abbrev pub decreases-put_nested : goal.decreases-put_nested
decreases-put_nested g l = 3 * (101 - l.level) + 2

abbrev pub decreases-put_nested_record : goal.decreases-put_nested_record
decreases-put_nested_record g l = 3 * (101 - l.level) + 1

abbrev pub decreases-put_payload : goal.decreases-put_payload
decreases-put_payload g l = 3 * (101 - l.level)
