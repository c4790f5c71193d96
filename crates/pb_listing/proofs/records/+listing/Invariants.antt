use Rattle.std.proofs.Common.{◌+◌, ◌-◌, ◌*◌, List}
use Rattle.pb_wire.specs.Record.{Record, group_of}
use Rattle.pb_wire.specs.Grammar.{IsText}
use Rattle.pb_wire.specs.Schema.{blank}
use Rattle.pb_listing.specs.Borrowed.{limits_inside}
use Rattle.pb_listing.specs.RawListing.{group_lines}
use Rattle.pb_output.specs.Sink.{Puts}
use Rattle.pb_listing.proofs.Borrowing.{IsPut}
use Rattle.pb_listing.proofs.records.+listing.Given as goal

abbrev pub invariant-put_listing-loop-item : goal.invariant-put_listing-loop-item
invariant-put_listing-loop-item g l =
    (goal.iterator-put_listing-loop-item g).can_next l.item-iterator × (goal.iterator-put_listing-loop-item g).is_finite l.item-iterator
    × ((rs : List Record) → IsText blank tt (limits_inside l.level) l.bytes rs
    → IsPut l.level rs (λ done. Puts g.O.Output.written g.O.Output.failures l.initial.out l.out l.initial.sink l.sink (group_lines l.level (group_of done))) l.item-iterator)

abbrev pub decreases-put_listing : goal.decreases-put_listing
decreases-put_listing g l = 2 * (101 - l.level) + 1

abbrev pub decreases-put_record_lines : goal.decreases-put_record_lines
decreases-put_record_lines g l = 2 * (101 - l.level)
