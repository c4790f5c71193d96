use Rattle.std.proofs.Common.{◌+◌, ◌-◌, ◌*◌, List}
use Rattle.pb_wire.specs.Record.{Record, group_of}
use Rattle.pb_wire.specs.Grammar.{IsText}
use Rattle.pb_wire.specs.Schema.{blank}
use Rattle.pb_listing.specs.Putting.{PutsSome}
use Rattle.pb_listing.proofs.Borrowing.{IsPut}
use Rattle.pb_text.specs.Unknown.{AreRecordsLines, limits_with}
use Rattle.pb_text.proofs.embedded.+embedded.Given as goal

abbrev pub invariant-put_embedded-loop-item : goal.invariant-put_embedded-loop-item
invariant-put_embedded-loop-item g l =
    (goal.iterator-put_embedded-loop-item g).can_next l.item-iterator × (goal.iterator-put_embedded-loop-item g).is_finite l.item-iterator
    × ((rs : List Record) → IsText blank tt (limits_with l.levels) l.bytes rs
    → IsPut (100 - l.levels) rs (λ done. PutsSome g.O.Output.written g.O.Output.failures l.initial.out l.out l.initial.sink l.sink (AreRecordsLines l.layout (l.levels - 1) l.level (group_of done))) l.item-iterator)

abbrev pub decreases-put_payload : goal.decreases-put_payload
decreases-put_payload g l = 3 * l.levels + 2

abbrev pub decreases-put_embedded : goal.decreases-put_embedded
decreases-put_embedded g l = 3 * l.levels + 1

abbrev pub decreases-put_embedded_record : goal.decreases-put_embedded_record
decreases-put_embedded_record g l = 3 * l.levels
