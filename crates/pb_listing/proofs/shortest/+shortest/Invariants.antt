use Rattle.std.proofs.Common.{◌+◌, ◌-◌, ◌*◌, List}
use Rattle.pb_wire.specs.Record.{Record}
use Rattle.pb_wire.specs.Grammar.{IsText}
use Rattle.pb_wire.specs.Schema.{blank}
use Rattle.pb_listing.specs.Borrowed.{limits_inside}
use Rattle.hex.specs.Hex.{encode_lower}
use Rattle.pb_wire.specs.Spell.{shortest_records}
use Rattle.pb_output.specs.Sink.{Puts}
use Rattle.pb_listing.proofs.Borrowing.{IsPut}
use Rattle.pb_listing.proofs.shortest.+shortest.Given as goal

abbrev pub invariant-put_records-loop-item : goal.invariant-put_records-loop-item
invariant-put_records-loop-item g l =
    (goal.iterator-put_records-loop-item g).can_next l.item-iterator × (goal.iterator-put_records-loop-item g).is_finite l.item-iterator
    × ((rs : List Record) → IsText blank tt (limits_inside l.level) l.bytes rs
    → IsPut l.level rs (λ done. Puts g.O.Output.written g.O.Output.failures l.initial.out l.out l.initial.sink l.sink (encode_lower (shortest_records done))) l.item-iterator)

abbrev pub decreases-put_records : goal.decreases-put_records
decreases-put_records g l = 2 * (101 - l.level) + 1

abbrev pub decreases-put_record : goal.decreases-put_record
decreases-put_record g l = 2 * (101 - l.level)
