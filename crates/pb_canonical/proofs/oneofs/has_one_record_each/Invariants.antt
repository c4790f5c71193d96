use Rattle.std.proofs.Common.{◌≡◌, List, length}
use Rattle.pb_wire.specs.Record.{Record}
use Rattle.pb_wire.specs.Spell.{shortest_records}
use Rattle.pb_schema.specs.Types.{message_fields}
use Rattle.pb_value.specs.WellFormed.{oneof_at}
use Rattle.pb_canonical.specs.Parts.{CanBeRead}
use Rattle.pb_canonical.proofs.OneofLemmas.{RecordsLeft}
use Rattle.pb_canonical.proofs.oneofs.has_one_record_each.Given as goal

-- of records the rest is left, with the marks of those before it
abbrev pub invariant-records : goal.invariant-records
invariant-records l =
    (rs : List Record) → CanBeRead l.levels rs → l.bytes ≡ shortest_records rs
    → RecordsLeft (oneof_at (message_fields l.pool l.message_type.0)) l.first l.marks l.levels rs l.rest

abbrev pub decreases-records : goal.decreases-records
decreases-records l = length l.rest
