use Rattle.std.proofs.Common.{◌≡◌, ◌≤◌, ◌-◌}
use Rattle.pb_wire.specs.Spell.{shortest_records}
use Rattle.pb_schema.specs.Types.{message_fields}
use Rattle.pb_value.specs.Data.{Fields, fields_depth}
use Rattle.pb_value.specs.Canon.{canon_fields}
use Rattle.pb_value.specs.WellFormed.{AreFields}
use Rattle.pb_canonical.specs.Parts.{OneMemberEach}
use Rattle.pb_canonical.proofs.oneofs.have_further_oneofs_one_each.Given as goal

-- of the oneofs so far each has at most one member
abbrev pub invariant-oneofs : goal.invariant-oneofs
invariant-oneofs l =
    (fs : Fields) → AreFields l.pool (message_fields l.pool l.message_type.0) fs → fields_depth fs ≤ l.levels
    → l.bytes ≡ shortest_records (canon_fields l.pool (message_fields l.pool l.message_type.0) fs) → OneMemberEach (message_fields l.pool l.message_type.0) 128 fs
    → OneMemberEach (message_fields l.pool l.message_type.0) l.first fs

abbrev pub decreases-oneofs : goal.decreases-oneofs
decreases-oneofs l = l.oneofs - l.first
