use Rattle.std.proofs.Common.{◌≤◌, ◌-◌, map, take, length}
use Rattle.pb_wire.specs.Limits.{full}
use Rattle.pb_declarations.specs.View.{file_view}
use Rattle.pb_descr_message.specs.Sets.{IsSetOf}
use Rattle.pb_descr.proofs.reading.read_parts.Given as goal

abbrev pub invariant-loop-at : goal.invariant-loop-at
invariant-loop-at l = (l.at ≤ length l.bytes) × IsSetOf full (take l.at l.bytes) (map file_view l.files.items)

abbrev pub decreases-loop-at : goal.decreases-loop-at
decreases-loop-at l = length l.bytes - l.at
