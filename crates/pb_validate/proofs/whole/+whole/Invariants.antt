use Rattle.std.proofs.Common.{◌+◌, ◌-◌, ◌*◌, ◌≤◌, None, List, length}
use Rattle.pb_wire.specs.Record.{Record}
use Rattle.pb_schema.specs.Context.{schema_of}
use Rattle.pb_wire.specs.Scan.{here}
use Rattle.pb_validate.specs.Contexts.{context_view, rank}
use Rattle.pb_validate.specs.Judging.{Front}
use Rattle.pb_validate.proofs.whole.+whole.Given as goal

abbrev pub decreases-are_whole : goal.decreases-are_whole
decreases-are_whole l = 16 * l.levels + 8 * rank (context_view l.context) + 5

abbrev pub decreases-message_is_whole : goal.decreases-message_is_whole
decreases-message_is_whole l = 16 * l.levels + 4

abbrev pub decreases-entry_is_whole : goal.decreases-entry_is_whole
decreases-entry_is_whole l = 16 * l.levels + 8 + 4

abbrev pub decreases-records_are_whole : goal.decreases-records_are_whole
decreases-records_are_whole l = 16 * l.levels + 8 * rank (context_view l.context) + 3

abbrev pub decreases-record_end : goal.decreases-record_end
decreases-record_end l = 16 * l.levels + 8 * rank (context_view l.context) + 2

abbrev pub decreases-payload_is_whole : goal.decreases-payload_is_whole
decreases-payload_is_whole l = 16 * l.levels + 8 * rank (context_view l.context)

abbrev pub decreases-group_end : goal.decreases-group_end
decreases-group_end l = 16 * l.levels + 8 * rank (context_view l.context)

abbrev pub invariant-records_are_whole-loop-at : goal.invariant-records_are_whole-loop-at
invariant-records_are_whole-loop-at l =
    (l.at ≤ length l.bytes)
    × (rs : List Record) × Front (schema_of l.pool) (context_view l.context) l.levels (here l.bytes 0 None) rs (here l.bytes l.at None)

abbrev pub decreases-records_are_whole-loop-at : goal.decreases-records_are_whole-loop-at
decreases-records_are_whole-loop-at l = length l.bytes - l.at

abbrev pub invariant-group_end-loop-next : goal.invariant-group_end-loop-next
invariant-group_end-loop-next l =
    (l.tag.end ≤ l.at) × (l.at ≤ length l.bytes)
    × (rs : List Record) × Front (schema_of l.pool) (context_view l.inner) (l.levels - 1) (here l.bytes l.tag.end None) rs (here l.bytes l.at None)

abbrev pub decreases-group_end-loop-next : goal.decreases-group_end-loop-next
decreases-group_end-loop-next l = length l.bytes - l.at
