use Rattle.std.proofs.Common.{◌≡◌, ◌+◌, ◌-◌, ◌*◌, ◌≤◌, [], List, length}
use Rattle.pb_wire.specs.Record.{Record}
use Rattle.pb_schema.specs.Context.{schema_of}
use Rattle.pb_wire.specs.Scan.{here}
use Rattle.pb_validate.specs.Contexts.{context_view, rank}
use Rattle.pb_validate.specs.Judging.{Front}
use Rattle.pb_validate.proofs.scope.Scope.+end.Given as goal

abbrev pub decreases-records_end : goal.decreases-records_end
decreases-records_end l = 8 * l.self.now.levels + 4 * rank (context_view l.self.now.context) + 2

abbrev pub decreases-record_end : goal.decreases-record_end
decreases-record_end l = 8 * l.self.now.levels + 4 * rank (context_view l.self.now.context) + 1

abbrev pub decreases-payload_end : goal.decreases-payload_end
decreases-payload_end l = 8 * l.self.now.levels + 4 * rank (context_view l.self.now.context)

abbrev pub decreases-message_end : goal.decreases-message_end
decreases-message_end l = 8 * l.self.now.levels + 4 * rank (context_view l.self.now.context) + 3

abbrev pub invariant-records_end-records : goal.invariant-records_end-records
invariant-records_end-records l =
    (l.at ≤ l.here) × (l.here ≤ length l.bytes) × (l.steps.items ≡ [])
    × (rs : List Record) × Front (schema_of l.self.pool.now) (context_view l.self.context) l.self.levels (here l.bytes l.at l.self.to) rs (here l.bytes l.here l.self.to)

abbrev pub decreases-records_end-records : goal.decreases-records_end-records
decreases-records_end-records l = length l.bytes - l.here
