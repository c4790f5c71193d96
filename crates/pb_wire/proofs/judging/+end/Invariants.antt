use Rattle.std.proofs.Common.{◌≡◌, ◌+◌, ◌-◌, ◌*◌, ◌≤◌, [], List, length}
use Rattle.pb_wire.specs.Fault.{place}
use Rattle.pb_wire.specs.Record.{Record}
use Rattle.pb_wire.specs.Reading.{Front}
use Rattle.pb_wire.proofs.judging.+end.Given as goal

abbrev pub decreases-records_end : goal.decreases-records_end
decreases-records_end l = 2 * l.depth_left + 1

abbrev pub decreases-record_end : goal.decreases-record_end
decreases-record_end l = 2 * l.depth_left

abbrev pub invariant-records_end-records : goal.invariant-records_end-records
invariant-records_end-records l =
    (l.at ≤ l.here) × (l.here ≤ length l.bytes) × (l.steps.items ≡ [])
    × (rs : List Record) × Front l.depth_left (place l.bytes l.at) rs (place l.bytes l.here)

abbrev pub decreases-records_end-records : goal.decreases-records_end-records
decreases-records_end-records l = length l.bytes - l.here
