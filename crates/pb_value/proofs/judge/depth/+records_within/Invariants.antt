use Rattle.std.proofs.Common.{◌↔◌, ◌≤◌, drop}
use Rattle.pb_wire.specs.Record.{records_depth}
use Rattle.pb_wire.specs.Unknown.{records_of}
use Rattle.pb_value.proofs.judge.depth.+records_within.Given as goal

abbrev pub invariant-records_within-loop-payload : goal.invariant-records_within-loop-payload
invariant-records_within-loop-payload l =
    (records_depth (records_of l.records) ≤ l.limit) ↔ (records_depth (records_of (drop l.payload-index l.records)) ≤ l.limit)
