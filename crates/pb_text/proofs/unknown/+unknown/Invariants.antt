use Rattle.std.proofs.Common.{◌+◌, ◌*◌, ◌≤◌, drop}
use Rattle.pb_wire.specs.Record.{group_depth, group_of}
use Rattle.pb_wire.specs.Unknown.{records_of}
use Rattle.pb_text.specs.Unknown.{AreRecordsLines}
use Rattle.pb_text.proofs.PartLemmas.{IsBegun}
use Rattle.pb_text.proofs.UnknownLemmas.{records_depth_from}
use Rattle.pb_text.proofs.unknown.+unknown.Given as goal

abbrev pub invariant-put_records-loop-number : goal.invariant-put_records-loop-number
invariant-put_records-loop-number g l =
    l.level + 2 * group_depth (group_of (records_of l.records)) ≤ 202
    → IsBegun g.O.Output.written g.O.Output.failures l.initial.out l.out l.initial.sink l.sink l.level (records_depth_from l.number-index l.records)
    (AreRecordsLines l.layout l.levels l.level (group_of (records_of (drop l.number-index l.records))))
    (AreRecordsLines l.layout l.levels l.level (group_of (records_of l.records)))
