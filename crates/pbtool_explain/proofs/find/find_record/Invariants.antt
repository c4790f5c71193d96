use Rattle.std.proofs.Common.{◌≤◌, ◌-◌, List, length}
use Rattle.pb_wire.specs.Record.{Record}
use Rattle.pbtool_explain.specs.Turns.{IsReached}
use Rattle.pbtool_explain.proofs.find.find_record.Given as goal

abbrev pub invariant-records : goal.invariant-records
invariant-records l = (l.before ≤ l.step.occurrence) × ((rs : List Record) × IsReached l.bytes l.start l.step rs l.at l.before)

abbrev pub decreases-records : goal.decreases-records
decreases-records l = length l.bytes - l.at
