use Rattle.std.proofs.Common.{◌-◌, length}
use Rattle.pb_find.specs.Walk.{ArePassed}
use Rattle.pb_find.proofs.level.Level.past_records.Given as goal

abbrev pub invariant-records : goal.invariant-records
invariant-records l = ArePassed l.self l.field l.shape l.at l.here

abbrev pub decreases-records : goal.decreases-records
decreases-records l = length l.self.bytes.now - l.here
