use Rattle.std.proofs.Common.{◌-◌, length}
use Rattle.pbtool_hints.specs.Lines.{AreLines}
use Rattle.pbtool_hints.proofs.lines.lines_of.Given as goal

abbrev pub invariant-loop-at : goal.invariant-loop-at
invariant-loop-at l = AreLines l.lines.items

abbrev pub decreases-loop-at : goal.decreases-loop-at
decreases-loop-at l = length l.bytes - l.at
