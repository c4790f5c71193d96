use Rattle.std.proofs.Common.{take}
use Rattle.pbtool_explain.specs.Source.{IsLineStart}
use Rattle.pbtool_explain.proofs.source.start_of_last.Given as goal

abbrev pub invariant-loop-index : goal.invariant-loop-index
invariant-loop-index l = IsLineStart (take l.index l.bytes) l.start
