use Rattle.std.proofs.Common.{◌<◌, ℕ}
use Rattle.pbtool_hints.specs.Near.{AreAlikeFromEnd}
use Rattle.pbtool_hints.proofs.near.shared_suffix.Given as goal

abbrev pub invariant-loop-at : goal.invariant-loop-at
invariant-loop-at l = (k : ℕ) → k < l.at → AreAlikeFromEnd l.left l.right k
