use Rattle.std.proofs.Common.{◌≡◌, true}
use Rattle.pb_compat.specs.Scalars.{declares_within}
use Rattle.pb_compat.proofs.scalars.undeclared.Given as goal

abbrev pub invariant-loop-size : goal.invariant-loop-size
invariant-loop-size l = declares_within l.pool l.entry.0 l.size ≡ true
