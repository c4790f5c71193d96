-- None of the pairs so far is that of the difference.
use Rattle.std.proofs.Common.{ℕ, ◌<◌}
use Rattle.pb_c.specs.Shown.{IsPairAt}
use Rattle.pb_c.proofs.compat.witness.pair_index.Given as goal

abbrev pub invariant-loop-i : goal.invariant-loop-i
invariant-loop-i l = (k : ℕ) → k < l.i → ¬ IsPairAt l.compared k l.difference
