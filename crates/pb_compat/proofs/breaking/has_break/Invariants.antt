use Rattle.std.proofs.Common.{◌≡◌, drop}
use Rattle.pb_compat.specs.Agrees.{break_among}
use Rattle.pb_compat.proofs.breaking.has_break.Given as goal

abbrev pub invariant-loop-difference : goal.invariant-loop-difference
invariant-loop-difference l = break_among l.differences ≡ break_among (drop l.difference-index l.differences)
