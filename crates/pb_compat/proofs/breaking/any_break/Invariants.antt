use Rattle.std.proofs.Common.{◌≡◌, drop}
use Rattle.pb_compat.specs.Agrees.{break_in}
use Rattle.pb_compat.proofs.breaking.any_break.Given as goal

abbrev pub invariant-loop-types : goal.invariant-loop-types
invariant-loop-types l = break_in l.compared ≡ break_in (drop l.types-index l.compared)
