use Rattle.std.specs.List.{AllByRecursion}
use Rattle.pb_schema.specs.Names.{AllDiffer}
use Rattle.pb_schema.specs.Types.{Types}
use Rattle.pb_compat.specs.Walk.{HasBegun, IsWithin}
use Rattle.pb_compat.proofs.pairs.Pairs.begin.Given as goal

abbrev pub invariant-loop-start : goal.invariant-loop-start
invariant-loop-start l = (old new : Types) → AllDiffer l.starts → AllByRecursion (IsWithin old new) l.starts → HasBegun old new l.starts l.start-index l.pairs
