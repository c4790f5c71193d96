use Rattle.std.proofs.Common.{◌≡◌, false, take}
use Rattle.std.specs.List.{AllByRecursion}
use Rattle.pbtool_explain.specs.Source.{ends_line}
use Rattle.pbtool_explain.proofs.source.rest_of_line.Given as goal

abbrev pub invariant-loop-index : goal.invariant-loop-index
invariant-loop-index l = AllByRecursion (λ b. ends_line b ≡ false) (take l.index l.rest)
