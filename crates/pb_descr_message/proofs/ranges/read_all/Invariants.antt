use Rattle.std.proofs.Common.{drop}
use Rattle.std.specs.List.{AllByRecursion}
use Rattle.pb_descr_message.proofs.ranges.read_all.Given as goal

abbrev pub invariant-loop-item : goal.invariant-loop-item
invariant-loop-item g l = AllByRecursion g.T.Ranged.InRange (drop l.item-index l.items) → AllByRecursion g.T.Ranged.InRange l.items
