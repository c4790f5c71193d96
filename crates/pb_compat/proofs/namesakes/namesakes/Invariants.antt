use Rattle.std.proofs.Common.{◌≡◌}
use Rattle.std.specs.List.{AllByRecursion}
use Rattle.pb_compat.specs.Namesakes.{namesakes_below}
use Rattle.pb_compat.specs.Walk.{IsWithin}
use Rattle.pb_compat.proofs.namesakes.namesakes.Given as goal

abbrev pub invariant-loop-index : goal.invariant-loop-index
invariant-loop-index l = record {
  pairs : l.pairs.items ≡ namesakes_below l.old l.new l.index;
  within : AllByRecursion (IsWithin l.old l.new) l.pairs.items;
}
