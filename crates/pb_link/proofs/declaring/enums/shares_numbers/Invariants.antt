use Rattle.std.proofs.Common.{map, take}
use Rattle.std.specs.Ordering.{int_cmp}
use Rattle.std.specs.BTreeSet.{contains}
use Rattle.pb_declarations.specs.View.{numbered_view}
use Rattle.pb_link.proofs.DeclaredLemmas.{NoneShared}
use Rattle.pb_link.proofs.declaring.enums.shares_numbers.Given as goal

abbrev pub invariant-loop-value : goal.invariant-loop-value
invariant-loop-value l = NoneShared (map numbered_view (take l.value-index l.values)) (contains int_cmp l.seen)
