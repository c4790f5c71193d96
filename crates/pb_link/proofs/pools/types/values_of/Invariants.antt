use Rattle.std.proofs.Common.{◌≡◌, map, take}
use Rattle.pb_declarations.specs.View.{numbered_view}
use Rattle.pb_link.proofs.pools.types.values_of.Given as goal

abbrev pub invariant-loop-value : goal.invariant-loop-value
invariant-loop-value l = map numbered_view l.copies.items ≡ map numbered_view (take l.value-index l.values)
