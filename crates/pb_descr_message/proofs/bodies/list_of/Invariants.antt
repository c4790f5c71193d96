use Rattle.std.proofs.Common.{◌≡◌, map, take}
use Rattle.pb_value.specs.View.{value_view}
use Rattle.pb_descr_message.proofs.bodies.list_of.Given as goal

abbrev pub invariant-loop-item : goal.invariant-loop-item
invariant-loop-item g l = map value_view l.values.items ≡ map g.T.Written.datum (take l.item-index l.items)
