use Rattle.std.proofs.Common.{◌≡◌, map, take}
use Rattle.pb_value.specs.View.{value_view}
use Rattle.std.specs.Prelude.{filter_map}
use Rattle.pb_descr_message.specs.Held.{int_in}
use Rattle.pb_descr_message.proofs.declaring.ints_in.Given as goal

abbrev pub invariant-loop-value : goal.invariant-loop-value
invariant-loop-value l = l.numbers.items ≡ filter_map int_in (map value_view (take l.value-index l.values))
