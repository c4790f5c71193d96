use Rattle.std.proofs.Common.{◌≡◌, ◌++◌, map, drop}
use Rattle.pb_value.specs.View.{value_view}
use Rattle.pb_descr_message.specs.Omitted.{omitted_view, parts_from}
use Rattle.pb_descr_message.proofs.omitting.omitted_of.Given as goal

abbrev pub invariant-loop-index : goal.invariant-loop-index
invariant-loop-index l = parts_from 0 (map value_view l.files) ≡ map omitted_view l.omitted.items ++ parts_from l.index (map value_view (drop l.index l.files))
