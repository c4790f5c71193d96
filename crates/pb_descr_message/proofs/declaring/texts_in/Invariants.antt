use Rattle.std.proofs.Common.{◌≡◌, map, take}
use Rattle.pb_value.specs.View.{value_view}
use Rattle.std.specs.Prelude.{string_bytes, filter_map}
use Rattle.pb_descr_message.specs.Held.{text_in}
use Rattle.pb_descr_message.proofs.declaring.texts_in.Given as goal

abbrev pub invariant-loop-value : goal.invariant-loop-value
invariant-loop-value l = map string_bytes l.texts.items ≡ filter_map text_in (map value_view (take l.value-index l.values))
