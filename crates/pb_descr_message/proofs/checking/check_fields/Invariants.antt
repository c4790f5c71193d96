use Rattle.std.proofs.Common.{◌≡◌, flat_map, map}
use Rattle.pb_value.specs.View.{value_view}
use Rattle.pb_descr_message.specs.Causes.{field_causes}
use Rattle.pb_descr_message.proofs.JudgeLemmas.{causes_of_rest}
use Rattle.pb_descr_message.proofs.checking.check_fields.Given as goal

abbrev pub invariant-loop-field : goal.invariant-loop-field
invariant-loop-field l = flat_map (field_causes l.proto2) (map value_view l.fields) ≡ causes_of_rest (field_causes l.proto2) value_view l.field-index l.fields
