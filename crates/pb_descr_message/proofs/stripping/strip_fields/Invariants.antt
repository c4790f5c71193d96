use Rattle.std.proofs.Common.{map}
use Rattle.pb_value.specs.View.{value_view}
use Rattle.pb_descr_message.specs.Without.{field_without}
use Rattle.pb_descr_message.proofs.WithoutLemmas.{Changed}
use Rattle.pb_descr_message.proofs.stripping.strip_fields.Given as goal

abbrev pub invariant-loop-field : goal.invariant-loop-field
invariant-loop-field l = Changed value_view field_without l.field-index (map value_view l.initial.fields) l.fields
