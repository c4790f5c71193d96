use Rattle.std.proofs.Common.{map, arith, rules}
use Rattle.pb_value.specs.View.{value_view}
use Rattle.pb_descr_message.specs.Without.{field_without}
use Rattle.pb_descr_message.proofs.WithoutLemmas.{one_changed, all_changed}
use Rattle.pb_descr_message.proofs.stripping.strip_fields.Goals as goal

pub loop-field-preserved : goal.loop-field-preserved
loop-field-preserved c =
    one_changed value_view field_without c.loop-field.fields (map value_view c.args.fields.now) c.loop-field.field-index _ c.strip_field.new.field (omega arith) c.loop-field.invariant (search rules) c.strip_field.ensures

pub returns : goal.returns
returns c = all_changed value_view field_without c.loop-field.fields (map value_view c.args.fields.now) c.loop-field.field-index (omega arith) c.loop-field.invariant
