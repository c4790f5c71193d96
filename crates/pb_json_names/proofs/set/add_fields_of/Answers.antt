use Rattle.pb_value.specs.View.{value_view}
use Rattle.pb_json_names.specs.Names.{field_named}
use Rattle.pb_json_names.proofs.AddingLemmas.{adds_more}
use Rattle.pb_json_names.proofs.set.add_fields_of.Goals as goal

pub loop-field-preserved : goal.loop-field-preserved
loop-field-preserved c =
    adds_more value_view (field_named c.args.message.0) c.args.fields.now c.loop-field.field-index c.field-item.result c.args.names.now c.loop-field.names
    c.add_field.new.names c.loop-field-test.true c.field-item.is c.loop-field.invariant c.in_ok-add_field.ensures
