use Rattle.std.proofs.Common.{map}
use Rattle.pb_value.specs.View.{value_view}
use Rattle.pb_descr_message.specs.Omitted.{omitted_view, field_parts}
use Rattle.pb_descr_message.proofs.OmittedLemmas.{gathered_more}
use Rattle.pb_descr_message.proofs.omitting.add_fields.Goals as goal

pub loop-field-preserved : goal.loop-field-preserved
loop-field-preserved c =
    gathered_more value_view (field_parts c.args.file c.args.scope.now) c.args.fields.now c.loop-field.field-index c.field-item.result (map omitted_view c.args.omitted.now.items) (map omitted_view c.loop-field.omitted.items) (map omitted_view c.add_field.new.omitted.items)
    c.loop-field-test.true c.field-item.is c.loop-field.invariant c.in_ok-add_field.ensures
