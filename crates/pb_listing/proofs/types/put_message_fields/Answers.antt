use Rattle.pb_output.proofs.SinkLemmas.{puts_then}
use Rattle.pb_listing.specs.FieldOwner.{field_line_of}
use Rattle.pb_listing.proofs.TypesLemmas.{flat_map_next}
use Rattle.pb_listing.proofs.types.put_message_fields.Goals as goal

pub loop-field-preserved : goal.loop-field-preserved
loop-field-preserved g c =
    rw (flat_map_next (field_line_of c.args.owner) c.args.fields.now c.loop-field.field-index c.field-item.result c.loop-field-test.true c.field-item.is)
    (puts_then c.loop-field.invariant c.put_field.ensures)
