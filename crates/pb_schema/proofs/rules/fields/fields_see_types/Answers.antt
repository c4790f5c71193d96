use Rattle.std.proofs.Common.{arith}
use Rattle.pb_schema.specs.Types.{FieldView}
use Rattle.pb_schema.specs.View.{field_view, types_of}
use Rattle.pb_schema.specs.Rules.{TypeIsSeen}
use Rattle.pb_schema.proofs.Loops.{goes_on}
use Rattle.pb_schema.proofs.rules.fields.fields_see_types.Goals as goal

pub loop-field-preserved : goal.loop-field-preserved
loop-field-preserved c =
    let ts = types_of c.args.files.now c.args.messages.now c.args.enums.now in
    (goes_on (λ (f : FieldView). TypeIsSeen ts c.args.message.now.file f.kind) field_view _ _ c.loop-field.field-index c.field-item.result c.in_ok-seen.seen c.in_ok-seen.ensures.seen c.loop-field.invariant.0 (omega arith) c.field-item.is c.if-not-seen.false, c.in_ok-seen.ensures.known)
