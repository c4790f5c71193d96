use Rattle.std.proofs.Common.{arith}
use Rattle.std.proofs.lemmas.Result.{err_from_is_err_and}
use Rattle.pb_value.specs.View.{value_view}
use Rattle.pb_descr_message.specs.Causes.{field_causes}
use Rattle.pb_descr_message.proofs.JudgeLemmas.{stopped}
use Rattle.pb_descr_message.proofs.checking.check_fields.Goals as goal

pub returns-in_err-check_field : goal.returns-in_err-check_field
returns-in_err-check_field c =
    let p = err_from_is_err_and c.from_residual.result c.from_residual.ensures.1 in
    rw (p.1, p.2)
    (stopped (field_causes c.args.proto2) value_view c.args.fields.now c.loop-field.field-index c.field-item.result c.in_err-check_field.field-0.0 (omega arith) c.field-item.is c.loop-field.invariant c.in_err-check_field.ensures)
