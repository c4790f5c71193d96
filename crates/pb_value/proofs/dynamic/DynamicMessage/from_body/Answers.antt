use Rattle.std.proofs.lemmas.Result.{err_from_is_err_and}
use Rattle.pb_value.specs.View.{body_view}
use Rattle.pb_value.specs.Cause.{message_cause}
use Rattle.pb_value.proofs.NoCause.{no_cause, memory_alone}
use Rattle.pb_value.proofs.dynamic.DynamicMessage.from_body.Goals as goal

pub returns-in_err-check_message-clause-accepts : goal.returns-in_err-check_message-clause-accepts
returns-in_err-check_message-clause-accepts c =
    let p = err_from_is_err_and c.from_residual.result c.from_residual.ensures.1 in
    rw (p.1, p.2) (λ w. memory_alone (message_cause c.args.pool.now c.args.message_type.0 (body_view c.args.body)) c.in_err-check_message.field-0.0
    (no_cause c.args.pool.now c.args.message_type.0 (body_view c.args.body) w) c.in_err-check_message.ensures)
