use Rattle.std.proofs.Common.{◌+◌, ◌*◌, ◌<◌, List, map, arith, rules, subst, sym}
use Rattle.std.proofs.lemmas.Result.{err_from_is_err_and}
use Rattle.pb_value.specs.Data.{Datum, levels_of}
use Rattle.pb_value.specs.View.{value_view}
use Rattle.pb_descr_message.specs.Causes.{message_causes}
use Rattle.pb_descr_message.proofs.HeldLemmas.{weight, weight_data, weight_element}
use Rattle.pb_descr_message.proofs.JudgeLemmas.{stopped, message_head_told, message_inner_told, message_enums_told, message_silent}
use Rattle.pb_descr_message.proofs.checking.+check.Goals as goal

pub check_message-returns-in_err-check_head : goal.check_message-returns-in_err-check_head
check_message-returns-in_err-check_head t c =
    let p = err_from_is_err_and c.from_residual.result c.from_residual.ensures.1 in
    rw (p.1, p.2) (message_head_told c.args.proto2 (value_view c.args.message.now) c.in_err-check_head.field-0.0 c.in_err-check_head.ensures)

pub check_message-check_messages-requires : goal.check_message-check_messages-requires
check_message-check_messages-requires t c =
    let deep : weight (map value_view c.values_at.result.now) < 2 * levels_of (value_view c.args.message.now) + 1 =
    subst (λ (ds : List Datum). weight ds < 2 * levels_of (value_view c.args.message.now) + 1) (sym c.values_at.ensures) (weight_data 3 (value_view c.args.message.now)) in
    (search (rules, deep), tt)

pub check_message-returns-in_err-check_messages : goal.check_message-returns-in_err-check_messages
check_message-returns-in_err-check_messages t c =
    let p = err_from_is_err_and c.from_residual-in_err-check_messages.result c.from_residual-in_err-check_messages.ensures.1 in
    rw (p.1, p.2)
    (message_inner_told c.args.proto2 (value_view c.args.message.now) c.in_err-check_messages.field-0.0 (map value_view c.values_at.result.now) c.values_at.ensures c.in_ok-check_head.ensures c.in_err-check_messages.ensures)

pub check_message-returns-in_err-check_all_listed : goal.check_message-returns-in_err-check_all_listed
check_message-returns-in_err-check_all_listed t c =
    let p = err_from_is_err_and c.from_residual-in_err-check_all_listed.result c.from_residual-in_err-check_all_listed.ensures.1 in
    rw (p.1, p.2)
    (message_enums_told c.args.proto2 (value_view c.args.message.now) c.in_err-check_all_listed.field-0.0 (map value_view c.values_at.result.now) (map value_view c.values_at-2.result.now) c.values_at.ensures c.values_at-2.ensures
    c.in_ok-check_head.ensures c.in_ok-check_messages.ensures c.in_err-check_all_listed.ensures)

pub check_message-returns : goal.check_message-returns
check_message-returns t c =
    message_silent c.args.proto2 (value_view c.args.message.now) (map value_view c.values_at.result.now) (map value_view c.values_at-2.result.now) c.values_at.ensures c.values_at-2.ensures
    c.in_ok-check_head.ensures c.in_ok-check_messages.ensures c.in_ok-check_all_listed.ensures

pub check_messages-check_message-requires : goal.check_messages-check_message-requires
check_messages-check_message-requires t c =
    let element = weight_element value_view c.args.messages.now c.loop-message.message-index c.message-item.result (omega arith) c.message-item.is in
    let deep : 2 * levels_of (value_view c.message-item.result) + 1 < weight (map value_view c.args.messages.now) = omega arith in
    (search (rules, deep), tt)

pub check_messages-returns-in_err-check_message : goal.check_messages-returns-in_err-check_message
check_messages-returns-in_err-check_message t c =
    let p = err_from_is_err_and c.from_residual.result c.from_residual.ensures.1 in
    rw (p.1, p.2)
    (stopped (message_causes c.args.proto2) value_view c.args.messages.now c.loop-message.message-index c.message-item.result c.in_err-check_message.field-0.0 (omega arith) c.message-item.is c.loop-message.invariant c.in_err-check_message.ensures)
