use Rattle.std.proofs.Common.{map}
use Rattle.std.proofs.lemmas.Result.{err_from_is_err_and}
use Rattle.pb_value.specs.View.{value_view}
use Rattle.pb_descr_message.proofs.JudgeLemmas.{file_messages_told, file_enums_told, file_services_told, file_silent}
use Rattle.pb_descr_message.proofs.checking.check_file.Goals as goal

pub returns-in_err-check_messages : goal.returns-in_err-check_messages
returns-in_err-check_messages c =
    let p = err_from_is_err_and c.from_residual-in_err-check_messages.result c.from_residual-in_err-check_messages.ensures.1 in
    rw (p.1, p.2)
    (file_messages_told c.is_proto2-proto2.result (value_view c.args.file.now) c.is_proto2-proto2.ensures c.in_err-check_messages.field-0.0 (map value_view c.values_at.result.now) c.values_at.ensures c.in_ok-check_file_head.ensures c.in_err-check_messages.ensures)

pub returns-in_err-check_all_listed : goal.returns-in_err-check_all_listed
returns-in_err-check_all_listed c =
    let p = err_from_is_err_and c.from_residual-in_err-check_all_listed.result c.from_residual-in_err-check_all_listed.ensures.1 in
    rw (p.1, p.2)
    (file_enums_told c.is_proto2-proto2.result (value_view c.args.file.now) c.is_proto2-proto2.ensures c.in_err-check_all_listed.field-0.0 (map value_view c.values_at.result.now) (map value_view c.values_at-2.result.now) c.values_at.ensures c.values_at-2.ensures
    c.in_ok-check_file_head.ensures c.in_ok-check_messages.ensures c.in_err-check_all_listed.ensures)

pub returns-in_err-check_all_listed-2 : goal.returns-in_err-check_all_listed-2
returns-in_err-check_all_listed-2 c =
    let p = err_from_is_err_and c.from_residual-in_err-check_all_listed-2.result c.from_residual-in_err-check_all_listed-2.ensures.1 in
    rw (p.1, p.2)
    (file_services_told c.is_proto2-proto2.result (value_view c.args.file.now) c.is_proto2-proto2.ensures c.in_err-check_all_listed-2.field-0.0 (map value_view c.values_at.result.now) (map value_view c.values_at-2.result.now) (map value_view c.values_at-3.result.now)
    c.values_at.ensures c.values_at-2.ensures c.values_at-3.ensures c.in_ok-check_file_head.ensures c.in_ok-check_messages.ensures c.in_ok-check_all_listed.ensures c.in_err-check_all_listed-2.ensures)

pub returns : goal.returns
returns c =
    file_silent c.is_proto2-proto2.result (value_view c.args.file.now) c.is_proto2-proto2.ensures (map value_view c.values_at.result.now) (map value_view c.values_at-2.result.now) (map value_view c.values_at-3.result.now) c.values_at.ensures c.values_at-2.ensures c.values_at-3.ensures
    c.in_ok-check_file_head.ensures c.in_ok-check_messages.ensures c.in_ok-check_all_listed.ensures c.in_ok-check_all_listed-2.ensures
