use Rattle.std.proofs.Common.{Err}
use Rattle.std.proofs.lemmas.Result.{err_from_is_err_and}
use Rattle.pb_json_read.proofs.TextLemmas.{no_text_fault, no_text_accepted, no_text_refused, read_fault, fault_accepted, fault_refused}
use Rattle.pb_json_read.proofs.TextLemmas.{at_value, all_read, all_fault, all_accepted, all_refused}
use Rattle.pb_json_read.proofs.text.read_json_by.Goals as goal

pub returns-in_err-value-clause-fault : goal.returns-in_err-value-clause-fault
returns-in_err-value-clause-fault c =
    let p = err_from_is_err_and c.from_residual.result c.from_residual.ensures.1 in
    rw (p.1, p.2) (no_text_fault c.args.pool.now c.args.rules c.args.names.now c.args.message_type.0 c.args.bytes.now _ c.in_err-value.ensures.fault)

pub returns-in_err-value-clause-accepted : goal.returns-in_err-value-clause-accepted
returns-in_err-value-clause-accepted c =
    let p = err_from_is_err_and c.from_residual.result c.from_residual.ensures.1 in
    rw (p.1, p.2) (no_text_accepted c.args.pool.now c.args.rules c.args.names.now c.args.message_type.0 c.args.bytes.now _ c.in_err-value.ensures.accepted)

pub returns-in_err-value-clause-refused : goal.returns-in_err-value-clause-refused
returns-in_err-value-clause-refused c =
    let p = err_from_is_err_and c.from_residual.result c.from_residual.ensures.1 in
    rw (p.1, p.2) (no_text_refused c.args.pool.now c.args.rules c.args.names.now c.args.message_type.0 c.args.bytes.now _ c.in_err-value.ensures.accepted c.in_err-value.ensures.refused)

pub returns-in_err-body-clause-fault : goal.returns-in_err-body-clause-fault
returns-in_err-body-clause-fault c =
    let p = err_from_is_err_and c.from_residual-in_err-body.result c.from_residual-in_err-body.ensures.1 in
    let v = c.in_ok-value.ensures in
    rw (p.1, p.2) (read_fault c.args.pool.now c.args.rules c.args.names.now c.args.message_type.0 c.args.bytes.now c.in_ok-value.value v.accepted v.refused v.value _ (at_value c.args.pool.now c.args.rules c.args.names.now c.args.message_type.0 c.in_ok-value.value (Err _) c.in_err-body.ensures))

pub returns-in_err-body-clause-accepted : goal.returns-in_err-body-clause-accepted
returns-in_err-body-clause-accepted c =
    let p = err_from_is_err_and c.from_residual-in_err-body.result c.from_residual-in_err-body.ensures.1 in
    let v = c.in_ok-value.ensures in
    rw (p.1, p.2) (fault_accepted c.args.pool.now c.args.rules c.args.names.now c.args.message_type.0 c.args.bytes.now c.in_ok-value.value v.accepted v.refused v.value _ (at_value c.args.pool.now c.args.rules c.args.names.now c.args.message_type.0 c.in_ok-value.value (Err _) c.in_err-body.ensures))

pub returns-in_err-body-clause-refused : goal.returns-in_err-body-clause-refused
returns-in_err-body-clause-refused c =
    let p = err_from_is_err_and c.from_residual-in_err-body.result c.from_residual-in_err-body.ensures.1 in
    let v = c.in_ok-value.ensures in
    rw (p.1, p.2) (fault_refused c.args.pool.now c.args.rules c.args.names.now c.args.message_type.0 c.args.bytes.now c.in_ok-value.value v.accepted v.refused v.value _ (at_value c.args.pool.now c.args.rules c.args.names.now c.args.message_type.0 c.in_ok-value.value (Err _) c.in_err-body.ensures))

pub returns-clause-read : goal.returns-clause-read
returns-clause-read c =
    let v = c.in_ok-value.ensures in
    all_read c.args.pool.now c.args.rules c.args.names.now c.args.message_type.0 c.args.bytes.now c.in_ok-value.value v.accepted v.refused v.value _ c.in_ok-body.ensures c.with_form.result c.with_form.ensures.made c.with_form.ensures.well_formed c.with_form.ensures.has_form

pub returns-clause-fault : goal.returns-clause-fault
returns-clause-fault c =
    let v = c.in_ok-value.ensures in
    all_fault c.args.pool.now c.args.rules c.args.names.now c.args.message_type.0 c.args.bytes.now c.in_ok-value.value v.accepted v.refused v.value _ c.in_ok-body.ensures c.with_form.result c.with_form.ensures.refused

pub returns-clause-accepted : goal.returns-clause-accepted
returns-clause-accepted c =
    let v = c.in_ok-value.ensures in
    all_accepted c.args.pool.now c.args.rules c.args.names.now c.args.message_type.0 c.args.bytes.now c.in_ok-value.value v.accepted v.refused v.value _ c.in_ok-body.ensures c.with_form.result c.with_form.ensures.made c.with_form.ensures.refused

pub returns-clause-refused : goal.returns-clause-refused
returns-clause-refused c =
    let v = c.in_ok-value.ensures in
    all_refused c.args.pool.now c.args.rules c.args.names.now c.args.message_type.0 c.args.bytes.now c.in_ok-value.value v.accepted v.refused v.value _ c.in_ok-body.ensures c.with_form.result c.with_form.ensures.well_formed c.with_form.ensures.has_form c.with_form.ensures.refused
