use Rattle.std.proofs.Common.{sym, ap, ◌∙◌, inr}
use Rattle.std.proofs.lemmas.Result.{err_from_is_err_and}
use Rattle.pb_json_text.specs.declared.fault.JsonCause.TheVariants as cause
use Rattle.pb_json_text.specs.Grammar.{is_blank}
use Rattle.pb_json_text.specs.Json.{Placed}
use Rattle.pb_json_text.specs.View.{form_view}
use Rattle.pb_json_text.specs.Loops.Machine.{done}
use Rattle.pb_json_text.proofs.Steps.{stop_is}
use Rattle.pb_json_text.proofs.ReadingSteps.{text_read, text_goes_on, text_fault}
use Rattle.pb_json_text.proofs.ViewLemmas.{value_view-parts}
use Rattle.pb_json_text.specs.declared.value.JsonValue.{roll-JsonValue}
use Rattle.pb_json_text.proofs.text.read_text.Goals as goal

pub returns-in_err-form-clause-fault : goal.returns-in_err-form-clause-fault
returns-in_err-form-clause-fault c =
    let b = c.args.input.now in
    let same = c.as_bytes-bytes.ensures.value in
    let w = rw same at c.in_ok-at.ensures.within in
    let byte = rw same at c.in_ok-at.ensures.byte in
    let p = err_from_is_err_and c.from_residual-in_err-form.result c.from_residual-in_err-form.ensures.1 in
    rw (p.1, p.2) (text_fault b 100 c.in_ok-at.at c.in_err-form.field-0.0 (rw same at c.in_ok-at.ensures.runs) w.1 (ap is_blank byte.0 ∙ byte.1) c.in_err-form.ensures.fault)

pub returns-in-Ok-clause-fault : goal.returns-in-Ok-clause-fault
returns-in-Ok-clause-fault c =
    let b = c.args.input.now in
    let same = c.as_bytes-bytes.ensures.value in
    let w = rw same at c.in_ok-at.ensures.within in
    let byte = rw same at c.in_ok-at.ensures.byte in
    let w2 = rw same at c.in-Ok.ensures.within in
    let byte2 = rw same at c.in-Ok.ensures.byte in
    inr (stop_is c.unexpected.result c.in-Ok.more cause.UnexpectedByte _ c.unexpected.ensures.byte c.unexpected.ensures.cause
    (text_goes_on b 100 c.in_ok-at.at c.in_ok-form.end c.in-Ok.more (form_view c.in_ok-form.form) (rw same at c.in_ok-at.ensures.runs) w.1 (ap is_blank byte.0 ∙ byte.1) c.in_ok-form.ensures.ok.2
    (rw same at c.in-Ok.ensures.runs) w2.1 (ap is_blank byte2.0 ∙ byte2.1)))

pub returns-in-Err-clause-ok : goal.returns-in-Err-clause-ok
returns-in-Err-clause-ok c =
    let b = c.args.input.now in
    let same = c.as_bytes-bytes.ensures.value in
    let w = rw same at c.in_ok-at.ensures.within in
    let byte = rw same at c.in_ok-at.ensures.byte in
    text_read b 100 c.in_ok-at.at c.in_ok-form.end c.in-Err.field-0.byte (form_view c.in_ok-form.form) (rw same at c.in_ok-at.ensures.runs) w.1 (ap is_blank byte.0 ∙ byte.1) c.in_ok-form.ensures.ok.2
    (rw same at c.in-Err.ensures.fault)
    ∙ ap (λ (p : Placed). done p.0 p.1) (sym (value_view-parts (roll-JsonValue record { at = c.in_ok-at.at; form = c.in_ok-form.form })))
