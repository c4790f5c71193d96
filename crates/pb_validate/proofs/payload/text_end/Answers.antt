use Rattle.std.proofs.Common.{arith, refl, length-drop}
use Rattle.std.proofs.lemmas.Result.{err_from_is_err_and}
use Rattle.pb_validate.specs.Payloads.{TextFault}
use Rattle.pb_validate.proofs.HereLemmas.{payload_between}
use Rattle.pb_validate.proofs.payload.text_end.Goals as goal

pub returns-in_err-start-clause-fault : goal.returns-in_err-start-clause-fault
returns-in_err-start-clause-fault c =
    let p = err_from_is_err_and c.from_residual.result c.from_residual.ensures.1 in rw (p.1, p.2) (TextFault.unread c.in_err-start.ensures.fault)

pub returns-in-Ok-clause-ok : goal.returns-in-Ok-clause-ok
returns-in-Ok-clause-ok c =
    let w = c.in_ok-start.ensures.within in
    (_, c.in-Ok.ensures.cases.1, payload_between c.args.bytes.now c.args.at _ _ c.args.to c.in_ok-start.ensures.ok w.1 w.2)

pub returns-in-Err-clause-fault : goal.returns-in-Err-clause-fault
returns-in-Err-clause-fault c =
    let w = c.in_ok-start.ensures.within in
    rw (c.refused.ensures, c.valid_up_to.ensures, c.in-Err.ensures.valid_len)
    (TextFault.bad_text c.in_ok-start.ensures.ok (let e = length-drop c.in_ok-start.start c.args.bytes.now in omega (arith, e, w)) c.in-Err.ensures.cases.0 refl)
