use Rattle.std.proofs.Common.{refl}
use Rattle.std.proofs.lemmas.Result.{err_from_is_err_and}
use Rattle.pb_json.proofs.MappingLemmas.{as_whole}
use Rattle.pb_json.proofs.messages.put_json.Goals as goal

pub returns-clause-put : goal.returns-clause-put
returns-clause-put g c =
    let m = c.args.message.now in
    let p = c.in_ok-put_judged.ensures.put in
    let is = as_whole c.args.form.layout c.args.form.names m _ _ _ _ p.bytes refl c.pool-pool.ensures c.message_type-id.ensures.named c.body-body.ensures.held p.is in
    record { bytes = p.bytes; is = (c.in_ok-judge_json.ensures.has_form, is); puts = p.puts }

pub returns-in_err-judge_json-clause-failed : goal.returns-in_err-judge_json-clause-failed
returns-in_err-judge_json-clause-failed g c =
    let p = err_from_is_err_and c.from_residual.result c.from_residual.ensures.1 in
    rw (p.1, p.2) (c.in_err-judge_json.ensures.failed, refl, refl)
