use Rattle.std.proofs.lemmas.Result.{err_from_is_err_and}
use Rattle.pb_validate.specs.Payloads.{UnreadFault}
use Rattle.pb_validate.proofs.payload.payload_at.Goals as goal

pub returns-in_err-size-clause-fault : goal.returns-in_err-size-clause-fault
returns-in_err-size-clause-fault c =
    let p = err_from_is_err_and c.from_residual.result c.from_residual.ensures.1 in rw (p.1, p.2) (UnreadFault.a_length c.in_err-size.ensures.fault)
