use Rattle.std.proofs.Common.{arith}
use Rattle.std.proofs.lemmas.Result.{err_from_is_err_and}
use Rattle.pb_value.specs.View.{value_view}
use Rattle.pb_descr_message.specs.Causes.{listed_causes}
use Rattle.pb_descr_message.proofs.JudgeLemmas.{stopped}
use Rattle.pb_descr_message.proofs.checking.check_all_listed.Goals as goal

pub returns-in_err-check_listed : goal.returns-in_err-check_listed
returns-in_err-check_listed c =
    let p = err_from_is_err_and c.from_residual.result c.from_residual.ensures.1 in
    rw (p.1, p.2)
    (stopped listed_causes value_view c.args.declared.now c.loop-listed.listed-index c.listed-item.result c.in_err-check_listed.field-0.0 (omega arith) c.listed-item.is c.loop-listed.invariant c.in_err-check_listed.ensures)
