use Rattle.std.proofs.Common.{◌+◌}
use Rattle.std.proofs.lemmas.Result.{err_from_is_err_and}
use Rattle.pbtool_files.specs.Known.{IsReadFrom}
use Rattle.pbtool_command.proofs.EarlySteps.{no_device_told}
use Rattle.pbtool_command.proofs.RawSteps.{told_judges}
use Rattle.pbtool_command.proofs.early.read_records.Goals as goal

pub returns-in_err-judge_raw-clause-judged : goal.returns-in_err-judge_raw-clause-judged
returns-in_err-judge_raw-clause-judged g c =
    let p = err_from_is_err_and c.from_residual-in_err-judge_raw.result c.from_residual-in_err-judge_raw.ensures.1 in
    rw p.1
    (told_judges c.args.limits c.args.path.now (IsReadFrom g.I.Input.left g.I.Input.is_steady c.args.input.now (c.args.limits.bytes + 1))
    c.in_err-judge_raw.field-0.0 p.0 c.in_ok-bytes.bytes.items p.2 c.in_ok-bytes.ensures.read
    (rw c.as_slice.ensures.value at c.in_err-judge_raw.ensures.fault))

pub returns-in_err-judge_raw-clause-failed : goal.returns-in_err-judge_raw-clause-failed
returns-in_err-judge_raw-clause-failed g c =
    let p = err_from_is_err_and c.from_residual-in_err-judge_raw.result c.from_residual-in_err-judge_raw.ensures.1 in
    rw p.1 (λ names. absurd (no_device_told c.in_err-judge_raw.field-0.0 p.0 p.2 names))

pub returns-in_err-judge_raw-clause-kept : goal.returns-in_err-judge_raw-clause-kept
returns-in_err-judge_raw-clause-kept g c =
    let p = err_from_is_err_and c.from_residual-in_err-judge_raw.result c.from_residual-in_err-judge_raw.ensures.1 in
    rw p.1 (λ no. c.in_ok-bytes.ensures.kept)
