use Rattle.std.proofs.Common.{◌+◌, arith}
use Rattle.std.proofs.KnownBytes.{Consumes-nil}
use Rattle.std.proofs.lemmas.Result.{err_from_is_err_and}
use Rattle.pbtool_files.proofs.FirstPieces.{all_read}
use Rattle.pbtool_command.proofs.EarlySteps.{early_judges}
use Rattle.pbtool_command.proofs.early.read_bytes.Goals as goal

pub returns-then-len-first-clause-read : goal.returns-then-len-first-clause-read
returns-then-len-first-clause-read g c =
    let left = g.I.Input.left in
    let input = c.args.input.now in
    let read = c.in_ok-read_on.ensures in
    all_read left g.I.Input.is_steady input (c.args.limits.bytes + 1) c.read_on.new.bytes.items (left c.read_on.new.input)
    (read.taken (left input) (rw c.new-bytes.ensures.items (Consumes-nil (left input)))) (omega (arith, read.within, c.min-first.ensures, c.max_bytes.ensures.same))
    (λ few. read.ends (omega (arith, c.if-len-first.true, c.len.ensures)))

pub returns-in_err-judge_first-clause-refused : goal.returns-in_err-judge_first-clause-refused
returns-in_err-judge_first-clause-refused g c =
    let p = err_from_is_err_and c.from_residual-in_err-judge_first.result c.from_residual-in_err-judge_first.ensures.1 in
    let left = g.I.Input.left in
    let input = c.args.input.now in
    let read = c.in_ok-read_on.ensures in
    rw (p.1, p.2)
    (early_judges left g.I.Input.is_steady input c.args.limits c.args.path.now c.read_on.new.bytes.items (left c.read_on.new.input)
    c.in_err-judge_first.field-0.0 (read.taken (left input) (rw c.new-bytes.ensures.items (Consumes-nil (left input))))
    (omega (arith, read.within, c.min-first.ensures, c.max_bytes.ensures.same)) (rw c.as_slice.ensures.value at c.in_err-judge_first.ensures.refused))

pub returns-clause-read : goal.returns-clause-read
returns-clause-read g c =
    let left = g.I.Input.left in
    let input = c.args.input.now in
    let read = c.in_ok-read_on.ensures in
    let more = c.in_ok-read_on-2.ensures in
    all_read left g.I.Input.is_steady input (c.args.limits.bytes + 1) c.read_on-2.new.bytes.items (left c.read_on-2.new.input)
    (more.taken (left input) (read.taken (left input) (rw c.new-bytes.ensures.items (Consumes-nil (left input)))))
    (omega (arith, more.within, c.max_bytes.ensures.same)) (λ few. more.ends (omega (arith, few, c.max_bytes.ensures.same)))
