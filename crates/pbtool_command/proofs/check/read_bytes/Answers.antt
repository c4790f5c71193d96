use Rattle.std.proofs.Common.{◌+◌, arith}
use Rattle.std.proofs.KnownBytes.{Consumes-nil}
use Rattle.std.proofs.lemmas.Result.{err_from_is_err_and}
use Rattle.pb_wire.specs.Limits.{full}
use Rattle.pbtool_files.proofs.FirstPieces.{all_read, early_refuses}
use Rattle.pbtool_command.specs.Steps.{IsUnfit}
use Rattle.pbtool_command.proofs.CheckSteps.{stop_later, stop_unfit}
use Rattle.pbtool_command.proofs.check.read_bytes.Goals as goal

pub returns-then-len-first-clause-read : goal.returns-then-len-first-clause-read
returns-then-len-first-clause-read g c =
    let left = g.I.Input.left in
    let input = c.args.input.now in
    let read = c.in_ok-read_on.ensures in
    all_read left g.I.Input.is_steady input (full.bytes + 1) c.read_on.new.bytes.items (left c.read_on.new.input)
    (read.taken (left input) (rw c.new-bytes.ensures.items (Consumes-nil (left input)))) (omega (arith, read.within, c.min-first.ensures, c.max_bytes.ensures.same))
    (λ few. read.ends (omega (arith, c.if-len-first.true, c.len.ensures)))

pub returns-in_err-judge_first-clause-refused : goal.returns-in_err-judge_first-clause-refused
returns-in_err-judge_first-clause-refused g c =
    let p = err_from_is_err_and c.from_residual-in_err-judge_first.result c.from_residual-in_err-judge_first.ensures.1 in
    let left = g.I.Input.left in
    let input = c.args.input.now in
    let read = c.in_ok-read_on.ensures in
    rw (p.1, p.2)
    (early_refuses left g.I.Input.is_steady input (full.bytes + 1) (IsUnfit c.args.pool.now c.args.message_type.0 c.args.path.now)
    c.read_on.new.bytes.items (left c.read_on.new.input) c.in_err-judge_first.field-0.0
    (read.taken (left input) (rw c.new-bytes.ensures.items (Consumes-nil (left input))))
    (omega (arith, read.within, c.min-first.ensures, c.max_bytes.ensures.same)) (rw c.as_slice.ensures.value at c.in_err-judge_first.ensures.refused))

pub returns-in_err-read_on-clause-refused : goal.returns-in_err-read_on-clause-refused
returns-in_err-read_on-clause-refused g c =
    let p = err_from_is_err_and c.from_residual.result c.from_residual.ensures.1 in
    rw (p.1, p.2)
    (stop_unfit g.I.Input.left g.I.Input.is_steady c.args.input.now c.args.pool.now c.args.message_type.0 c.args.path c.in_err-read_on.field-0.0
    c.in_err-read_on.ensures.refused)

pub returns-in_err-read_on-2-clause-refused : goal.returns-in_err-read_on-2-clause-refused
returns-in_err-read_on-2-clause-refused g c =
    let p = err_from_is_err_and c.from_residual-in_err-read_on-2.result c.from_residual-in_err-read_on-2.ensures.1 in
    rw (p.1, p.2)
    (stop_later g.I.Input.left g.I.Input.is_steady c.args.input.now c.args.pool.now c.args.message_type.0 c.read_on.new.input c.args.path
    c.in_err-read_on-2.field-0.0 c.in_ok-read_on.ensures.stays c.in_err-read_on-2.ensures.refused)

pub returns-clause-read : goal.returns-clause-read
returns-clause-read g c =
    let left = g.I.Input.left in
    let input = c.args.input.now in
    let read = c.in_ok-read_on.ensures in
    let more = c.in_ok-read_on-2.ensures in
    all_read left g.I.Input.is_steady input (full.bytes + 1) c.read_on-2.new.bytes.items (left c.read_on-2.new.input)
    (more.taken (left input) (read.taken (left input) (rw c.new-bytes.ensures.items (Consumes-nil (left input)))))
    (omega (arith, more.within, c.max_bytes.ensures.same)) (λ few. more.ends (omega (arith, few, c.max_bytes.ensures.same)))
