-- At the end of the shorter of the two the buffer is as wanted.
use Rattle.std.proofs.Common.{arith}
use Rattle.pb_c_answers.specs.Reporting.{told_step}
use Rattle.pb_c_answers.proofs.Laid.{laid}
use Rattle.pb_c_answers.proofs.reporting.lay_path.Goals as goal

pub returns : goal.returns
returns c =
    laid told_step c.args.path.now c.args.buffer.now c.loop-i.buffer c.loop-i.i
    (omega (arith, c.min-size.ensures, c.loop-i.auto.i-end, c.loop-i-test.false))
    c.loop-i.invariant.long c.loop-i.invariant.laid c.loop-i.invariant.rest
