use Rattle.std.proofs.Common.{arith, ◌<◌}
use Rattle.pb_validate.proofs.VarintRuns.{varint_up_to, one_byte_varint, ninth, tenth}
use Rattle.pb_validate.proofs.varints.varint_end.Goals as goal

pub returns-then-bytes-at-lt128-clause-ok : goal.returns-then-bytes-at-lt128-clause-ok
returns-then-bytes-at-lt128-clause-ok c = one_byte_varint c.args.bytes.now c.args.at c.if-at-bytes.true c.if-bytes-at-lt128.true

pub returns-then-last-ne0-clause-ok : goal.returns-then-last-ne0-clause-ok
returns-then-last-ne0-clause-ok c =
    let some : 0 < c.last_bytes-last.result = omega (arith, c.if-last-ne0.true) in
    let first = c.last_bytes-last.ensures.lowest some in
    varint_up_to c.args.bytes.now c.args.at _ (omega (arith, c.if-bytes-at-lt10.false, first.0)) (omega (arith, first.0)) first.1.before (first.1.hit (omega (arith, first.0)))

pub returns-then-bytes-at-lt128-2-clause-ok : goal.returns-then-bytes-at-lt128-2-clause-ok
returns-then-bytes-at-lt128-2-clause-ok c =
    ninth c.args.bytes.now c.args.at (omega (arith, c.if-bytes-at-lt10.false)) (c.last_bytes-last.ensures.none (omega (arith, c.if-last-ne0.false))) c.if-bytes-at-lt128-2.true

pub returns-then-bytes-at-lt128-3-clause-ok : goal.returns-then-bytes-at-lt128-3-clause-ok
returns-then-bytes-at-lt128-3-clause-ok c =
    tenth c.args.bytes.now c.args.at (omega (arith, c.if-bytes-at-lt10.false)) (c.last_bytes-last.ensures.none (omega (arith, c.if-last-ne0.false)))
    (omega (arith, c.if-bytes-at-lt128-2.false)) c.if-bytes-at-lt128-3.true
