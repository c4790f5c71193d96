use Rattle.std.proofs.Common.{◌+◌, ◌≤◌, length, ◌<◌, arith}
use Rattle.pb_wire.proofs.VarintLemmas.{not_high, one_varint, varint_ends, value_more, high-push}
use Rattle.std.proofs.lemmas.List.{take_more, length-take-le}
use Rattle.pb_wire.proofs.varint.long_varint.Goals as goal

pub returns-then-i-bytes-clause-only : goal.returns-then-i-bytes-clause-only
returns-then-i-bytes-clause-only c = λ n size in' found.
    absurd (not_high c.args.bytes.now size c.loop-i.i (omega arith) in' found.ends c.loop-i.invariant.2)

pub returns-then-byte-lt128-clause-found : goal.returns-then-byte-lt128-clause-found
returns-then-byte-lt128-clause-found c =
    varint_ends c.args.bytes.now _ c.loop-i.i _ (omega arith) c.loop-i-test.true c.loop-i.invariant.1 c.from.ensures c.loop-i.invariant.2 c.if-byte-lt128.true

pub returns-then-byte-lt128-clause-only : goal.returns-then-byte-lt128-clause-only
returns-then-byte-lt128-clause-only c = λ n size in' found.
    let same = one_varint c.args.bytes.now _ n (c.loop-i.i + 1) size (omega arith) in'
    (varint_ends c.args.bytes.now c.loop-i.value c.loop-i.i c.from.result (omega arith) c.loop-i-test.true c.loop-i.invariant.1 c.from.ensures c.loop-i.invariant.2 c.if-byte-lt128.true)
    found in
    cc

pub loop-i-preserved : goal.loop-i-preserved
loop-i-preserved c =
    let in' : c.loop-i.i < length c.args.bytes.now = omega arith in (
      omega arith,
      value_more c.args.bytes.now _ c.loop-i.i _ in' c.loop-i-test.true c.loop-i.invariant.1 c.from.ensures,
      rw (take_more c.args.bytes.now c.loop-i.i 0 in') (high-push _ _ c.loop-i.invariant.2 c.if-byte-lt128.false),
    )

pub returns-clause-only : goal.returns-clause-only
returns-clause-only c = λ n size in' found.
    absurd (not_high c.args.bytes.now size c.loop-i.i
    (let h : size ≤ 10 = rw (length-take-le size c.args.bytes.now in') at found.size in omega arith) in' found.ends c.loop-i.invariant.2)
