use Rattle.std.proofs.Common.{refl}
use Rattle.pb_wire.proofs.VarintLemmas.{one_varint}
use Rattle.pb_wire.proofs.varint.varint_at_front.Goals as goal

pub returns-in-Some-clause-only : goal.returns-in-Some-clause-only
returns-in-Some-clause-only c = λ n size in' found.
    let same = one_varint c.args.bytes.now c.in-Some.number n c.in-Some.size size c.in-Some.ensures.within in' c.in-Some.ensures.found found in
    rw (same.0, same.1) refl
