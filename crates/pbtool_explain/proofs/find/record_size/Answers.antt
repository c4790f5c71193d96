use Rattle.std.proofs.Common.{◌≡◌, ◌+◌, length, ap, arith}
use Rattle.pb_wire.specs.Fault.{Place}
use Rattle.pb_wire.specs.RecordIter.{seen}
use Rattle.pbtool_explain.proofs.FindLemmas.{join_passed, moves_within, value_shown}
use Rattle.pbtool_explain.proofs.find.record_size.Goals as goal

pub returns : goal.returns
returns c = λ at k q shows.
    let rest = c.args.rest.now in
    let h = value_shown (seen c.args.payload) shows in
    let mid = c.varint_size-tag.ensures at h.1 h.0 h.2 in
    let size = rw c.rest_at.ensures at c.value_size.ensures in
    let end = size (at + c.varint_size-tag.result) q (rw mid at h.3) in
    let small = moves_within at rest shows.front q shows.moves in
    let from : q.at ≡ at + length shows.front = shows.moves.at in
    let to : q.at ≡ at + c.varint_size-tag.result + c.value_size.result = ap (λ (z : Place). z.at) end in
    join_passed at c.varint_size-tag.result c.value_size.result c.saturating_add.result rest q end (omega (arith, c.saturating_add.ensures, small, from, to))
