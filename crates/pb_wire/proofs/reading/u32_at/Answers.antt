use Rattle.std.proofs.Common.{◌≡◌, sym}
use Rattle.std.specs.Int.{w32, to_le_bytes}
use Rattle.std.proofs.lemmas.Nat.{le_bytes_4}
use Rattle.pb_wire.proofs.FixedLemmas.{front_bytes, length-front, moves_front}
use Rattle.pb_wire.proofs.reading.u32_at.Goals as goal

pub returns-clause-ok : goal.returns-clause-ok
returns-clause-ok c =
    let chunk = c.in-Some.ensures.cases in
    let spelled : to_le_bytes w32 c.from_le_bytes.result ≡ c.in-Some.front.now =
    le_bytes_4 c.in-Some.front.now c.from_le_bytes.result (length-front _ c.args.at c.requires 4 _ chunk)
    (front_bytes c.args.bytes.now c.args.at c.requires 4 _ chunk (λ i. (c.type_inv.bytes i).fits)) c.from_le_bytes.ensures in
    (c.in-Some.front.now, sym spelled, moves_front _ c.args.at c.requires 4 _ chunk)
