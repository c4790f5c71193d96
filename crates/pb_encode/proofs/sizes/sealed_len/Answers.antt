use Rattle.std.proofs.Common.{◌+◌, ◌*◌, length, arith}
use Rattle.pb_wire.specs.Varint.{shortest}
use Rattle.pb_encode.proofs.SizeLemmas.{sealed_size}
use Rattle.pb_encode.proofs.sizes.sealed_len.Goals as goal

pub returns : goal.returns
returns c = λ n h.
    let tag = c.tag_len.ensures.len 2 (omega arith) in
    let whole = sealed_size (length (shortest (8 * c.args.number + 2))) n c.args.size h in omega (arith, tag, whole, c.varint_len.ensures.len, c.saturating_add.ensures)
