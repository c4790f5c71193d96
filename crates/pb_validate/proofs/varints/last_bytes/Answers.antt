use Rattle.std.proofs.Common.{◌≡◌, subst, sym, ap, rules}
use Rattle.std.specs.Slice.Scan.{Flags, little_endian}
use Rattle.pb_validate.specs.Whole.{ends_varint}
use Rattle.pb_validate.proofs.WordBits.{turned, last_flags}
use Rattle.pb_validate.proofs.varints.last_bytes.Goals as goal

pub returns : goal.returns
returns c =
    let word : c.from_le_bytes-word.result ≡ little_endian c.args.bytes.now c.args.at = search rules in
    subst (Flags (ends_varint c.args.bytes.now) c.args.at) (ap turned (sym word))
    (last_flags c.args.bytes.now c.args.at (λ k. (c.type_inv.bytes k).fits))
