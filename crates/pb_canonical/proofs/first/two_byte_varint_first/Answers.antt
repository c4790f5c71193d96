use Rattle.std.proofs.Common.{arith, rules, ◌<◌}
use Rattle.std.specs.Prelude.{slice_index}
use Rattle.pb_canonical.proofs.ShortestVarints.{two_bytes}
use Rattle.pb_canonical.proofs.first.two_byte_varint_first.Goals as goal

pub returns : goal.returns
returns c =
    let fits = c.type_inv.bytes 0 in
    let byte : slice_index c.args.bytes.now 0 < 256 = search (rules, fits) in
    record {
      split = two_bytes c.args.bytes.now _ (omega (arith, c.if-bytes-lt2.false)) byte c.if-first-lt128.false c.if-second-ge128.false c.if-second-eq0.false
          (omega (arith, c.from.ensures, c.from-2.ensures));
      small = omega (arith, c.from.ensures, c.from-2.ensures, byte, c.if-second-ge128.false);
    }
