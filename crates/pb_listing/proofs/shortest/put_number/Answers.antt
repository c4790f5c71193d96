use Rattle.std.proofs.Common.{refl}
use Rattle.pb_output.proofs.SinkLemmas.{puts_held, puts_then}
use Rattle.pb_wire.proofs.VarintLemmas.{shortest-last}
use Rattle.pb_listing.proofs.shortest.put_number.Goals as goal

pub returns-then-number-lt128 : goal.returns-then-number-lt128
returns-then-number-lt128 g c =
    rw (shortest-last c.args.number c.if-number-lt128.true) (puts_then c.reserve.ensures.kept (puts_held refl refl c.push_hex_byte.ensures.after))

pub returns-else-number-lt128 : goal.returns-else-number-lt128
returns-else-number-lt128 g c =
    puts_then c.reserve.ensures.kept (puts_held refl refl (rw (c.as_slice.ensures, c.put_varint.ensures.shortest) at c.push_hex.ensures.after))
