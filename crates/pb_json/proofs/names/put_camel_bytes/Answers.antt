use Rattle.std.proofs.Common.{[], refl}
use Rattle.pb_json.proofs.NameLemmas.{letter_next, letters_joined}
use Rattle.pb_output.proofs.SinkLemmas.{puts_none, puts_then}
use Rattle.pb_json.proofs.names.put_camel_bytes.Goals as goal

pub loop-byte-init : goal.loop-byte-init
loop-byte-init g c = ([], refl, puts_none)

pub loop-byte-preserved : goal.loop-byte-preserved
loop-byte-preserved g c =
    let before = c.loop-byte.invariant in
    let next = letter_next c.loop-byte.raised c.args.name.now c.loop-byte.byte-index c.loop-byte-test.true in
    (_, rw c.put_camel_byte-raised.ensures.underscore (letters_joined before.0 _ _ _ _ before.1 next), puts_then before.2 c.put_camel_byte-raised.ensures.puts)
