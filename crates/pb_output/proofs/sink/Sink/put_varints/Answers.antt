use Rattle.std.proofs.Common.{refl}
use Rattle.pb_output.proofs.SinkLemmas.{puts_held, puts_then}
use Rattle.pb_output.proofs.sink.Sink.put_varints.Goals as goal

pub returns : goal.returns
returns g c =
    puts_then c.reserve.ensures.kept
    (puts_then (puts_held refl refl c.push_varint.ensures.after) (puts_held refl refl c.push_varint-2.ensures.after))
