use Rattle.std.proofs.Common.{rules, ◌≤◌, arith}
use Rattle.pb_output.proofs.HexParts.{encode_lower-nil, encode_lower-parts, encode_lower-take}
use Rattle.pb_output.proofs.SinkLemmas.{puts_lost, puts_none, puts_then}
use Rattle.pb_output.proofs.sink.Sink.put_hex.Goals as goal

pub chunks-init : goal.chunks-init
chunks-init g c = record { in_range = search rules; put = rw encode_lower-nil puts_none }

pub chunks-preserved : goal.chunks-preserved
chunks-preserved g c =
    let below : c.chunks.done ≤ c.min-end.result = omega arith in record {
      in_range = search rules;
      put = rw (encode_lower-take c.chunks.done c.min-end.result c.args.bytes.now below) (puts_then c.chunks.invariant.put c.put_chunk.ensures);
    }

pub returns-then-self : goal.returns-then-self
returns-then-self g c = rw (encode_lower-parts c.chunks.done c.args.bytes.now) (puts_then c.chunks.invariant.put (puts_lost c.if-self.true))
