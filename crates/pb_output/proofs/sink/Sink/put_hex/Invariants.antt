use Rattle.std.proofs.Common.{◌≤◌, ◌-◌, length, take}
use Rattle.hex.specs.Hex.{encode_lower}
use Rattle.pb_output.specs.Sink.{Puts}
use Rattle.pb_output.proofs.sink.Sink.put_hex.Given as goal

abbrev pub invariant-chunks : goal.invariant-chunks
invariant-chunks g l = record {
  in_range : l.done ≤ length l.bytes;
  put : Puts g.O.Output.written g.O.Output.failures l.initial.out l.out l.initial.self l.self (encode_lower (take l.done l.bytes));
}

abbrev pub decreases-chunks : goal.decreases-chunks
decreases-chunks g l = length l.bytes - l.done
