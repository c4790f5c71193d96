use Rattle.std.proofs.Common.{◌≡◌, ◌≤◌, ◌-◌, ◌%◌, length, take}
use Rattle.base64.specs.Engines.{standard}
use Rattle.base64.specs.GeneralPurpose.{encode_of}
use Rattle.pb_output.specs.Sink.{Puts}
use Rattle.pb_json.proofs.scalars.put_encoded.Given as goal

abbrev pub invariant-pieces : goal.invariant-pieces
invariant-pieces g l =
    (l.done ≤ length l.bytes) × (l.done % 3 ≡ 0)
    × Puts g.O.Output.written g.O.Output.failures l.initial.out l.out l.initial.sink l.sink (encode_of standard (take l.done l.bytes))

abbrev pub decreases-pieces : goal.decreases-pieces
decreases-pieces g l = length l.bytes - l.done
