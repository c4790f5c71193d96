use Rattle.std.proofs.Common.{take}
use Rattle.std.specs.List.{flat_map}
use Rattle.pb_text.specs.Strings.{string_byte}
use Rattle.pb_output.specs.Sink.{Puts}
use Rattle.pb_text.proofs.strings.put_string_bytes.Given as goal

abbrev pub invariant-loop-byte : goal.invariant-loop-byte
invariant-loop-byte g l =
    Puts g.O.Output.written g.O.Output.failures l.initial.out l.out l.initial.sink l.sink (flat_map (string_byte l.characters) (take l.byte-index l.bytes))
