use Rattle.std.proofs.Common.{take}
use Rattle.pb_output.specs.Sink.{Puts}
use Rattle.pbtool_explain.specs.Window.{hex_words}
use Rattle.pbtool_explain.proofs.window.put_hex_words.Given as goal

abbrev pub invariant-loop-byte : goal.invariant-loop-byte
invariant-loop-byte g l =
    Puts g.O.Output.written g.O.Output.failures l.initial.out l.out l.initial.sink l.sink (hex_words (take l.byte-index l.bytes))
