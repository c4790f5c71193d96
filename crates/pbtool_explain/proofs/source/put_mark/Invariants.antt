use Rattle.std.proofs.Common.{take}
use Rattle.std.specs.List.{flat_map}
use Rattle.pb_output.specs.Sink.{Puts}
use Rattle.pbtool_explain.specs.Source.{blank}
use Rattle.pbtool_explain.proofs.source.put_mark.Given as goal

abbrev pub invariant-loop-byte : goal.invariant-loop-byte
invariant-loop-byte g l =
    Puts g.O.Output.written g.O.Output.failures l.initial.out l.out l.initial.sink l.sink (flat_map blank (take l.byte-index l.before))
