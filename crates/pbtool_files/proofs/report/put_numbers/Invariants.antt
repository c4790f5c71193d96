use Rattle.std.proofs.Common.{◌++◌, codes, decimal, take}
use Rattle.std.specs.List.{flat_map}
use Rattle.pb_output.specs.Sink.{Puts}
use Rattle.pbtool_files.proofs.report.put_numbers.Given as goal

abbrev pub invariant-loop-number : goal.invariant-loop-number
invariant-loop-number g l =
    Puts g.O.Output.written g.O.Output.failures l.initial.out l.out l.initial.sink l.sink (flat_map (λ k. codes "." ++ decimal k) (take l.number-index l.numbers))
