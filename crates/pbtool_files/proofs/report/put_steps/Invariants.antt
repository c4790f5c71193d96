use Rattle.std.proofs.Common.{take}
use Rattle.pb_wire.specs.PathText.{dotted}
use Rattle.pb_output.specs.Sink.{Puts}
use Rattle.pbtool_files.proofs.report.put_steps.Given as goal

abbrev pub invariant-loop-step : goal.invariant-loop-step
invariant-loop-step g l =
    Puts g.O.Output.written g.O.Output.failures l.initial.out l.out l.initial.sink l.sink (dotted (take l.step-index l.steps))
