use Rattle.std.proofs.Common.{take}
use Rattle.std.specs.List.{flat_map}
use Rattle.pb_descr_message.specs.Omitted.{omitted_view}
use Rattle.pb_output.specs.Sink.{Puts}
use Rattle.pbtool_command.specs.TypesAnswer.{omitted_line}
use Rattle.pbtool_command.proofs.types.put_omitted.Given as goal

abbrev pub invariant-loop-part : goal.invariant-loop-part
invariant-loop-part g l =
    Puts g.O.Output.written g.O.Output.failures l.initial.out l.out l.initial.sink l.sink (flat_map (λ o. omitted_line l.pool (omitted_view o)) (take l.part-index l.omitted))
