use Rattle.std.proofs.Common.{◌≡◌}
use Rattle.pb_input.specs.Buffered.{left_of, of_input}
use Rattle.pbtool_command.proofs.Streams.{IsStreaming}
use Rattle.pbtool_command.proofs.frames.put_frames.Given as goal

abbrev pub invariant-loop-index : goal.invariant-loop-index
invariant-loop-index g l =
    IsStreaming g.O.Output.written g.O.Output.failures (left_of g.I.Input.left) (of_input g.I.Input.is_steady) l.form l.initial.out l.out l.initial.sink l.sink l.initial.reader l.reader l.index
    × (of_input g.I.Input.failures l.reader.input ≡ of_input g.I.Input.failures l.initial.reader.input)
