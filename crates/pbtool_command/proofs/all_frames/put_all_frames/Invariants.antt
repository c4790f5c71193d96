use Rattle.std.proofs.Common.{◌≡◌}
use Rattle.pb_input.specs.Buffered.{left_of, of_input}
use Rattle.pbtool_command.specs.PassingOn.{IsGoing}
use Rattle.pbtool_command.proofs.all_frames.put_all_frames.Given as goal

abbrev pub invariant-loop-index : goal.invariant-loop-index
invariant-loop-index g l =
    let stream = l.stream in
    IsGoing g.O.Output.written g.O.Output.failures (left_of g.I.Input.left) (of_input g.I.Input.is_steady) l.initial.out l.out l.initial.sink l.sink l.initial.input l.input
    stream.form stream.pool.now stream.message_type.0 l.index l.progress
    × (of_input g.I.Input.failures l.input ≡ of_input g.I.Input.failures l.initial.input)
