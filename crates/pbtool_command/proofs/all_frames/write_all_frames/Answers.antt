use Rattle.std.proofs.Common.{inr, refl}
use Rattle.pb_input.specs.Buffered.{left_of, of_input}
use Rattle.pbtool_files.specs.Known.{OfInput}
use Rattle.pbtool_command.specs.AllFrames.{AllBegunBy, AllFramesBy}
use Rattle.pbtool_command.proofs.ReadFailures.{failed_input}
use Rattle.pbtool_command.proofs.AllStreams.{answer_cut, answer_sent, answer_unsent}
use Rattle.pbtool_command.proofs.all_frames.write_all_frames.Goals as goal

pub returns-in_default-clause-comes : goal.returns-in_default-clause-comes
returns-in_default-clause-comes g c =
    let known = OfInput (left_of g.I.Input.left) (of_input g.I.Input.is_steady) c.args.input.now in
    let stream = c.args.stream.now in
    answer_cut g.O.Output.written g.O.Output.failures (AllFramesBy known stream.form stream.path.now stream.pool.now stream.message_type.0)
    (AllBegunBy known stream.form stream.pool.now stream.message_type.0) c.in_default.field-0 c.put_all_frames-outcome.result _ refl c.new-sink.ensures
    c.put_all_frames-outcome.ensures.puts c.in_default.ensures

pub returns-clause-comes : goal.returns-clause-comes
returns-clause-comes g c =
    let known = OfInput (left_of g.I.Input.left) (of_input g.I.Input.is_steady) c.args.input.now in
    let stream = c.args.stream.now in
    answer_sent g.O.Output.written g.O.Output.failures (AllFramesBy known stream.form stream.path.now stream.pool.now stream.message_type.0)
    (AllBegunBy known stream.form stream.pool.now stream.message_type.0) _ _ _ c.put_all_frames-outcome.result
    c.new-sink.ensures c.put_all_frames-outcome.ensures.puts c.in-Ok.ensures

pub returns-in_default-clause-failed : goal.returns-in_default-clause-failed
returns-in_default-clause-failed g c = λ named.
    let known = OfInput (left_of g.I.Input.left) (of_input g.I.Input.is_steady) c.args.input.now in
    let stream = c.args.stream.now in
    inr (answer_unsent g.O.Output.written g.O.Output.failures (AllFramesBy known stream.form stream.path.now stream.pool.now stream.message_type.0)
    (AllBegunBy known stream.form stream.pool.now stream.message_type.0) c.in_default.field-0 c.put_all_frames-outcome.result c.new-sink.ensures
    c.put_all_frames-outcome.ensures.puts c.in_default.ensures)

pub returns-clause-failed : goal.returns-clause-failed
returns-clause-failed g c = failed_input _ _ c.put_all_frames-outcome.result c.put_all_frames-outcome.ensures.failed
