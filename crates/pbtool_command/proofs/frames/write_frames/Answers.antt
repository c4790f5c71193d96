use Rattle.std.proofs.Common.{inl, inr, refl}
use Rattle.pb_input.specs.Buffered.{left_of, of_input}
use Rattle.pbtool_command.proofs.Commands.{stream_cut, stream_ended, stream_stopped, stream_unsent}
use Rattle.pbtool_command.proofs.frames.write_frames.Goals as goal

pub returns-in_default-clause-comes : goal.returns-in_default-clause-comes
returns-in_default-clause-comes g c =
    stream_cut g.O.Output.written g.O.Output.failures (left_of g.I.Input.left) (of_input g.I.Input.is_steady) c.args.reader.now.input c.args.form c.args.path.now c.args.reader.now.pool
    c.args.reader.now.kind c.in_default.field-0 c.put_frames-stop.result _ refl c.new-sink.ensures c.put_frames-stop.ensures.puts c.in_default.ensures

pub returns-in-None-clause-comes : goal.returns-in-None-clause-comes
returns-in-None-clause-comes g c =
    stream_ended g.O.Output.written g.O.Output.failures (left_of g.I.Input.left) (of_input g.I.Input.is_steady) c.args.reader.now.input c.args.form c.args.path.now
    c.args.reader.now.pool c.args.reader.now.kind c.new-sink.ensures (rw c.in-None.is at c.put_frames-stop.ensures.puts) c.in-Ok.ensures

pub returns-in-Some-clause-comes : goal.returns-in-Some-clause-comes
returns-in-Some-clause-comes g c =
    stream_stopped g.O.Output.written g.O.Output.failures (left_of g.I.Input.left) (of_input g.I.Input.is_steady) c.args.reader.now.input c.args.form c.args.path.now
    c.args.reader.now.pool c.args.reader.now.kind c.in-Some.refusal c.new-sink.ensures (rw c.in-Some.is at c.put_frames-stop.ensures.puts) c.in-Ok.ensures

pub returns-in_default-clause-failed : goal.returns-in_default-clause-failed
returns-in_default-clause-failed g c = λ named.
    inr (stream_unsent g.O.Output.written g.O.Output.failures (left_of g.I.Input.left) (of_input g.I.Input.is_steady) c.args.reader.now.input c.args.form c.args.path.now
    c.args.reader.now.pool c.args.reader.now.kind c.in_default.field-0 c.put_frames-stop.result c.new-sink.ensures c.put_frames-stop.ensures.puts
    c.in_default.ensures)

pub returns-in-None-clause-kept : goal.returns-in-None-clause-kept
returns-in-None-clause-kept g c = rw c.in-None.is at c.put_frames-stop.ensures.reads

pub returns-in-Some-clause-kept : goal.returns-in-Some-clause-kept
returns-in-Some-clause-kept g c = let counts = rw c.in-Some.is at c.put_frames-stop.ensures.reads in counts.0

pub returns-in-Some-clause-failed : goal.returns-in-Some-clause-failed
returns-in-Some-clause-failed g c = λ named. let counts = rw c.in-Some.is at c.put_frames-stop.ensures.reads in inl (counts.1 named)
