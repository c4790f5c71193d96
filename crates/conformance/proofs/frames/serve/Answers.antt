use Rattle.conformance.proofs.FrameLemmas.{served_more, served_none}
use Rattle.conformance.proofs.frames.serve.Goals as goal

pub loop-init : goal.loop-init
loop-init g c = served_none _ _ _ (g.I.Input.left c.args.input.now) (g.O.Output.written c.args.output.now)

pub loop-preserved : goal.loop-preserved
loop-preserved g c =
    let begins = rw c.in-Some.is at c.in_ok-request.ensures.frame in
    let answered = rw c.deref.ensures.value at c.in_ok-response.ensures.answered in
    let wrote = rw c.deref-in-loop.ensures.value at c.in_ok-write_frame.ensures in
    served_more _ _ _ (g.I.Input.left c.args.input.now) (g.I.Input.left c.loop.input) (g.I.Input.left c.read_frame.new.input)
    (g.O.Output.written c.args.output.now) (g.O.Output.written c.loop.output) (g.O.Output.written c.write_frame.new.output)
    c.in-Some.request.items c.in_ok-response.response.items c.loop.invariant begins answered wrote
