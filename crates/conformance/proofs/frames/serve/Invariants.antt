use Rattle.conformance.proofs.FrameLemmas.{HasServed}
use Rattle.conformance.proofs.frames.serve.Given as goal

abbrev pub invariant-loop : goal.invariant-loop
invariant-loop g l =
    HasServed l.testee.pool.now l.testee.request.0 l.testee.response.0 (g.I.Input.left l.initial.input) (g.I.Input.left l.input)
    (g.O.Output.written l.initial.output) (g.O.Output.written l.output)
