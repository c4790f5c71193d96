use Rattle.std.proofs.Common.{ℕ, List, take}
use Rattle.pb_output.specs.Sink.{Puts}
use Rattle.pbtool_explain.specs.Steps.{Leads}
use Rattle.pbtool_explain.proofs.steps.put_steps.Given as goal

abbrev pub invariant-loop-step : goal.invariant-loop-step
invariant-loop-step g l =
    (lines : List ℕ) × Leads l.pool l.initial.inside l.given (take l.step-index l.path) l.inside l.at lines
    × Puts g.O.Output.written g.O.Output.failures l.initial.out l.out l.initial.sink l.sink lines
