use Rattle.std.proofs.Common.{[], ◌++◌, Option, get_or, refl, ap}
use Rattle.std.proofs.lemmas.List.{take_all, take_more}
use Rattle.pb_output.proofs.SinkLemmas.{puts_none, puts_then}
use Rattle.pbtool_explain.specs.Steps.{further, nowhere, step_line}
use Rattle.pbtool_explain.specs.declared.steps.Span.{Span}
use Rattle.pbtool_explain.proofs.StepLemmas.{no_step}
use Rattle.pbtool_explain.proofs.steps.put_steps.Goals as goal

pub loop-step-init : goal.loop-step-init
loop-step-init g c = ([], nowhere refl refl refl refl, puts_none)

pub loop-step-preserved : goal.loop-step-preserved
loop-step-preserved g c =
    let so_far = c.loop-step.invariant in
    let step = get_or c.args.path.now c.loop-step.step-index no_step in (
      so_far.0 ++ step_line c.args.pool.now c.loop-step.inside step c.find_span.result,
      further step c.find_at-found.result so_far.1 c.find_at-found.ensures (take_more c.args.path.now c.loop-step.step-index no_step c.loop-step-test.true)
          c.enter-inside.ensures c.payload_of-at.ensures
          (ap (λ (z : Option Span). so_far.0 ++ step_line c.args.pool.now c.loop-step.inside step z) c.find_span.ensures),
      puts_then so_far.2 c.put_step.ensures,
    )

pub returns : goal.returns
returns g c =
    let all = rw (take_all c.loop-step.step-index c.args.path.now c.loop-step-test.false) at c.loop-step.invariant in
    (all.0, (c.loop-step.inside, c.loop-step.at, all.1), all.2)
