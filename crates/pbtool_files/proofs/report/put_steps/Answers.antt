use Rattle.std.proofs.Common.{◌∙◌, sym}
use Rattle.pb_output.proofs.SinkLemmas.{puts_lost, puts_then}
use Rattle.pbtool_files.proofs.Paths.{dotted-more, dotted-parts, no_step}
use Rattle.pbtool_files.proofs.report.put_steps.Goals as goal

pub loop-step-preserved : goal.loop-step-preserved
loop-step-preserved g c =
    rw (dotted-more c.loop-step.step-index c.args.steps.now no_step c.loop-step-test.true) (puts_then c.loop-step.invariant c.put_step.ensures)

pub returns-then-has_failed : goal.returns-then-has_failed
returns-then-has_failed g c =
    rw (dotted-parts c.loop-step.step-index c.args.steps.now) (puts_then c.loop-step.invariant (puts_lost (sym c.has_failed.ensures ∙ c.if-has_failed.true)))
