use Rattle.pb_output.proofs.SinkLemmas.{puts_then}
use Rattle.pbtool_explain.proofs.steps.put_step.Goals as goal

pub returns : goal.returns
returns g c = puts_then (puts_then c.put_step_text.ensures c.put_label.ensures) c.put_span.ensures
