use Rattle.pb_output.proofs.SinkLemmas.{puts_then}
use Rattle.pb_text.proofs.lines.put_end.Goals as goal

pub returns : goal.returns
returns g c = puts_then (puts_then c.put_indent.ensures c.put.ensures) c.put_gap.ensures
