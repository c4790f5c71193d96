use Rattle.std.proofs.Common.{codes}
use Rattle.pb_output.proofs.SinkLemmas.{puts_then}
use Rattle.pb_text.proofs.LineLemmas.{two-parts}
use Rattle.pb_text.proofs.lines.put_start.Goals as goal

pub returns : goal.returns
returns g c =
    rw (two-parts c.args.layout c.args.level c.args.label.now (codes " {"))
    (puts_then (puts_then (puts_then c.put_indent.ensures c.put.ensures) c.put-2.ensures) c.put_gap.ensures)
