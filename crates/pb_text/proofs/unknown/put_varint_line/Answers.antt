use Rattle.std.proofs.Common.{codes, decimal}
use Rattle.pb_output.proofs.SinkLemmas.{puts_then}
use Rattle.pb_text.proofs.LineLemmas.{three-parts}
use Rattle.pb_text.proofs.unknown.put_varint_line.Goals as goal

pub returns : goal.returns
returns g c =
    rw (three-parts c.args.layout c.args.level (decimal c.args.number) (codes ": ") (decimal c.args.value))
    (puts_then (puts_then (puts_then (puts_then c.put_indent.ensures c.put_number.ensures) c.put.ensures) c.put_natural.ensures) c.put_gap.ensures)
