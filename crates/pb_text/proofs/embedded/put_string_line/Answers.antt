use Rattle.std.proofs.Common.{codes, decimal}
use Rattle.pb_output.proofs.SinkLemmas.{puts_then}
use Rattle.pb_text.specs.Strings.{escaped}
use Rattle.pb_text.proofs.LineLemmas.{three-parts}
use Rattle.pb_text.proofs.embedded.put_string_line.Goals as goal

pub returns : goal.returns
returns g c =
    rw (three-parts c.args.layout c.args.level (decimal c.args.number) (codes ": ") (escaped c.args.bytes.now))
    (puts_then (puts_then (puts_then (puts_then c.put_indent.ensures c.put_number.ensures) c.put.ensures) c.put_quoted.ensures) c.put_gap.ensures)
