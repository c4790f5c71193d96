use Rattle.std.proofs.Common.{append_assoc, refl}
use Rattle.pb_output.proofs.SinkLemmas.{puts_held, puts_then}
use Rattle.pbtool_files.proofs.report.put_step.Goals as goal

pub returns : goal.returns
returns g c =
    puts_then c.reserve.ensures.kept
    (puts_held refl refl
    (rw (c.push-3.ensures.after, c.push_decimal-2.ensures.after, c.push-2.ensures.after, c.push_decimal.ensures.after, c.push.ensures.after, c.from.ensures, c.from-2.ensures)
    (simp append_assoc)))
