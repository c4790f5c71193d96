use Rattle.std.proofs.Common.{◌++◌, codes, refl}
use Rattle.pb_output.proofs.SinkLemmas.{puts_then}
use Rattle.pb_text.specs.Lines.{item}
use Rattle.pb_text.proofs.LineLemmas.{three-parts}
use Rattle.pb_text.proofs.messages.put_scalar_line.Goals as goal

pub returns : goal.returns
returns g c =
    let layout = c.args.context.now.form.layout in
    let label = c.args.label.now in
    let value = c.put_scalar.ensures in (
      item layout c.args.level (label ++ codes ": " ++ value.0),
      (value.0, refl, value.1),
      rw (three-parts layout c.args.level label (codes ": ") value.0)
          (puts_then (puts_then (puts_then (puts_then c.put_indent.ensures c.put.ensures) c.put-2.ensures) value.2) c.put_gap.ensures),
    )
