use Rattle.std.proofs.Common.{◌++◌, codes, refl}
use Rattle.pb_output.proofs.SinkLemmas.{puts_then}
use Rattle.pb_text.specs.Lines.{item}
use Rattle.pb_text.proofs.LineLemmas.{two-parts}
use Rattle.pb_text.proofs.messages.put_key_line.Goals as goal

pub returns : goal.returns
returns g c =
    let layout = c.args.context.now.form.layout in
    let value = c.put_key.ensures in (
      item layout c.args.level (codes "key: " ++ value.0),
      (value.0, refl, value.1),
      rw (two-parts layout c.args.level (codes "key: ") value.0)
          (puts_then (puts_then (puts_then c.put_indent.ensures c.put.ensures) value.2) c.put_gap.ensures),
    )
