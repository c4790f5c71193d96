use Rattle.std.proofs.Common.{refl}
use Rattle.pb_output.proofs.SinkLemmas.{puts_held, puts_then}
use Rattle.pb_listing.proofs.messages.put_label.Goals as goal

pub returns : goal.returns
returns g c =
    let start = puts_then c.reserve.ensures.kept (puts_held refl refl c.push_indent.ensures.after) in
    let name = rw c.as_bytes.ensures.value at c.put.ensures in
    puts_then start (puts_then name c.put_bracketed.ensures)
