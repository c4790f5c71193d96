use Rattle.pb_listing.proofs.Lines.{shown_bytes-some}
use Rattle.pb_output.proofs.SinkLemmas.{puts_then}
use Rattle.pb_listing.proofs.records.put_shown_bytes.Goals as goal

pub returns : goal.returns
returns g c =
    rw (shown_bytes-some c.args.bytes.now c.if-is_empty.ensures) (puts_then c.put.ensures c.put_hex.ensures)
