use Rattle.pb_output.proofs.SinkLemmas.{finished, puts_then}
use Rattle.pb_listing.proofs.Borrowing.{top_text}
use Rattle.pb_listing.proofs.shortest.write_shortest.Goals as goal

pub returns : goal.returns
returns g c = λ rs text. finished c.new-sink.ensures (puts_then (c.put_records.ensures rs (top_text text)) c.put.ensures) c.finish.ensures
