use Rattle.pb_output.proofs.SinkLemmas.{finished}
use Rattle.pb_listing.proofs.Borrowing.{top_text}
use Rattle.pb_listing.proofs.records.write_listing.Goals as goal

pub returns : goal.returns
returns g c = λ rs text. finished c.new-sink.ensures (c.put_listing.ensures rs (top_text text)) c.finish.ensures
