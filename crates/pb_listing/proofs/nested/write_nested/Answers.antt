use Rattle.pb_listing.proofs.Borrowing.{top_text}
use Rattle.pb_listing.proofs.MeantLemmas.{finished_some}
use Rattle.pb_listing.proofs.nested.write_nested.Goals as goal

pub returns : goal.returns
returns g c = λ rs text. finished_some c.finish.result c.new-sink.ensures (c.put_nested.ensures rs (top_text text)) c.finish.ensures
