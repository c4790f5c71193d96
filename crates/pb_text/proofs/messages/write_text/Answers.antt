use Rattle.pb_listing.proofs.MeantLemmas.{finished_some}
use Rattle.pb_text.proofs.messages.write_text.Goals as goal

pub returns : goal.returns
returns g c = finished_some c.finish.result c.new-sink.ensures c.put_text.ensures c.finish.ensures
