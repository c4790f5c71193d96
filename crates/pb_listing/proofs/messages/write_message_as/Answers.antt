use Rattle.pb_listing.proofs.MeantLemmas.{finished_some}
use Rattle.pb_listing.proofs.messages.write_message_as.Goals as goal

pub returns : goal.returns
returns g c = finished_some c.finish.result c.new-sink.ensures c.put_listing_as.ensures c.finish.ensures
