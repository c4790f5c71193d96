use Rattle.pb_output.proofs.SinkLemmas.{finished}
use Rattle.pb_listing.proofs.types.write_types.Goals as goal

pub returns : goal.returns
returns g c = finished c.new-sink.ensures c.put_types.ensures c.finish.ensures
