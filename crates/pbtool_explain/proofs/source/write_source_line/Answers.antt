use Rattle.pb_listing.proofs.MeantLemmas.{finished_some}
use Rattle.pbtool_explain.proofs.source.write_source_line.Goals as goal

pub returns : goal.returns
returns g c = finished_some c.finish.result c.new-sink.ensures c.put_source_line.ensures c.finish.ensures
