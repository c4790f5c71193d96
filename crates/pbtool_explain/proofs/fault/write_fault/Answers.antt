use Rattle.pb_listing.proofs.MeantLemmas.{finished_some}
use Rattle.pbtool_explain.proofs.fault.write_fault.Goals as goal

pub returns : goal.returns
returns g c = finished_some c.finish.result c.new-sink.ensures c.put_fault.ensures c.finish.ensures
