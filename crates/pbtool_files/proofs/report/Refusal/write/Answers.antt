use Rattle.pb_output.proofs.SinkLemmas.{finished}
use Rattle.pbtool_files.proofs.report.Refusal.write.Goals as goal

pub returns : goal.returns
returns g c = finished c.new-sink.ensures c.put_refusal.ensures c.finish.ensures
