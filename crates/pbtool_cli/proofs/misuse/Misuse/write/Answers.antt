use Rattle.pb_output.proofs.SinkLemmas.{finished}
use Rattle.pbtool_cli.proofs.misuse.Misuse.write.Goals as goal

pub returns : goal.returns
returns g c = finished c.new-sink.ensures c.put.ensures c.finish.ensures
