use Rattle.pb_output.proofs.SinkLemmas.{finished}
use Rattle.pbtool_command.proofs.types.write_message_type.Goals as goal

pub returns : goal.returns
returns g c = finished c.new-sink.ensures c.put_message_type.ensures c.finish.ensures
