use Rattle.pb_output.proofs.SinkLemmas.{finished}
use Rattle.pbtool_command.proofs.types.write_enum_type.Goals as goal

pub returns : goal.returns
returns g c = finished c.new-sink.ensures c.put_enum_type.ensures c.finish.ensures
