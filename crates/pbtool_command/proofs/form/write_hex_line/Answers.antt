use Rattle.pb_output.proofs.SinkLemmas.{finished, puts_then}
use Rattle.pbtool_command.proofs.form.write_hex_line.Goals as goal

pub returns : goal.returns
returns g c = finished c.new-sink.ensures (puts_then c.put_hex.ensures c.put.ensures) c.finish.ensures
