use Rattle.pb_output.proofs.SinkLemmas.{finished, puts_then}
use Rattle.pbtool_command.proofs.types.write_set_listing.Goals as goal

pub returns : goal.returns
returns g c = finished c.new-sink.ensures (puts_then c.put_types.ensures (rw c.deref.ensures.value at c.put_omitted.ensures)) c.finish.ensures
