use Rattle.pb_output.proofs.SinkLemmas.{puts_then}
use Rattle.pb_output.proofs.sink.Sink.put.Goals as goal

pub returns : goal.returns
returns g c = puts_then c.flush.ensures.puts c.put_first.ensures
