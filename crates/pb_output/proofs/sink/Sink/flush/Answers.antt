use Rattle.std.proofs.Common.{refl}
use Rattle.pb_output.proofs.SinkLemmas.{puts_dropped}
use Rattle.pb_output.proofs.sink.Sink.flush.Goals as goal

pub returns-then-self-clause-puts : goal.returns-then-self-clause-puts
returns-then-self-clause-puts g c = puts_dropped refl c.if-self.true c.if-self.true
