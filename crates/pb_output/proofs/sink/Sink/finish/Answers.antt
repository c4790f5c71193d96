use Rattle.std.proofs.Common.{append-nil}
use Rattle.pb_output.proofs.SinkLemmas.{carried_in_part, carried_whole}
use Rattle.pb_output.proofs.sink.Sink.finish.Goals as goal

pub returns-then-self : goal.returns-then-self
returns-then-self g c = record { well = tt; answers = λ start text carried. carried_in_part carried c.if-self.true }

pub returns-then-self-2 : goal.returns-then-self-2
returns-then-self-2 g c = record {
  well = tt;
  answers = λ start text carried. carried_in_part (rw append-nil at (c.flush.ensures.puts.follow start text carried)) c.if-self-2.true;
}

pub returns-else-self-2 : goal.returns-else-self-2
returns-else-self-2 g c = record {
  well = c.if-self.false;
  answers = λ start text carried. carried_whole (rw append-nil at (c.flush.ensures.puts.follow start text carried)) c.if-self-2.false c.flush.ensures.empty;
}
