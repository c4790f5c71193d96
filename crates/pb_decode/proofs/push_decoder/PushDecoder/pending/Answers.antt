-- What is held is reported, and nothing else is; it is little.
use Rattle.std.proofs.Common.{sym, arith}
use Rattle.pb_decode.proofs.DecoderLemmas.{pending_is, pending_one, pending_few, one_declared}
use Rattle.pb_decode.proofs.push_decoder.PushDecoder.pending.Goals as goal

pub returns-in-Some-clause-held : goal.returns-in-Some-clause-held
returns-in-Some-clause-held c =
    rw (← c.self.view_is) (λ b after.
    pending_is c.self.inside.reading c.in-Some.reading c.self.invariant (sym c.in-Some.is) b c.len.result (omega arith) after)

pub returns-in-Some-clause-bound : goal.returns-in-Some-clause-bound
returns-in-Some-clause-bound c =
    rw (← c.self.view_is) (λ b after.
    pending_few c.self.inside.reading c.in-Some.reading c.self.invariant (sym c.in-Some.is) b c.len.result (omega arith) after)

pub returns-in-Some-clause-one : goal.returns-in-Some-clause-one
returns-in-Some-clause-one c =
    rw (← c.self.view_is) (λ b n after pending.
    pending_one c.self.inside.reading c.in-Some.reading c.self.invariant (sym c.in-Some.is) b c.len.result (omega arith) n after pending)

pub returns-in-Some-clause-one_bound : goal.returns-in-Some-clause-one_bound
returns-in-Some-clause-one_bound c = λ b n k there here. one_declared there here

pub returns-in-None-clause-one_bound : goal.returns-in-None-clause-one_bound
returns-in-None-clause-one_bound c = λ b n k there here. one_declared there here
