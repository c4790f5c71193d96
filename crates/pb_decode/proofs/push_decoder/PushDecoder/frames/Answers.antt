-- The open parts are reported, and nothing else is; they are at most two a level, and a list.
use Rattle.std.proofs.Common.{sym}
use Rattle.pb_decode.proofs.DecoderLemmas.{open_is, open_one, open_few}
use Rattle.pb_decode.proofs.push_decoder.PushDecoder.frames.Goals as goal

pub returns-in-Some-clause-open : goal.returns-in-Some-clause-open
returns-in-Some-clause-open c =
    rw (← c.self.view_is) (λ b after.
    open_is c.self.inside.reading c.in-Some.reading c.self.invariant (sym c.in-Some.is) b c.open_contexts.result c.open_contexts.ensures after)

pub returns-in-Some-clause-bound : goal.returns-in-Some-clause-bound
returns-in-Some-clause-bound c =
    rw (← c.self.view_is) (open_few c.self.inside.reading c.in-Some.reading c.self.invariant (sym c.in-Some.is) c.open_contexts.result c.open_contexts.ensures)

pub returns-in-Some-clause-one : goal.returns-in-Some-clause-one
returns-in-Some-clause-one c =
    rw (← c.self.view_is) (λ b j after there.
    open_one c.self.inside.reading c.in-Some.reading c.self.invariant (sym c.in-Some.is) b c.open_contexts.result c.open_contexts.ensures j after there)
