use Rattle.pb_decode.proofs.DecoderLemmas.{parts_of_pool}
use Rattle.pb_decode.proofs.push_decoder.PushDecoder.into_parts.Goals as goal

pub returns-clause-of_pool : goal.returns-clause-of_pool
returns-clause-of_pool c =
    rw (← c.self.view_is) (parts_of_pool c.self.inside.pool.now c.self.inside.kind.0 c.self.inside.limits c.self.inside.reading c.self.invariant)
