-- The bytes that are counted are those of the decoder that is owned.
use Rattle.std.proofs.Common.{◌≡◌}
use Rattle.pb_c_answers.proofs.decoder.answering.count.Goals as goal

pub returns-clause-counted : goal.returns-clause-counted
returns-clause-counted c =
    let pool = c.deref.ensures in let same : c.deref.result.now ≡ c.own.inside.pool.value = cc in
    rw (← c.own.view_is) (record {
      pending = rw same at c.pending.ensures.held;
      one = rw same at c.pending.ensures.one;
      bound = rw same at c.pending.ensures.bound;
      finished = c.pending.ensures.closed;
    })
