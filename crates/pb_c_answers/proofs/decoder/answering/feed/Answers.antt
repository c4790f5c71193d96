-- The decoder that received the piece is the one that is owned.
use Rattle.std.proofs.Common.{◌≡◌}
use Rattle.pb_c_answers.proofs.decoder.answering.feed.Goals as goal

pub returns-clause-fed : goal.returns-clause-fed
returns-clause-fed c =
    let pool = c.deref.ensures in let same : c.deref.result.now ≡ c.own.inside.pool.value = cc in
    rw (← c.own.view_is) (rw same at c.give.ensures.fed)

pub returns-clause-steps : goal.returns-clause-steps
returns-clause-steps c = rw (← c.own.view_is) c.give.ensures.steps
