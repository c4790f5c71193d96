use Rattle.std.proofs.Common.{arith}
use Rattle.pb_canonical.proofs.OneofLemmas.{oneofs_below}
use Rattle.pb_canonical.proofs.oneofs.oneof_count.Goals as goal

pub returns-clause-below : goal.returns-clause-below
returns-clause-below c = λ n o e.
    let low = oneofs_below c.args.pool.now c.args.message_type.0 c.messages.result.now c.index-messages-message_type.result c.messages.ensures.rules c.messages.ensures.listed c.requires
    c.index-messages-message_type.is n o e in
    omega (arith, low, c.len.ensures)
