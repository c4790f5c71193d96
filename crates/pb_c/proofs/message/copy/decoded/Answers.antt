-- What canonical bytes decode to is their message.
use Rattle.pb_c.proofs.Copies.{same_message}
use Rattle.pb_c.proofs.message.copy.decoded.Goals as goal

pub returns-in-Ok-clause-same : goal.returns-in-Ok-clause-same
returns-in-Ok-clause-same c =
    let m = c.args.message.now in
    let pool = c.pool-pool.ensures in let kind = c.message_type-message_type.ensures.named in let rules = c.messages-types.ensures.rules in
    same_message c.in-Ok.copy m c.args.bytes.now (rw pool at rules) c.body-well_formed.ensures.well_formed c.requires.canonical c.requires.small
    (rw pool at c.in-Ok.ensures.of_type.0) (rw kind at c.in-Ok.ensures.of_type.1) (rw (pool, kind) at c.in-Ok.ensures.value)
