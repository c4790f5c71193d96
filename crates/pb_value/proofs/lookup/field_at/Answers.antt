use Rattle.pb_value.proofs.JudgeLemmas.{found_named}
use Rattle.pb_value.proofs.lookup.field_at.Goals as goal

pub returns-clause-named : goal.returns-clause-named
returns-clause-named c =
    found_named c.field_by_number.result c.args.pool.now c.args.message_type.0 c.args.number c.field_by_number.ensures.pool c.field_by_number.ensures.found
