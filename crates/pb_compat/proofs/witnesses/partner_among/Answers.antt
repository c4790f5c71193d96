use Rattle.std.proofs.Common.{sym}
use Rattle.pb_schema.specs.View.{field_view}
use Rattle.pb_compat.proofs.BuiltLemmas.{settable}
use Rattle.pb_compat.proofs.witnesses.partner_among.Goals as goal

pub returns-then-may_be_beside-clause-settable : goal.returns-then-may_be_beside-clause-settable
returns-then-may_be_beside-clause-settable c =
    settable c.args.old.now c.args.old_type.0 _ (field_view c.in-Some.other.now) c.in-Some.ensures.pool (sym c.in-Some.ensures.found) c.in-Some.ensures.rules
