use Rattle.std.proofs.Common.{rules, sym}
use Rattle.pb_wire.specs.Unknown.{payload_of}
use Rattle.pb_schema.specs.View.{field_view}
use Rattle.pb_value.proofs.CheckLemmas.{record_known, record_unfit, record_other}
use Rattle.pb_value.proofs.judge.unknown.check_record.Goals as goal

pub returns-then-is_known : goal.returns-then-is_known
returns-then-is_known c =
    record_known c.args.pool.now c.args.message_type.0 c.args.number (payload_of c.args.payload.now) (field_view c.in-Some.field.now) c.in-Some.ensures.rules (search rules)
    (search rules) (sym c.in-Some.ensures.found) (search rules)

pub returns-else-is_known : goal.returns-else-is_known
returns-else-is_known c =
    record_unfit c.args.pool.now c.args.message_type.0 c.args.number (payload_of c.args.payload.now) (field_view c.in-Some.field.now) c.in-Some.ensures.rules (search rules)
    (search rules) (c.is_numbered.ensures.in_range (search rules)) (sym c.in-Some.ensures.found) (search rules)

pub returns-in_default : goal.returns-in_default
returns-in_default c =
    record_other c.args.pool.now c.args.message_type.0 c.args.number (payload_of c.args.payload.now) c.field_at.ensures.rules (search rules) (search rules)
    (c.is_numbered.ensures.in_range (search rules)) (search rules)
