use Rattle.std.proofs.Common.{rules, sym}
use Rattle.pb_schema.specs.Types.{message_fields}
use Rattle.pb_schema.specs.View.{field_view}
use Rattle.pb_value.proofs.CheckLemmas.{entries_done, fields_begin, fields_go_on, fields_done}
use Rattle.pb_value.proofs.judge.check.+check.Goals as goal

pub check_entries-returns : goal.check_entries-returns
check_entries-returns t c =
    entries_done c.args.pool.now c.args.key_kind c.args.kind c.args.entries.now.entries c.loop-key.key-iterator (search rules) c.loop-key.invariant.cause
    c.loop-key.invariant.good c.into_iter-key-iterator.ensures.into_iter_gives.5

pub check_fields-loop-number-init : goal.check_fields-loop-number-init
check_fields-loop-number-init t c =
    let p = fields_begin c.args.pool.now (message_fields c.args.pool.now c.args.message_type.0) c.new-members.result c.args.fields.now.entries
    c.into_iter-number-iterator.result c.new-members.ensures.empty c.into_iter-number-iterator.ensures.into_iter_gives.0 in
    record { cause = p.0; good = p.1 }

pub check_fields-loop-number-preserved : goal.check_fields-loop-number-preserved
check_fields-loop-number-preserved t c =
    let p = fields_go_on c.args.pool.now (message_fields c.args.pool.now c.args.message_type.0) c.loop-number.members c.check_stored.new.members
    c.args.fields.now.entries c.loop-number.number-iterator c.next.new.self c.in-Some.number.now c.in-Some.content.now
    (field_view c.in-Some-field_at.field.now) (search rules) (sym c.in-Some-field_at.ensures.found) c.in_ok-check_stored.ensures.judged
    c.in_ok-check_held.ensures c.in_ok-check_stored.ensures.added c.loop-number.invariant.cause c.loop-number.invariant.good in
    record { cause = p.0; good = p.1 }

pub check_fields-returns : goal.check_fields-returns
check_fields-returns t c =
    fields_done c.args.pool.now (message_fields c.args.pool.now c.args.message_type.0) c.loop-number.members c.args.fields.now.entries c.loop-number.number-iterator
    (search rules) c.loop-number.invariant.cause c.loop-number.invariant.good c.into_iter-number-iterator.ensures.into_iter_gives.5
