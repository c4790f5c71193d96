use Rattle.std.proofs.Common.{arith}
use Rattle.pb_schema.proofs.MemberLemmas.{IsMemberTable-more}
use Rattle.pb_schema.proofs.tables.members.member_table.Goals as goal

pub loop-field-preserved : goal.loop-field-preserved
loop-field-preserved c =
    IsMemberTable-more c.args.oneofs c.args.fields.now c.loop-field.field-index c.field-item.result c.loop-field.table.items c.add_member.new.table.items (omega arith) c.field-item.is c.loop-field.invariant c.in_ok-add_member.ensures
