use Rattle.std.proofs.Common.{arith}
use Rattle.pb_schema.proofs.RuleLemmas.{AreMembers-more}
use Rattle.pb_schema.proofs.rules.fields.members_of.Goals as goal

pub loop-field-preserved : goal.loop-field-preserved
loop-field-preserved c =
    AreMembers-more c.args.oneofs c.args.fields.now c.loop-field.field-index c.field-item.result c.loop-field.members.items c.note_member.new.members.items (omega arith) c.field-item.is c.loop-field.invariant c.note_member.ensures
