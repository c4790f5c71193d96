use Rattle.std.proofs.Common.{map}
use Rattle.pb_schema.specs.View.{field_view}
use Rattle.std.proofs.Common.{take}
use Rattle.pb_schema.specs.Loops.Members.{AreMembers}
use Rattle.pb_schema.proofs.rules.fields.members_of.Given as goal

abbrev pub invariant-loop-field : goal.invariant-loop-field
invariant-loop-field l =
    AreMembers l.oneofs (map field_view (take l.field-index l.fields)) l.members.items
