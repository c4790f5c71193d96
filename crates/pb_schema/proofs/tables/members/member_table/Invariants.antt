use Rattle.std.proofs.Common.{map, take}
use Rattle.pb_schema.specs.View.{field_view}
use Rattle.pb_schema.specs.Tables.{IsMemberTable}
use Rattle.pb_schema.proofs.tables.members.member_table.Given as goal

abbrev pub invariant-loop-field : goal.invariant-loop-field
invariant-loop-field l = IsMemberTable l.oneofs (map field_view (take l.field-index l.fields)) l.table.items
