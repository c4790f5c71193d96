use Rattle.std.proofs.Common.{map, take}
use Rattle.pb_schema.specs.View.{message_view}
use Rattle.pb_schema.specs.Tables.{AreMemberTables}
use Rattle.pb_schema.proofs.tables.members.member_tables.Given as goal

abbrev pub invariant-loop-message : goal.invariant-loop-message
invariant-loop-message l = AreMemberTables (map message_view (take l.message-index l.messages)) l.tables.items
