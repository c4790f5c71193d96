use Rattle.std.proofs.Common.{map, take}
use Rattle.pb_schema.specs.View.{message_view}
use Rattle.pb_schema.specs.Tables.{AreNameTables}
use Rattle.pb_schema.proofs.tables.names.name_tables.Given as goal

abbrev pub invariant-loop-message : goal.invariant-loop-message
invariant-loop-message l = AreNameTables (map message_view (take l.message-index l.messages)) l.tables.items
