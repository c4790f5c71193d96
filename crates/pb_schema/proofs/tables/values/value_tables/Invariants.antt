use Rattle.std.proofs.Common.{map, take}
use Rattle.pb_schema.specs.View.{enum_view}
use Rattle.pb_schema.specs.Tables.{AreValueTables}
use Rattle.pb_schema.proofs.tables.values.value_tables.Given as goal

abbrev pub invariant-loop-entry : goal.invariant-loop-entry
invariant-loop-entry l = AreValueTables (map enum_view (take l.entry-index l.enums)) l.tables.items
