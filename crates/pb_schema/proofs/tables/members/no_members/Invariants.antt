use Rattle.std.proofs.Common.{[]}
use Rattle.pb_schema.specs.Tables.{IsMemberTable}
use Rattle.pb_schema.proofs.tables.members.no_members.Given as goal

abbrev pub invariant-loop : goal.invariant-loop
invariant-loop l = IsMemberTable l.counter [] l.table.items
