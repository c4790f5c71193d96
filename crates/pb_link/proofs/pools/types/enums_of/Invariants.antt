use Rattle.std.proofs.Common.{◌≡◌, ◌++◌, map, drop}
use Rattle.pb_schema.specs.View.{enum_view}
use Rattle.pb_link_names.specs.View.{declaration_view}
use Rattle.pb_link.specs.Pools.{enums_read}
use Rattle.pb_link.proofs.pools.types.enums_of.Given as goal

abbrev pub invariant-loop-declaration : goal.invariant-loop-declaration
invariant-loop-declaration l = map enum_view l.types.items ++ enums_read l.tables (map declaration_view (drop l.declaration-index l.row)) ≡ enums_read l.tables (map declaration_view l.row)
