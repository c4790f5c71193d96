use Rattle.std.proofs.Common.{◌≡◌, map, take}
use Rattle.pb_schema.specs.View.{enum_view}
use Rattle.pb_test_types.specs.Types.{enum_in}
use Rattle.pb_test_types.proofs.types.enums_of.Given as goal

abbrev pub invariant-loop-row : goal.invariant-loop-row
invariant-loop-row l = map enum_view l.enums.items ≡ map enum_in (take l.row-index l.rows)
