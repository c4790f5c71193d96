use Rattle.std.proofs.Common.{◌≡◌, map, take}
use Rattle.pb_schema.specs.View.{message_view}
use Rattle.pb_test_types.specs.Types.{message_in}
use Rattle.pb_test_types.proofs.types.types_of.Given as goal

abbrev pub invariant-loop-row : goal.invariant-loop-row
invariant-loop-row l = map message_view l.types.items ≡ map message_in (take l.row-index l.rows)
