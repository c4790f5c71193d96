use Rattle.std.proofs.Common.{◌≡◌, map, take}
use Rattle.pb_schema.specs.View.{field_view}
use Rattle.pb_test_types.specs.Types.{field_in}
use Rattle.pb_test_types.proofs.types.fields_of.Given as goal

abbrev pub invariant-loop-row : goal.invariant-loop-row
invariant-loop-row l = map field_view l.fields.items ≡ map field_in (take l.row-index l.rows)
