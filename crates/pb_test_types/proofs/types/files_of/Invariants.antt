use Rattle.std.proofs.Common.{◌≡◌, map, take}
use Rattle.pb_schema.specs.View.{file_view}
use Rattle.pb_test_types.specs.Types.{file_in}
use Rattle.pb_test_types.proofs.types.files_of.Given as goal

abbrev pub invariant-loop-row : goal.invariant-loop-row
invariant-loop-row l = map file_view l.files.items ≡ map file_in (take l.row-index l.rows)
