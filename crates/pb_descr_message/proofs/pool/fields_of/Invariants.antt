use Rattle.std.proofs.Common.{◌≡◌, map, take}
use Rattle.pb_schema.specs.View.{field_view}
use Rattle.pb_descr_message.specs.PoolRows.{field_row_view}
use Rattle.pb_descr_message.proofs.pool.fields_of.Given as goal

abbrev pub invariant-loop-row : goal.invariant-loop-row
invariant-loop-row l = map field_view l.fields.items ≡ map field_row_view (take l.row-index l.rows)
