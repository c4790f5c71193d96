use Rattle.std.proofs.Common.{◌≡◌, map, take}
use Rattle.pb_schema.specs.View.{message_view}
use Rattle.pb_descr_message.specs.PoolRows.{type_row_view}
use Rattle.pb_descr_message.proofs.pool.types_of.Given as goal

abbrev pub invariant-loop-row : goal.invariant-loop-row
invariant-loop-row l = map message_view l.types.items ≡ map type_row_view (take l.row-index l.rows)
