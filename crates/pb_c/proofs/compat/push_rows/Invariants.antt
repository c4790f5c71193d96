-- The differences so far are put at the end.
use Rattle.std.proofs.Common.{◌≡◌, ◌++◌, map, take}
use Rattle.pb_c.specs.Compared.{difference_row}
use Rattle.pb_c.proofs.compat.push_rows.Given as goal

abbrev pub invariant-loop-difference : goal.invariant-loop-difference
invariant-loop-difference l = l.rows.items ≡ l.initial.rows.items ++ map (difference_row l.old_type l.new_type) (take l.difference-index l.differences)
