-- The differences of the types so far are there.
use Rattle.std.proofs.Common.{◌≡◌, take}
use Rattle.pb_c.specs.Compared.{rows_of}
use Rattle.pb_c.proofs.compat.rows_of.Given as goal

abbrev pub invariant-loop-types : goal.invariant-loop-types
invariant-loop-types l = l.rows.items ≡ rows_of (take l.types-index l.compared)
