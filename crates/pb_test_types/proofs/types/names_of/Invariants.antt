use Rattle.std.proofs.Common.{◌≡◌, map, take}
use Rattle.std.specs.Prelude.{string_bytes}
use Rattle.pb_test_types.specs.Types.{names_in}
use Rattle.pb_test_types.proofs.types.names_of.Given as goal

abbrev pub invariant-loop-name : goal.invariant-loop-name
invariant-loop-name l = map string_bytes l.names.items ≡ names_in (take l.name-index l.rows)
