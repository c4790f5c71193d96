use Rattle.std.proofs.Common.{◌≡◌, map, take}
use Rattle.std.specs.Prelude.{string_bytes}
use Rattle.pb_test_types.specs.Types.{values_in}
use Rattle.pb_test_types.proofs.types.values_of.Given as goal

abbrev pub invariant-loop-name : goal.invariant-loop-name
invariant-loop-name l = map (λ v. (string_bytes v.0, v.1)) l.values.items ≡ values_in (take l.name-index l.rows)
