use Rattle.std.proofs.Common.{◌≡◌, take}
use Rattle.std.specs.List.{flat_map}
use Rattle.pb_schema.specs.Packed.{element_bytes}
use Rattle.pb_schema_tests.proofs.packed.write_packed.Given as goal

abbrev pub invariant-loop-item : goal.invariant-loop-item
invariant-loop-item g l = l.bytes.items ≡ flat_map (λ x. element_bytes g.S.Scalar.kind (g.S.Scalar.view x)) (take l.item-index l.items)
