use Rattle.std.proofs.Common.{◌≡◌, ◌↔◌, ◌++◌, map, length}
use Rattle.std.specs.List.{filter_map}
use Rattle.pb_wire.specs.Sound.{AreElements}
use Rattle.pb_schema.specs.Kinds.{wire_type_of, read}
use Rattle.pb_schema.specs.Context.{element_of}
use Rattle.pb_schema.specs.Packed.{numbers_of}
use Rattle.pb_schema_tests.proofs.packed.read_packed.Given as goal

abbrev pub invariant-loop-rest : goal.invariant-loop-rest
invariant-loop-rest g l =
    (map g.S.Scalar.view l.items.items ++ filter_map (read l.kind) (numbers_of (wire_type_of l.kind) l.rest) ≡ filter_map (read l.kind) (numbers_of (wire_type_of l.kind) l.bytes)) × (AreElements (element_of l.kind) l.rest ↔ AreElements (element_of l.kind) l.bytes)

abbrev pub decreases-loop-rest : goal.decreases-loop-rest
decreases-loop-rest g l = length l.rest
