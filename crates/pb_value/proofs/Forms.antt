-- Small messages that are well formed, and some that aren't.
use Rattle.std.proofs.Common.{[], ◌∷◌, refl, arith}
use Rattle.std.specs.Prelude.{pos}
use Rattle.pb_wire.specs.Record.{varint}
use Rattle.pb_schema.specs.Scalar.{int32, text, uint32}
use Rattle.pb_value.specs.Data.{no_datums, entry, no_entries, no_fields, field, body, scalar, message, one, list, map, empty}
use Rattle.pb_value.specs.WellFormed.{IsWellFormed}
use Rattle.pb_value.proofs.Table.{pool}

nested : IsWellFormed pool 0 (body (field 3 (one (message (body (field 1 (one (scalar (int32 (pos 1)))) no_fields) []))) no_fields) (record { number = 1; payload = varint 5 } ∷ [])) → ⊥
nested h = let fits = h.parts.3.0.2 in cc

a_map : IsWellFormed pool 0 (body (field 9 (map (entry (text []) (scalar (int32 (pos 7))) no_entries)) no_fields) (record { number = 20; payload = varint 5 } ∷ []))
a_map = record {
  parts = (((tt, ((([], (refl, refl)), omega arith, tt), (tt, tt)), refl), tt), (omega arith, tt), (tt, tt), (((omega arith, omega arith), omega arith, tt, refl), tt));
  depth = omega arith;
}

default_stored : IsWellFormed pool 0 (body (field 1 (one (scalar (int32 (pos 0)))) no_fields) []) → ⊥
default_stored h = let kept = h.parts.0.0.0 in cc

two_members : IsWellFormed pool 0 (body (field 7 (one (scalar (uint32 5))) (field 8 (one (message empty)) no_fields)) []) → ⊥
two_members h = h.parts.2.0.0 refl

empty_list : IsWellFormed pool 0 (body (field 6 (list no_datums) no_fields) []) → ⊥
empty_list h = h.parts.0.0.0
