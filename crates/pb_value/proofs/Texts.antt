-- A row as a text: the bytes of a nested message derive its value.
use Rattle.std.proofs.Common.{ℕ, [], ◌∷◌, refl, arith}
use Rattle.std.specs.Prelude.{pos}
use Rattle.pb_wire.specs.Record.{Payload, varint, len, Record}
use Rattle.pb_wire.specs.Spell.{AreRecords}
use Rattle.pb_wire.specs.Sound.{one, none, a_message, is_varint}
use Rattle.pb_value.specs.Value.{value, value_within}
use Rattle.pb_wire.specs.Inside.{records_spelled, front_within, first_varint, after_varint, named_length}
use Rattle.pb_value.specs.Derives.{Text}
use Rattle.pb_value.specs.Data.{Message, no_fields, field, body, scalar, message}
use Rattle.pb_value.specs.Data as values
use Rattle.pb_schema.specs.Scalar.{int32}
use Rattle.pb_value.proofs.Table.{pool}

abbrev the : ℕ → Payload → Record
the n p = record { number = n; payload = p }

a_is_one : AreRecords (the 1 (varint 1) ∷ []) (8 ∷ 1 ∷ [])
a_is_one = (
  8 ∷ 1 ∷ [],
  [],
  record {
    number = (omega arith, omega arith);
    tag = 8 ∷ [];
    tagged = record { size = omega arith; ends = omega arith; value = refl };
    body = 1 ∷ [];
    follows = (omega arith, record { size = omega arith; ends = omega arith; value = refl });
    joined = refl;
  },
  refl,
  refl,
)

c_is_that : AreRecords (the 3 (len (8 ∷ 1 ∷ [])) ∷ []) (26 ∷ 2 ∷ 8 ∷ 1 ∷ [])
c_is_that = (
  26 ∷ 2 ∷ 8 ∷ 1 ∷ [],
  [],
  record {
    number = (omega arith, omega arith);
    tag = 26 ∷ [];
    tagged = record { size = omega arith; ends = omega arith; value = refl };
    body = 2 ∷ 8 ∷ 1 ∷ [];
    follows = (omega arith, 2 ∷ [], record { size = omega arith; ends = omega arith; value = refl }, refl);
    joined = refl;
  },
  refl,
  refl,
)

nested : Text pool 0 (record { bytes = 100; depth = 1 }) (26 ∷ 2 ∷ 8 ∷ 1 ∷ []) (body (field 3 (values.one (message (body (field 1 (values.one (scalar (int32 (pos 1)))) no_fields) []))) no_fields) [])
unfolding value value_within records_spelled front_within first_varint after_varint named_length
nested = record {
  size = omega arith;
  derives = record {
    records = the 3 (len (8 ∷ 1 ∷ [])) ∷ [];
    spelled = c_is_that;
    sound = one (a_message refl a_is_one (one is_varint none)) none;
    valued = refl;
  };
}
