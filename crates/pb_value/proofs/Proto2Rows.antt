-- Worked rows of a proto2 message, computed: its value, its canonical bytes, and why a value is refused.
use Rattle.std.proofs.Common.{◌≡◌, ℕ, List, [], ◌∷◌, refl, Some, None}
use Rattle.std.specs.Prelude.{pos, true, false}
use Rattle.pb_wire.specs.Varint.{shortest, shortest_within}
use Rattle.pb_wire.specs.Record.{varint, len}
use Rattle.pb_wire.specs.Inside.{records_spelled, front_within, first_varint, after_varint, named_length}
use Rattle.pb_schema.specs.declared.types.Kind.{Kind}
use Rattle.pb_schema.specs.declared.types.Kind.TheVariants as kind
use Rattle.pb_schema.specs.declared.types.Shape.TheVariants as shape
use Rattle.pb_schema.specs.Types.{Types}
use Rattle.pb_schema.specs.Scalar.{int32, enum}
use Rattle.pb_value.specs.Data.{Datum, scalar, message, no_datums, datum, one, list, no_fields, field, Message, body}
use Rattle.pb_value.specs.Value.{value, value_within}
use Rattle.pb_value.specs.Canon.{canon_bytes}
use Rattle.pb_value.specs.Cause.{message_cause}
use Rattle.pb_value.specs.Change.{set_cause, push_cause}
use Rattle.pb_value.specs.declared.error.ValueError.TheVariants.{KnownAsUnknown, NoSuchValue}
use Rattle.pb_value.proofs.Table.{the_field}

-- an enum with the numbers 1 and 2
abbrev closed : Kind
closed = kind.ClosedEnum (record { 0 = 0 })

-- Q with a number, a list that is not packed, the group g, an enum, and a packed list of enums; and the type of g
abbrev pool : Types
pool = record {
  files = record { name = []; package_name = []; imports = []; proto2 = true } ∷ [];
  messages =
      record {
        name = [];
        file = 0;
        parent = None;
        oneofs = [];
        fields =
            the_field 1 kind.Int32 shape.Explicit ∷ the_field 2 kind.Int32 (shape.List false) ∷ the_field 3 (kind.Group (record { 0 = 1 })) shape.Explicit
            ∷ the_field 4 closed shape.Explicit ∷ the_field 5 closed (shape.List true) ∷ [];
      }
      ∷ record { name = []; file = 0; parent = Some 0; oneofs = []; fields = the_field 1 kind.Int32 shape.Explicit ∷ [] } ∷ [];
  enums = record { name = []; file = 0; parent = None; values = (0x4f ∷ [], pos 1) ∷ (0x54 ∷ [], pos 2) ∷ [] } ∷ [];
}

abbrev value_of : List ℕ → Message
value_of b = value pool 0 (records_spelled b)

abbrev canonical : List ℕ → List ℕ
canonical b = canon_bytes pool 0 (value_of b)

abbrev int : ℕ → Datum
int n = scalar (int32 (pos n))

abbrev number : ℕ → Datum
number n = scalar (enum (pos n))

present_zero : value_of (0x08 ∷ 0x00 ∷ []) ≡ body (field 1 (one (int 0)) no_fields) []
unfolding value value_within records_spelled front_within first_varint after_varint named_length
present_zero = refl

present_zero_again : canonical (0x08 ∷ 0x00 ∷ []) ≡ 0x08 ∷ 0x00 ∷ []
unfolding value value_within records_spelled front_within first_varint after_varint named_length shortest shortest_within
present_zero_again = refl

unpacked : canonical (0x12 ∷ 0x02 ∷ 0x01 ∷ 0x02 ∷ []) ≡ 0x10 ∷ 0x01 ∷ 0x10 ∷ 0x02 ∷ []
unfolding value value_within records_spelled front_within first_varint after_varint named_length shortest shortest_within
unpacked = refl

groups_merged : canonical (0x1b ∷ 0x08 ∷ 0x05 ∷ 0x1c ∷ 0x1b ∷ 0x08 ∷ 0x06 ∷ 0x1c ∷ []) ≡ 0x1b ∷ 0x08 ∷ 0x06 ∷ 0x1c ∷ []
unfolding value value_within records_spelled front_within first_varint after_varint named_length shortest shortest_within
groups_merged = refl

-- what a later group doesn't name stays
group_goes_on : canonical (0x1b ∷ 0x08 ∷ 0x05 ∷ 0x1c ∷ 0x1b ∷ 0x1c ∷ []) ≡ 0x1b ∷ 0x08 ∷ 0x05 ∷ 0x1c ∷ []
unfolding value value_within records_spelled front_within first_varint after_varint named_length shortest shortest_within
group_goes_on = refl

group_is_typed : value_of (0x1b ∷ 0x08 ∷ 0x05 ∷ 0x1c ∷ []) ≡ body (field 3 (one (message (body (field 1 (one (int 5)) no_fields) []))) no_fields) []
unfolding value value_within records_spelled front_within first_varint after_varint named_length
group_is_typed = refl

no_group_by_length : value_of (0x1a ∷ 0x02 ∷ 0x08 ∷ 0x05 ∷ []) ≡ body no_fields (record { number = 3; payload = len (0x08 ∷ 0x05 ∷ []) } ∷ [])
unfolding value value_within records_spelled front_within first_varint after_varint named_length
no_group_by_length = refl

undeclared_first : value_of (0x20 ∷ 0x07 ∷ 0x20 ∷ 0x02 ∷ []) ≡ body (field 4 (one (number 2)) no_fields) (record { number = 4; payload = varint 7 } ∷ [])
unfolding value value_within records_spelled front_within first_varint after_varint named_length
undeclared_first = refl

undeclared_behind : canonical (0x20 ∷ 0x07 ∷ 0x20 ∷ 0x02 ∷ []) ≡ 0x20 ∷ 0x02 ∷ 0x20 ∷ 0x07 ∷ []
unfolding value value_within records_spelled front_within first_varint after_varint named_length shortest shortest_within
undeclared_behind = refl

low_bits_declared : canonical (0x20 ∷ 0x81 ∷ 0x80 ∷ 0x80 ∷ 0x80 ∷ 0x10 ∷ []) ≡ 0x20 ∷ 0x01 ∷ []
unfolding value value_within records_spelled front_within first_varint after_varint named_length shortest shortest_within
low_bits_declared = refl

whole_number_kept : value_of (0x20 ∷ 0x87 ∷ 0x80 ∷ 0x80 ∷ 0x80 ∷ 0x10 ∷ []) ≡ body no_fields (record { number = 4; payload = varint 4294967303 } ∷ [])
unfolding value value_within records_spelled front_within first_varint after_varint named_length
whole_number_kept = refl

packed_cut :
    value_of (0x2a ∷ 0x04 ∷ 0x01 ∷ 0x07 ∷ 0x02 ∷ 0x09 ∷ [])
    ≡ body (field 5 (list (datum (number 1) (datum (number 2) no_datums))) no_fields) (record { number = 5; payload = varint 7 } ∷ record { number = 5; payload = varint 9 } ∷ [])
unfolding value value_within records_spelled front_within first_varint after_varint named_length
packed_cut = refl

packed_cut_again : canonical (0x2a ∷ 0x04 ∷ 0x01 ∷ 0x07 ∷ 0x02 ∷ 0x09 ∷ []) ≡ 0x2a ∷ 0x02 ∷ 0x01 ∷ 0x02 ∷ 0x28 ∷ 0x07 ∷ 0x28 ∷ 0x09 ∷ []
unfolding value value_within records_spelled front_within first_varint after_varint named_length shortest shortest_within
packed_cut_again = refl

-- REFUSALS

undeclared_set : set_cause pool 0 4 (one (number 7)) ≡ Some NoSuchValue
undeclared_set = refl

declared_set : set_cause pool 0 4 (one (number 2)) ≡ None
declared_set = refl

undeclared_pushed : push_cause pool 0 5 (number 7) ≡ Some NoSuchValue
undeclared_pushed = refl

undeclared_unknown : message_cause pool 0 (body no_fields (record { number = 4; payload = varint 7 } ∷ [])) ≡ None
undeclared_unknown = refl

declared_unknown : message_cause pool 0 (body no_fields (record { number = 4; payload = varint 2 } ∷ [])) ≡ Some KnownAsUnknown
declared_unknown = refl

list_unknown : message_cause pool 0 (body no_fields (record { number = 5; payload = len (0x07 ∷ []) } ∷ [])) ≡ Some KnownAsUnknown
list_unknown = refl
