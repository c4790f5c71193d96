-- Worked rows, computed: the messages inside a message.
use Rattle.std.proofs.Common.{◌≡◌, ℕ, [], Some, None, refl}
use Rattle.std.specs.Prelude.{pos}
use Rattle.pb_schema.specs.Scalar.{int32, uint32, text}
use Rattle.pb_value.specs.Data.{Datum, scalar, message, no_datums, datum, no_entries, entry, one, list, map, no_fields, field, Message, body}
use Rattle.pb_value.specs.Dynamic.{Dynamic}
use Rattle.pb_value.specs.Inner.{only_datum, datum_at, datum_under, inner_message}
use Rattle.pb_value.proofs.Table.{pool}

abbrev int : ℕ → Datum
int n = scalar (int32 (pos n))

abbrev leaf : ℕ → Message
leaf n = body (field 1 (one (int n)) no_fields) []

-- a message of the type T
abbrev of_t : Message → Dynamic
of_t v = record { pool = pool; kind = 0; body = v }

-- field 1 is a number, 3 a message, 6 a list of numbers and 12 a map of messages
abbrev outer : Dynamic
outer =
    of_t (body (field 1 (one (int 4)) (field 3 (one (message (leaf 5))) (field 6 (list (datum (int 8) no_datums)) (field 12 (map (entry (uint32 1) (message (leaf 6)) (entry (uint32 2) (message (leaf 7)) no_entries))) no_fields)))) [])

inner_one : inner_message only_datum 3 outer ≡ Some (of_t (leaf 5))
inner_one = refl

inner_number : inner_message only_datum 1 outer ≡ None
inner_number = refl

inner_absent : inner_message only_datum 8 outer ≡ None
inner_absent = refl

inner_map_for_one : inner_message only_datum 12 outer ≡ None
inner_map_for_one = refl

inner_list_of_numbers : inner_message (datum_at 0) 6 outer ≡ None
inner_list_of_numbers = refl

inner_first_key : inner_message (datum_under (uint32 1)) 12 outer ≡ Some (of_t (leaf 6))
inner_first_key = refl

inner_second_key : inner_message (datum_under (uint32 2)) 12 outer ≡ Some (of_t (leaf 7))
inner_second_key = refl

inner_no_such_key : inner_message (datum_under (uint32 3)) 12 outer ≡ None
inner_no_such_key = refl

inner_key_of_another_form : inner_message (datum_under (int32 (pos 1))) 12 outer ≡ None
inner_key_of_another_form = refl

inner_text_for_a_number : inner_message (datum_under (text [])) 12 outer ≡ None
inner_text_for_a_number = refl

index_0 : datum_at 0 (list (datum (int 8) (datum (int 9) no_datums))) ≡ Some (int 8)
index_0 = refl

index_1 : datum_at 1 (list (datum (int 8) (datum (int 9) no_datums))) ≡ Some (int 9)
index_1 = refl

index_past_the_end : datum_at 2 (list (datum (int 8) (datum (int 9) no_datums))) ≡ None
index_past_the_end = refl
