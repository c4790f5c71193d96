-- Rows of what the worked rows leave open: two oneofs, a list of messages, later parts of one message, a hundred levels, the order of keys.
use Rattle.std.proofs.Common.{◌≡◌, ℕ, zero, suc, [], ◌∷◌, refl}
use Rattle.std.specs.Prelude.{pos, negsuc, true, false}
use Rattle.pb_wire.specs.Varint.{shortest, shortest_within}
use Rattle.pb_wire.specs.Record.{Payload, Record, varint, len}
use Rattle.pb_wire.specs.Inside.{records_spelled, front_within, first_varint, after_varint, named_length}
use Rattle.pb_schema.specs.Scalar.{int32, boolean}
use Rattle.pb_value.specs.Data.{Datum, scalar, message, no_datums, datum, no_entries, entry, one, list, map, no_fields, field, Message, body, empty}
use Rattle.pb_value.specs.Value.{value, value_within}
use Rattle.pb_value.specs.Canon.{canon}
use Rattle.pb_value.proofs.Table.{wide_pool}

abbrev at : ℕ → Payload → Record
at n p = record { number = n; payload = p }

abbrev int : ℕ → Datum
int n = scalar (int32 (pos n))

abbrev just : ℕ → Datum → Message
just n d = body (field n (one d) no_fields) []

-- two oneofs: a record of the one breaks no run of the other
two_oneofs :
    value wide_pool 0 (at 4 (len (8 ∷ 1 ∷ [])) ∷ at 3 (varint 5) ∷ at 4 (len (80 ∷ 2 ∷ [])) ∷ [])
    ≡ body (field 3 (one (int 5)) (field 4 (one (message (body (field 1 (one (int 1)) (field 10 (one (int 2)) no_fields)) []))) no_fields)) []
unfolding value value_within records_spelled front_within first_varint after_varint named_length
two_oneofs = refl

-- each payload of a list of messages is an element
list_of_messages :
    value wide_pool 0 (at 6 (len (8 ∷ 1 ∷ [])) ∷ at 6 (len []) ∷ at 6 (len (8 ∷ 2 ∷ [])) ∷ [])
    ≡ body (field 6 (list (datum (message (just 1 (int 1))) (datum (message empty) (datum (message (just 1 (int 2))) no_datums)))) no_fields) []
unfolding value value_within records_spelled front_within first_varint after_varint named_length
list_of_messages = refl

-- of the parts of a message the later one counts, also where it says the default
later_part : value wide_pool 0 (at 7 (len (8 ∷ 1 ∷ [])) ∷ at 7 (len (8 ∷ 2 ∷ [])) ∷ []) ≡ just 7 (message (just 1 (int 2)))
unfolding value value_within records_spelled front_within first_varint after_varint named_length
later_part = refl

later_default : value wide_pool 0 (at 7 (len (8 ∷ 1 ∷ [])) ∷ at 7 (len (8 ∷ 0 ∷ [])) ∷ []) ≡ just 7 (message empty)
unfolding value value_within records_spelled front_within first_varint after_varint named_length
later_default = refl

-- the deepest message holds something
abbrev deep : ℕ → Message
deep zero = just 1 (int 1)
deep (suc n) = just 7 (message (deep n))

deepest : value wide_pool 0 (canon wide_pool 0 (deep 100)) ≡ deep 100
unfolding value value_within records_spelled front_within first_varint after_varint named_length shortest shortest_within
deepest = refl

-- keys by value, false before true
keys :
    value wide_pool 0 (at 8 (len (8 ∷ 1 ∷ [])) ∷ at 8 (len (8 ∷ 255 ∷ 255 ∷ 255 ∷ 255 ∷ 15 ∷ [])) ∷ at 9 (len (8 ∷ 2 ∷ [])) ∷ at 9 (len []) ∷ [])
    ≡ body (field 8 (map (entry (int32 (negsuc 0)) (int 0) (entry (int32 (pos 1)) (int 0) no_entries)))
    (field 9 (map (entry (boolean false) (int 0) (entry (boolean true) (int 0) no_entries))) no_fields)) []
unfolding value value_within records_spelled front_within first_varint after_varint named_length
keys = refl
