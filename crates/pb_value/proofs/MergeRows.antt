-- Rows of two messages: one over the other, each way, is the value of both canonical forms; and more records after a message's own.
use Rattle.std.proofs.Common.{◌≡◌, ℕ, List, [], ◌∷◌, ◌++◌, refl}
use Rattle.std.specs.Prelude.{pos, negsuc}
use Rattle.pb_wire.specs.Varint.{shortest, shortest_within}
use Rattle.pb_wire.specs.Record.{Payload, Record, varint, len}
use Rattle.pb_wire.specs.Inside.{records_spelled, front_within, first_varint, after_varint, named_length}
use Rattle.pb_schema.specs.Scalar.{int32}
use Rattle.pb_value.specs.Data.{Datum, scalar, message, no_datums, datum, no_entries, entry, one, list, map, no_fields, field, Message, body, empty}
use Rattle.pb_value.specs.Value.{value, value_within}
use Rattle.pb_value.specs.Canon.{canon}
use Rattle.pb_value.specs.Merge.{merged, merged_within}
use Rattle.pb_value.specs.Onto.{onto}
use Rattle.pb_value.proofs.Table.{wide_pool}

abbrev at : ℕ → Payload → Record
at n p = record { number = n; payload = p }

abbrev int : ℕ → Datum
int n = scalar (int32 (pos n))

abbrev just : ℕ → Datum → Message
just n d = body (field n (one d) no_fields) []

abbrev first : Message
first =
    body (field 1 (one (int 1)) (field 2 (one (message (body (field 1 (one (int 1)) (field 7 (one (message (just 10 (int 1)))) no_fields)) [])))
    (field 5 (one (int 0)) (field 6 (list (datum (message (just 1 (int 1))) no_datums)) (field 8 (map (entry (int32 (pos 1)) (int 1) (entry (int32 (pos 2)) (int 2) no_entries)))
    (field 10 (one (int 0)) no_fields)))))) (at 99 (varint 1) ∷ [])

abbrev second : Message
second =
    body (field 1 (one (int 2)) (field 2 (one (message (body (field 7 (one (message (body (field 1 (one (int 9)) (field 10 (one (int 2)) no_fields)) []))) no_fields) [])))
    (field 4 (one (message empty)) (field 6 (list (datum (message empty) no_datums)) (field 8 (map (entry (int32 (negsuc 0)) (int 7) (entry (int32 (pos 2)) (int 0) no_entries)))
    no_fields))))) (at 98 (varint 2) ∷ at 1 (len []) ∷ [])

both_ways : merged wide_pool 0 first second ≡ value wide_pool 0 (canon wide_pool 0 first ++ canon wide_pool 0 second)
unfolding value value_within records_spelled front_within first_varint after_varint named_length shortest shortest_within merged merged_within
both_ways = refl

there_and_back : value wide_pool 0 (canon wide_pool 0 first) ≡ first
unfolding value value_within records_spelled front_within first_varint after_varint named_length shortest shortest_within
there_and_back = refl

there_and_back_too : value wide_pool 0 (canon wide_pool 0 second) ≡ second
unfolding value value_within records_spelled front_within first_varint after_varint named_length shortest shortest_within
there_and_back_too = refl

other_way : merged wide_pool 0 second first ≡ value wide_pool 0 (canon wide_pool 0 second ++ canon wide_pool 0 first)
unfolding value value_within records_spelled front_within first_varint after_varint named_length shortest shortest_within merged merged_within
other_way = refl

-- MORE RECORDS AFTER A MESSAGE'S OWN

-- a default after a value, a oneof whose member changes and ends in a run, parts, entries under one key, and unknown records
abbrev before : List Record
before =
    at 1 (varint 5) ∷ at 1 (varint 0) ∷ at 2 (len (8 ∷ 1 ∷ [])) ∷ at 3 (varint 4) ∷ at 2 (len (8 ∷ 2 ∷ [])) ∷ at 2 (len (80 ∷ 3 ∷ [])) ∷ at 7 (len (8 ∷ 1 ∷ []))
    ∷ at 7 (len (8 ∷ 0 ∷ [])) ∷ at 8 (len (8 ∷ 1 ∷ 16 ∷ 9 ∷ [])) ∷ at 8 (len (8 ∷ 1 ∷ 24 ∷ 7 ∷ [])) ∷ at 99 (varint 1) ∷ at 1 (len (1 ∷ [])) ∷ at 6 (len []) ∷ []

abbrev after : List Record
after =
    at 1 (varint 0) ∷ at 2 (len (80 ∷ 4 ∷ [])) ∷ at 5 (varint 0) ∷ at 7 (len (80 ∷ 1 ∷ [])) ∷ at 8 (len (16 ∷ 1 ∷ [])) ∷ at 6 (len (8 ∷ 1 ∷ [])) ∷ at 98 (varint 2) ∷ []

onto_is_joined : onto wide_pool 0 (value wide_pool 0 before) after ≡ value wide_pool 0 (before ++ after)
unfolding value value_within records_spelled front_within first_varint after_varint named_length shortest shortest_within onto
onto_is_joined = refl
