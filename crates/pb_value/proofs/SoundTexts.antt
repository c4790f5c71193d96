-- A text with a record of each reading: a string, a packed list, an entry, an entry with a message, a group, and bytes that fit no field.
use Rattle.std.proofs.Common.{◌≡◌, ℕ, List, [], ◌∷◌, refl, arith, subst}
use Rattle.std.specs.Prelude.{pos, IsUtf8}
use Rattle.pb_wire.specs.Varint.{shortest, shortest_within}
use Rattle.pb_wire.specs.Record.{Payload, varint, len, group, no_more, more, Record}
use Rattle.pb_wire.specs.Ranges.{AreInRange}
use Rattle.pb_wire.specs.Writable.{AreWritable}
use Rattle.pb_wire.specs.Spell.{AreRecords, shortest_records}
use Rattle.pb_wire.specs.Schema.{a_varint}
use Rattle.pb_wire.specs.Sound.{AreElements, one, none, a_message, a_value, a_text, a_list, a_group, some_bytes, is_varint, element, no_elements, varint_element}
use Rattle.pb_wire.specs.Inside.{records_spelled, front_within, first_varint, after_varint, named_length}
use Rattle.pb_wire.proofs.ShortestLemmas.{shortest_records-spells}
use Rattle.pb_value.specs.Derives.{Text}
use Rattle.pb_value.specs.Value.{value, value_within}
use Rattle.pb_value.specs.Data.{Datum, no_datums, datum, no_entries, entry, list, map, Message, no_fields, field, body, scalar, message}
use Rattle.pb_value.specs.Data as values
use Rattle.pb_schema.specs.Scalar.{int32, uint32, text}
use Rattle.pb_value.proofs.Table.{pool}

abbrev at : ℕ → Payload → Record
at n p = record { number = n; payload = p }

abbrev records : List Record
records =
    at 2 (len (0x7a ∷ [])) ∷ at 6 (len (3 ∷ 4 ∷ [])) ∷ at 9 (len (0x0a ∷ 1 ∷ 0x6b ∷ 0x10 ∷ 7 ∷ [])) ∷ at 12 (len (8 ∷ 3 ∷ 0x12 ∷ 2 ∷ 8 ∷ 1 ∷ []))
    ∷ at 20 (group (more 1 (varint 1) no_more)) ∷ at 1 (len (0x41 ∷ [])) ∷ []

abbrev bytes : List ℕ
bytes =
    0x12 ∷ 1 ∷ 0x7a ∷ 0x32 ∷ 2 ∷ 3 ∷ 4 ∷ 0x4a ∷ 5 ∷ 0x0a ∷ 1 ∷ 0x6b ∷ 0x10 ∷ 7 ∷ 0x62 ∷ 6 ∷ 8 ∷ 3 ∷ 0x12 ∷ 2 ∷ 8 ∷ 1 ∷ 0xa3 ∷ 1 ∷ 8 ∷ 1 ∷ 0xa4 ∷ 1 ∷ 0x0a ∷ 1 ∷ 0x41 ∷ []

abbrev int : ℕ → Datum
int n = scalar (int32 (pos n))

abbrev told : Message
told =
    body (field 2 (values.one (scalar (text (0x7a ∷ [])))) (field 6 (list (datum (int 3) (datum (int 4) no_datums)))
    (field 9 (map (entry (text (0x6b ∷ [])) (int 7) no_entries)) (field 12 (map (entry (uint32 3) (message (body (field 1 (values.one (int 1)) no_fields) [])) no_entries)) no_fields))))
    (at 20 (group (more 1 (varint 1) no_more)) ∷ at 1 (len (0x41 ∷ [])) ∷ [])

spelled : (rs : List Record) (b : List ℕ) → AreInRange rs → AreWritable rs → shortest_records rs ≡ b → AreRecords rs b
spelled rs b r w e = subst (AreRecords rs) e (shortest_records-spells rs r w)

entry_1 : AreRecords (at 1 (len (0x6b ∷ [])) ∷ at 2 (varint 7) ∷ []) (0x0a ∷ 1 ∷ 0x6b ∷ 0x10 ∷ 7 ∷ [])
unfolding shortest shortest_within
entry_1 = spelled (at 1 (len (0x6b ∷ [])) ∷ at 2 (varint 7) ∷ []) (0x0a ∷ 1 ∷ 0x6b ∷ 0x10 ∷ 7 ∷ []) ((omega arith, tt), (omega arith, tt)) ((omega arith, omega arith), omega arith, ((omega arith, omega arith), tt, tt)) refl

entry_2 : AreRecords (at 1 (varint 3) ∷ at 2 (len (8 ∷ 1 ∷ [])) ∷ []) (8 ∷ 3 ∷ 0x12 ∷ 2 ∷ 8 ∷ 1 ∷ [])
unfolding shortest shortest_within
entry_2 = spelled (at 1 (varint 3) ∷ at 2 (len (8 ∷ 1 ∷ [])) ∷ []) (8 ∷ 3 ∷ 0x12 ∷ 2 ∷ 8 ∷ 1 ∷ []) (omega arith, ((omega arith, (omega arith, tt)), tt)) ((omega arith, omega arith), tt, ((omega arith, omega arith), omega arith, tt)) refl

inner : AreRecords (at 1 (varint 1) ∷ []) (8 ∷ 1 ∷ [])
unfolding shortest shortest_within
inner = spelled (at 1 (varint 1) ∷ []) (8 ∷ 1 ∷ []) (omega arith, tt) ((omega arith, omega arith), tt, tt) refl

whole : AreRecords (records) (bytes)
unfolding shortest shortest_within
whole = spelled (records) (bytes) ((omega arith, tt), ((omega arith, (omega arith, tt)), ((omega arith, (omega arith, (omega arith, (omega arith, (omega arith, tt))))), ((omega arith, (omega arith, (omega arith, (omega arith, (omega arith, (omega arith, tt)))))), ((omega arith, tt), ((omega arith, tt), tt)))))) ((omega arith, omega arith), omega arith, ((omega arith, omega arith), omega arith, ((omega arith, omega arith), omega arith, ((omega arith, omega arith), omega arith, ((omega arith, omega arith), ((omega arith, omega arith), tt, tt), ((omega arith, omega arith), omega arith, tt)))))) refl

z_text : IsUtf8 (0x7a ∷ [])
unfolding lib.Utf8.encode
z_text = (0x7a ∷ [], (refl, refl))

k_text : IsUtf8 (0x6b ∷ [])
unfolding lib.Utf8.encode
k_text = (0x6b ∷ [], (refl, refl))

three_four : AreElements a_varint (3 ∷ 4 ∷ [])
three_four =
    element {first = 3 ∷ []} {others = 4 ∷ []} (varint_element {n = 3} (record { size = omega arith; ends = omega arith; value = refl }))
    (element {first = 4 ∷ []} {others = []} (varint_element {n = 4} (record { size = omega arith; ends = omega arith; value = refl })) no_elements refl) refl

-- within a depth of one level: a message in a map entry is at the entry's level
text_of_each : Text pool 0 (record { bytes = 31; depth = 1 }) bytes told
unfolding value value_within records_spelled front_within first_varint after_varint named_length
text_of_each = record {
  size = omega arith;
  derives = record {
    records = records;
    spelled = whole;
    sound =
        one {r = at 2 (len (0x7a ∷ []))} (a_text refl z_text)
        (one {r = at 6 (len (3 ∷ 4 ∷ []))} (a_list refl three_four)
        (one {r = at 9 (len (0x0a ∷ 1 ∷ 0x6b ∷ 0x10 ∷ 7 ∷ []))} (a_message refl entry_1 (one {r = at 1 (len (0x6b ∷ []))} (a_text refl k_text) (one is_varint none)))
        (one {r = at 12 (len (8 ∷ 3 ∷ 0x12 ∷ 2 ∷ 8 ∷ 1 ∷ []))} (a_message refl entry_2 (one is_varint (one {r = at 2 (len (8 ∷ 1 ∷ []))} (a_value refl inner (one is_varint none)) none)))
        (one {r = at 20 (group (more 1 (varint 1) no_more))} (a_group {rs = at 1 (varint 1) ∷ []} refl (one is_varint none))
        (one {r = at 1 (len (0x41 ∷ []))} (some_bytes refl) none)))));
    valued = refl;
  };
}
