-- Worked rows of pushes and insertions, computed: why they are refused, and what they leave.
use Rattle.std.proofs.Common.{◌≡◌, ℕ, zero, suc, [], ◌∷◌, Some, None, refl}
use Rattle.std.specs.Prelude.{pos}
use Rattle.pb_wire.specs.Record.{varint}
use Rattle.pb_schema.specs.Scalar.{Scalar, int32, uint32, text}
use Rattle.pb_value.specs.Data.{Datum, scalar, message, no_datums, datum, no_entries, entry, one, list, map, Fields, no_fields, field, Message, body, empty}
use Rattle.pb_value.specs.Change.{push_at, insert_at, entry_at, push_cause, insert_cause}
use Rattle.pb_value.specs.declared.error.ValueError.TheVariants.{NoSuchField, WrongKind, WrongShape, DefaultStored, TwoMembers, KnownAsUnknown, TooDeep}
use Rattle.pb_value.proofs.Table.{pool, wide_pool}

abbrev int : ℕ → Datum
int n = scalar (int32 (pos n))

-- the text of one letter, as a key
abbrev letter : ℕ → Scalar
letter c = text (c ∷ [])

-- a message of wide_pool with a stored default, and one with two members of a oneof
abbrev inner_default : Message
inner_default = body (field 1 (one (int 0)) no_fields) []

abbrev inner_members : Message
inner_members = body (field 2 (one (message empty)) (field 3 (one (int 1)) no_fields)) []

-- a message in the field of a number of a message, and so on
abbrev below : ℕ → ℕ → Message
below k zero = empty
below k (suc n) = body (field k (one (message (below k n))) no_fields) []

abbrev nested : ℕ → Message
nested n = below 7 n

push_without_field : push_cause pool 0 99 (int 1) ≡ Some NoSuchField
push_without_field = refl

push_text_at_numbers : push_cause pool 0 6 (scalar (letter 0x61)) ≡ Some WrongKind
push_text_at_numbers = refl

push_text_at_one_number : push_cause pool 0 1 (scalar (letter 0x61)) ≡ Some WrongKind
push_text_at_one_number = refl

push_number_at_one_number : push_cause pool 0 1 (int 4) ≡ Some WrongShape
push_number_at_one_number = refl

push_message_at_numbers : push_cause pool 0 6 (message empty) ≡ Some WrongKind
push_message_at_numbers = refl

push_number_at_messages : push_cause wide_pool 0 6 (int 1) ≡ Some WrongKind
push_number_at_messages = refl

push_number_at_a_map : push_cause pool 0 9 (int 1) ≡ Some WrongShape
push_number_at_a_map = refl

push_member : push_cause pool 0 7 (scalar (uint32 1)) ≡ Some WrongShape
push_member = refl

-- the shape is judged before what is inside
push_message_at_one_message : push_cause pool 0 3 (message inner_default) ≡ Some WrongShape
push_message_at_one_message = refl

push_default_inside : push_cause wide_pool 0 6 (message inner_default) ≡ Some DefaultStored
push_default_inside = refl

push_two_members_inside : push_cause wide_pool 0 6 (message inner_members) ≡ Some TwoMembers
push_two_members_inside = refl

push_unknown_that_fits_inside : push_cause wide_pool 0 6 (message (body no_fields (record { number = 1; payload = varint 1 } ∷ []))) ≡ Some KnownAsUnknown
push_unknown_that_fits_inside = refl

push_ninety_nine_levels : push_cause wide_pool 0 6 (message (nested 99)) ≡ None
push_ninety_nine_levels = refl

push_hundred_levels : push_cause wide_pool 0 6 (message (nested 100)) ≡ Some TooDeep
push_hundred_levels = refl

push_depth_last : push_cause wide_pool 0 6 (message (body (field 1 (one (int 0)) (field 7 (one (message (nested 99))) no_fields)) [])) ≡ Some DefaultStored
push_depth_last = refl

push_number_at_numbers : push_cause pool 0 6 (int 0) ≡ None
push_number_at_numbers = refl

push_first : push_at 6 (int 0) no_fields ≡ field 6 (list (datum (int 0) no_datums)) no_fields
push_first = refl

push_last :
    push_at 6 (int 0) (field 2 (one (scalar (letter 0x61))) (field 6 (list (datum (int 3) no_datums)) no_fields))
    ≡ field 2 (one (scalar (letter 0x61))) (field 6 (list (datum (int 3) (datum (int 0) no_datums))) no_fields)
push_last = refl

insert_without_field : insert_cause pool 0 99 (letter 0x6b) (int 7) ≡ Some NoSuchField
insert_without_field = refl

insert_message_at_numbers : insert_cause pool 0 9 (letter 0x6b) (message empty) ≡ Some WrongKind
insert_message_at_numbers = refl

insert_number_at_messages : insert_cause pool 0 12 (uint32 1) (int 7) ≡ Some WrongKind
insert_number_at_messages = refl

insert_at_one_number : insert_cause pool 0 1 (letter 0x6b) (int 7) ≡ Some WrongShape
insert_at_one_number = refl

-- the kind is judged before the shape, and where the field is no map no key is judged
insert_text_at_a_list : insert_cause pool 0 6 (letter 0x6b) (scalar (letter 0x61)) ≡ Some WrongKind
insert_text_at_a_list = refl

insert_two_members_inside : insert_cause pool 0 12 (uint32 1) (message (body (field 7 (one (scalar (uint32 5))) (field 8 (one (message empty)) no_fields)) [])) ≡ Some TwoMembers
insert_two_members_inside = refl

insert_unknown_that_fits_inside : insert_cause pool 0 12 (uint32 1) (message (body no_fields (record { number = 1; payload = varint 1 } ∷ []))) ≡ Some KnownAsUnknown
insert_unknown_that_fits_inside = refl

insert_ninety_nine_levels : insert_cause pool 0 12 (uint32 1) (message (below 3 99)) ≡ None
insert_ninety_nine_levels = refl

insert_hundred_levels : insert_cause pool 0 12 (uint32 1) (message (below 3 100)) ≡ Some TooDeep
insert_hundred_levels = refl

insert_number_as_text_key : insert_cause pool 0 9 (int32 (pos 1)) (int 7) ≡ Some WrongKind
insert_number_as_text_key = refl

insert_text_at_numbers : insert_cause pool 0 9 (letter 0x6b) (scalar (letter 0x61)) ≡ Some WrongKind
insert_text_at_numbers = refl

insert_at_a_list : insert_cause pool 0 6 (letter 0x6b) (int 7) ≡ Some WrongShape
insert_at_a_list = refl

insert_default_inside : insert_cause pool 0 12 (uint32 1) (message (body (field 1 (one (int 0)) no_fields) [])) ≡ Some DefaultStored
insert_default_inside = refl

insert_message : insert_cause pool 0 12 (uint32 1) (message empty) ≡ None
insert_message = refl

abbrev one_entry : Fields
one_entry = field 9 (map (entry (letter 0x6b) (int 7) no_entries)) no_fields

insert_first : insert_at 9 (letter 0x6b) (int 7) no_fields ≡ one_entry
insert_first = refl

insert_again : insert_at 9 (letter 0x6b) (int 8) one_entry ≡ field 9 (map (entry (letter 0x6b) (int 8) no_entries)) no_fields
insert_again = refl

insert_below : insert_at 9 (letter 0x6a) (int 8) one_entry ≡ field 9 (map (entry (letter 0x6a) (int 8) (entry (letter 0x6b) (int 7) no_entries))) no_fields
insert_below = refl

stood_before : entry_at 9 (letter 0x6b) one_entry ≡ Some (int 7)
stood_before = refl

none_before : entry_at 9 (letter 0x6a) one_entry ≡ None
none_before = refl
