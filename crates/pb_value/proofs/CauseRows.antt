-- Worked rows of bodies and of contents that are set, computed: why they are refused, and what setting leaves.
use Rattle.std.proofs.Common.{◌≡◌, ℕ, zero, suc, [], ◌∷◌, Some, None, refl}
use Rattle.std.specs.Prelude.{pos, false}
use Rattle.pb_wire.specs.Record.{Payload, varint, fixed64, len, group, no_more, more}
use Rattle.pb_schema.specs.Scalar.{int32, uint32, boolean, text}
use Rattle.pb_schema.specs.Types.{message_fields}
use Rattle.pb_value.specs.Data.{Datum, scalar, message, no_datums, datum, no_entries, entry, Holding, one, list, map, no_fields, field, Message, body, fields_of, empty}
use Rattle.pb_value.specs.Canon.{canon_bytes}
use Rattle.pb_wire.specs.Varint.{shortest, shortest_within}
use Rattle.pb_value.specs.Cause.{message_cause}
use Rattle.pb_value.specs.Change.{set_at, set_cause}
use Rattle.pb_value.specs.Oneof.{member_set}
use Rattle.pb_value.specs.declared.error.ValueError.TheVariants.{NoSuchField, WrongKind, WrongShape, DefaultStored, TwoMembers, KnownAsUnknown, TooDeep}
use Rattle.pb_value.proofs.Table.{pool, wide_pool}

abbrev int : ℕ → Datum
int n = scalar (int32 (pos n))

abbrev only : Holding → ℕ → Message
only h n = body (field n h no_fields) []

abbrev unknown : ℕ → Payload → Message
unknown n p = body no_fields (record { number = n; payload = p } ∷ [])

-- a message in the field 3 of a message, and so on
abbrev nested : ℕ → Message
nested zero = empty
nested (suc n) = only (one (message (nested n))) 3

-- the text of one letter
abbrev letter : Datum
letter = scalar (text (0x61 ∷ []))

-- a message with a stored default, and one with two members of a oneof
abbrev inner_default : Message
inner_default = only (one (int 0)) 1

abbrev inner_members : Message
inner_members = body (field 7 (one (scalar (uint32 5))) (field 8 (one (message empty)) no_fields)) []

-- a group in a group, and so on
abbrev groups : ℕ → Payload
groups zero = varint 1
groups (suc n) = group (more 1 (groups n) no_more)

-- BODIES

empty_body : message_cause pool 0 empty ≡ None
empty_body = refl

field_of_no_type : message_cause pool 0 (only (one (int 1)) 99) ≡ Some NoSuchField
field_of_no_type = refl

-- another kind, singly, in a list, as a key and under one, and inside a message
text_for_a_number : message_cause pool 0 (only (one letter) 1) ≡ Some WrongKind
text_for_a_number = refl

message_for_a_number : message_cause pool 0 (only (one (message empty)) 1) ≡ Some WrongKind
message_for_a_number = refl

number_for_a_message : message_cause pool 0 (only (one (int 1)) 3) ≡ Some WrongKind
number_for_a_message = refl

text_among_numbers : message_cause pool 0 (only (list (datum (int 1) (datum letter no_datums))) 6) ≡ Some WrongKind
text_among_numbers = refl

number_for_a_text_key : message_cause pool 0 (only (map (entry (int32 (pos 1)) (int 1) no_entries)) 9) ≡ Some WrongKind
number_for_a_text_key = refl

text_under_a_key : message_cause pool 0 (only (map (entry (text []) letter no_entries)) 9) ≡ Some WrongKind
text_under_a_key = refl

kind_inside_a_message : message_cause pool 0 (only (one (message (only (one letter) 1))) 3) ≡ Some WrongKind
kind_inside_a_message = refl

-- each shape in place of each other one
one_for_a_list : message_cause pool 0 (only (one (int 1)) 6) ≡ Some WrongShape
one_for_a_list = refl

one_for_a_map : message_cause pool 0 (only (one (int 1)) 9) ≡ Some WrongShape
one_for_a_map = refl

list_for_one : message_cause pool 0 (only (list (datum (int 1) no_datums)) 1) ≡ Some WrongShape
list_for_one = refl

list_for_a_map : message_cause pool 0 (only (list (datum (int 1) no_datums)) 9) ≡ Some WrongShape
list_for_a_map = refl

map_for_one : message_cause pool 0 (only (map (entry (text []) (int 1) no_entries)) 1) ≡ Some WrongShape
map_for_one = refl

map_for_a_list : message_cause pool 0 (only (map (entry (text []) (int 1) no_entries)) 6) ≡ Some WrongShape
map_for_a_list = refl

list_for_a_member : message_cause pool 0 (only (list (datum (scalar (uint32 1)) no_datums)) 7) ≡ Some WrongShape
list_for_a_member = refl

kind_before_shape : message_cause pool 0 (only (one letter) 6) ≡ Some WrongKind
kind_before_shape = refl

shape_before_default : message_cause pool 0 (only (list no_datums) 1) ≡ Some WrongShape
shape_before_default = refl

-- explicit fields and members of oneofs may hold their default, and so may elements and entries
explicit_default : message_cause pool 0 (only (one (scalar (boolean false))) 10) ≡ None
explicit_default = refl

member_default : message_cause pool 0 (only (one (scalar (uint32 0))) 7) ≡ None
member_default = refl

element_default : message_cause pool 0 (only (list (datum (int 0) no_datums)) 6) ≡ None
element_default = refl

entry_default : message_cause pool 0 (only (map (entry (text []) (int 0) no_entries)) 9) ≡ None
entry_default = refl

default_inside_a_message : message_cause pool 0 (only (one (message inner_default)) 3) ≡ Some DefaultStored
default_inside_a_message = refl

default_inside_an_element : message_cause wide_pool 0 (only (list (datum (message inner_default) no_datums)) 6) ≡ Some DefaultStored
default_inside_an_element = refl

default_inside_an_entry : message_cause pool 0 (only (map (entry (uint32 1) (message inner_default) no_entries)) 12) ≡ Some DefaultStored
default_inside_an_entry = refl

-- the field's own causes come before what is wrong inside its messages
own_cause_before_inner : message_cause wide_pool 0 (only (list (datum (message inner_default) (datum (int 1) no_datums))) 6) ≡ Some WrongKind
own_cause_before_inner = refl

members_of_two_oneofs : message_cause wide_pool 0 (body (field 3 (one (int 1)) (field 5 (one (int 1)) no_fields)) []) ≡ None
members_of_two_oneofs = refl

two_members_inside : message_cause pool 0 (only (one (message inner_members)) 3) ≡ Some TwoMembers
two_members_inside = refl

stored_default : message_cause pool 0 (only (one (int 0)) 1) ≡ Some DefaultStored
stored_default = refl

stored_empty_list : message_cause pool 0 (only (list no_datums) 6) ≡ Some DefaultStored
stored_empty_list = refl

stored_empty_map : message_cause pool 0 (only (map no_entries) 9) ≡ Some DefaultStored
stored_empty_map = refl

two_members : message_cause pool 0 (body (field 7 (one (scalar (uint32 5))) (field 8 (one (message empty)) no_fields)) []) ≡ Some TwoMembers
two_members = refl

-- a second member is reported before what is inside it, and another kind before that
second_member_first : message_cause pool 0 (body (field 7 (one (scalar (uint32 5))) (field 8 (one (message (only (one (int 0)) 1))) no_fields)) []) ≡ Some TwoMembers
second_member_first = refl

kind_of_second_member_first : message_cause pool 0 (body (field 7 (one (scalar (uint32 5))) (field 8 (one (int 1)) no_fields)) []) ≡ Some WrongKind
kind_of_second_member_first = refl

unknown_of_number_0 : message_cause pool 0 (unknown 0 (varint 1)) ≡ Some NoSuchField
unknown_of_number_0 = refl

unknown_of_number_0_in_a_group : message_cause pool 0 (unknown 20 (group (more 0 (varint 1) no_more))) ≡ Some NoSuchField
unknown_of_number_0_in_a_group = refl

unknown_that_fits : message_cause pool 0 (unknown 1 (varint 1)) ≡ Some KnownAsUnknown
unknown_that_fits = refl

unknown_of_too_large_a_number : message_cause pool 0 (unknown 536870912 (varint 1)) ≡ Some NoSuchField
unknown_of_too_large_a_number = refl

unknown_of_the_largest_number : message_cause pool 0 (unknown 536870911 (varint 1)) ≡ None
unknown_of_the_largest_number = refl

too_large_a_number_in_a_group : message_cause pool 0 (unknown 20 (group (more 1 (group (more 536870912 (varint 1) no_more)) no_more))) ≡ Some NoSuchField
too_large_a_number_in_a_group = refl

unknown_of_another_wire_type : message_cause pool 0 (unknown 1 (fixed64 1)) ≡ None
unknown_of_another_wire_type = refl

-- a list takes its elements one by one and packed
unknown_elements : message_cause pool 0 (unknown 6 (varint 1)) ≡ Some KnownAsUnknown
unknown_elements = refl

unknown_packed_elements : message_cause pool 0 (unknown 6 (len [])) ≡ Some KnownAsUnknown
unknown_packed_elements = refl

unknown_entry : message_cause pool 0 (unknown 9 (len [])) ≡ Some KnownAsUnknown
unknown_entry = refl

known_number_in_a_group : message_cause pool 0 (unknown 20 (group (more 1 (varint 1) no_more))) ≡ None
known_number_in_a_group = refl

unknown_inside_a_message : message_cause pool 0 (only (one (message (unknown 1 (varint 1)))) 3) ≡ Some KnownAsUnknown
unknown_inside_a_message = refl

first_unknown_first : message_cause pool 0 (body no_fields (record { number = 1; payload = varint 1 } ∷ record { number = 0; payload = varint 1 } ∷ [])) ≡ Some KnownAsUnknown
first_unknown_first = refl

-- fields are judged before unknown records, by rising number
lower_number_first : message_cause pool 0 (body (field 1 (one (int 0)) (field 99 (one (int 1)) no_fields)) []) ≡ Some DefaultStored
lower_number_first = refl

fields_first : message_cause pool 0 (body (field 1 (one (int 0)) no_fields) (record { number = 0; payload = varint 1 } ∷ [])) ≡ Some DefaultStored
fields_first = refl

hundred_levels : message_cause pool 0 (nested 100) ≡ None
hundred_levels = refl

one_level_more : message_cause pool 0 (nested 101) ≡ Some TooDeep
one_level_more = refl

hundred_groups : message_cause pool 0 (unknown 20 (groups 100)) ≡ None
hundred_groups = refl

one_group_more : message_cause pool 0 (unknown 20 (groups 101)) ≡ Some TooDeep
one_group_more = refl

-- an entry and the message in it are one level
entry_at_the_deepest_level : message_cause pool 0 (only (map (entry (uint32 1) (message (nested 99)) no_entries)) 12) ≡ None
entry_at_the_deepest_level = refl

entry_one_level_too_deep : message_cause pool 0 (only (map (entry (uint32 1) (message (nested 100)) no_entries)) 12) ≡ Some TooDeep
entry_one_level_too_deep = refl

-- the depth is reported last
depth_last : message_cause pool 0 (body (field 3 (one (message (nested 100))) (field 99 (one (int 1)) no_fields)) []) ≡ Some NoSuchField
depth_last = refl

-- SETTING

set_without_field : set_cause pool 0 99 (one (int 1)) ≡ Some NoSuchField
set_without_field = refl

set_text_at_a_number : set_cause pool 0 1 (one letter) ≡ Some WrongKind
set_text_at_a_number = refl

set_one_at_a_list : set_cause pool 0 6 (one (int 1)) ≡ Some WrongShape
set_one_at_a_list = refl

set_hundred_levels : set_cause pool 0 3 (one (message (nested 100))) ≡ Some TooDeep
set_hundred_levels = refl

set_second_text : set_cause pool 0 6 (list (datum (int 1) (datum letter no_datums))) ≡ Some WrongKind
set_second_text = refl

set_number_for_a_text_key : set_cause pool 0 9 (map (entry (int32 (pos 1)) (int 1) no_entries)) ≡ Some WrongKind
set_number_for_a_text_key = refl

set_text_under_a_key : set_cause pool 0 9 (map (entry (text []) letter no_entries)) ≡ Some WrongKind
set_text_under_a_key = refl

set_message_for_a_number : set_cause pool 0 1 (one (message empty)) ≡ Some WrongKind
set_message_for_a_number = refl

set_number_for_a_message : set_cause pool 0 3 (one (int 1)) ≡ Some WrongKind
set_number_for_a_message = refl

set_kind_before_shape : set_cause pool 0 6 (one letter) ≡ Some WrongKind
set_kind_before_shape = refl

set_one_at_a_map : set_cause pool 0 9 (one (int 1)) ≡ Some WrongShape
set_one_at_a_map = refl

set_list_at_one : set_cause pool 0 1 (list (datum (int 1) no_datums)) ≡ Some WrongShape
set_list_at_one = refl

set_list_at_a_map : set_cause pool 0 9 (list (datum (int 1) no_datums)) ≡ Some WrongShape
set_list_at_a_map = refl

set_map_at_one : set_cause pool 0 1 (map (entry (text []) (int 1) no_entries)) ≡ Some WrongShape
set_map_at_one = refl

set_map_at_a_list : set_cause pool 0 6 (map (entry (text []) (int 1) no_entries)) ≡ Some WrongShape
set_map_at_a_list = refl

set_default_inside_an_element : set_cause wide_pool 0 6 (list (datum (message inner_default) no_datums)) ≡ Some DefaultStored
set_default_inside_an_element = refl

set_default_inside_an_entry : set_cause pool 0 12 (map (entry (uint32 1) (message inner_default) no_entries)) ≡ Some DefaultStored
set_default_inside_an_entry = refl

set_two_members_inside : set_cause pool 0 3 (one (message inner_members)) ≡ Some TwoMembers
set_two_members_inside = refl

set_unknown_that_fits_inside : set_cause pool 0 3 (one (message (unknown 1 (varint 1)))) ≡ Some KnownAsUnknown
set_unknown_that_fits_inside = refl

set_no_field_inside : set_cause pool 0 3 (one (message (only (one (int 1)) 99))) ≡ Some NoSuchField
set_no_field_inside = refl

set_ninety_nine_levels : set_cause pool 0 3 (one (message (nested 99))) ≡ None
set_ninety_nine_levels = refl

set_entry_of_ninety_nine_levels : set_cause pool 0 12 (map (entry (uint32 1) (message (nested 99)) no_entries)) ≡ None
set_entry_of_ninety_nine_levels = refl

set_entry_of_hundred_levels : set_cause pool 0 12 (map (entry (uint32 1) (message (nested 100)) no_entries)) ≡ Some TooDeep
set_entry_of_hundred_levels = refl

set_depth_last : set_cause pool 0 3 (one (message (body (field 1 (one (int 0)) (field 3 (one (message (nested 99))) no_fields)) []))) ≡ Some DefaultStored
set_depth_last = refl

-- what an absent field has too may be set, and the member of a oneof that has one
set_no_elements : set_cause pool 0 6 (list no_datums) ≡ None
set_no_elements = refl

set_no_entries : set_cause pool 0 9 (map no_entries) ≡ None
set_no_entries = refl

set_member : set_cause pool 0 8 (one (message empty)) ≡ None
set_member = refl

set_default_inside : set_cause pool 0 3 (one (message (only (one (int 0)) 1))) ≡ Some DefaultStored
set_default_inside = refl

set_default : set_cause pool 0 1 (one (int 0)) ≡ None
set_default = refl

nothing_is_stored : set_at (message_fields pool 0) 1 (one (int 0)) no_fields ≡ no_fields
nothing_is_stored = refl

default_clears : set_at (message_fields pool 0) 1 (one (int 0)) (fields_of (only (one (int 5)) 1)) ≡ no_fields
default_clears = refl

empty_list_clears : set_at (message_fields pool 0) 6 (list no_datums) (fields_of (only (one (int 5)) 1)) ≡ fields_of (only (one (int 5)) 1)
empty_list_clears = refl

-- a member of a oneof in place of the one that is set
member_takes_over : set_at (message_fields pool 0) 8 (one (message empty)) (set_at (message_fields pool 0) 7 (one (scalar (uint32 5))) no_fields) ≡ fields_of (only (one (message empty)) 8)
member_takes_over = refl

written_member : canon_bytes pool 0 (only (one (message empty)) 8) ≡ 0x42 ∷ 0 ∷ []
unfolding shortest shortest_within
written_member = refl

-- WHICH MEMBER IS SET

no_member_set : member_set (message_fields pool 0) 0 (fields_of (only (one (int 5)) 1)) ≡ None
no_member_set = refl

first_member_set : member_set (message_fields pool 0) 0 (field 1 (one (int 5)) (field 7 (one (scalar (uint32 0))) no_fields)) ≡ Some 7
first_member_set = refl

member_of_no_oneof : member_set (message_fields pool 0) 1 (field 7 (one (scalar (uint32 5))) no_fields) ≡ None
member_of_no_oneof = refl
