-- The rules that compare a declaration with the others of its message or enum. `true` says that the rule holds.
use Rattle.std.specs.Prelude.{ℕ, ℤ, pos, negsuc, ◌+◌, List, [], ◌∷◌, length, take, Bool, true, false, not}
use Rattle.std.specs.Prelude.{◌==◌, ◌&&◌, ◌||◌, nat_lt, int_lt, int_le, if◌then◌else◌, Option, Some, None}
use Rattle.std.specs.List.{list_any, list_all, enumerate_from}
use Rattle.std.specs.Option.{option_map_or}
use Rattle.std.specs.Ordering.{int_eq}
use Rattle.std.specs.Str.{bytes_eq}
use Rattle.pb_declarations.specs.Decls.{DeclaredField, MessageHead}
use Rattle.pb_link_names.specs.Declarations.{Item, a_file, a_message, a_field, a_oneof, an_enum, a_value, a_service, a_method, is_member_of, is_synthetic}

-- NUMBERS

-- NumberTaken: no earlier field has the number; no earlier value, unless the enum allows that
abbrev pub number_is_free : Item → Bool
number_is_free (a_field head i f) = not (list_any (λ g. int_eq f.number g.number) (take i head.fields))
number_is_free (a_value e i v) = e.allows_alias || not (list_any (λ u. int_eq v.1 u.1) (take i e.values))
number_is_free (a_file f) = true
number_is_free (a_message head inner) = true
number_is_free (a_oneof head i name) = true
number_is_free (an_enum e) = true
number_is_free (a_service s) = true
number_is_free (a_method m) = true

-- a number is in a range of a message, whose end is exclusive, and in one of an enum, whose end is inclusive
abbrev pub is_in_message_range : ℤ → ℤ × ℤ → Bool
is_in_message_range n r = int_le r.0 n && int_lt n r.1

abbrev pub is_in_enum_range : ℤ → ℤ × ℤ → Bool
is_in_enum_range n r = int_le r.0 n && int_le n r.1

-- Reserved: neither number nor name is reserved in its message or enum
abbrev pub is_not_reserved : Item → Bool
is_not_reserved (a_field head i f) =
    not (list_any (is_in_message_range f.number) head.reserved) && not (list_any (bytes_eq f.name) head.reserved_names)
is_not_reserved (a_value e i v) =
    not (list_any (is_in_enum_range v.1) e.reserved) && not (list_any (bytes_eq v.0) e.reserved_names)
is_not_reserved (a_file f) = true
is_not_reserved (a_message head inner) = true
is_not_reserved (a_oneof head i name) = true
is_not_reserved (an_enum e) = true
is_not_reserved (a_service s) = true
is_not_reserved (a_method m) = true

-- ONEOFS

abbrev pub same_oneof : Option ℤ → Option ℤ → Bool
same_oneof (Some i) (Some j) = int_eq i j
same_oneof (Some i) None = false
same_oneof None other = false

abbrev pub how_many : (DeclaredField → Bool) → List DeclaredField → ℕ
how_many test [] = 0
how_many test (g ∷ gs) = (if test g then 1 else 0) + how_many test gs

-- the fields in the oneof of a field, itself too
abbrev pub members_with : MessageHead → DeclaredField → ℕ
members_with head f = how_many (λ g. same_oneof f.oneof g.oneof) head.fields

-- BadOneof at a field: the oneof's index lies in the list and the member is not repeated; an optional field is the only member of a oneof
abbrev pub oneof_of_field_is_right : MessageHead → DeclaredField → Bool
oneof_of_field_is_right head f = option_map_or is_index f.oneof true && (not f.is_optional || (members_with head f == 1))
  where
    is_index : ℤ → Bool
    is_index (pos o) = nat_lt o (length head.oneofs) && not f.is_repeated
    is_index (negsuc o) = false

-- BadOneof at a oneof: it has a member; a real one does not follow a synthetic one
abbrev pub oneof_is_right : MessageHead → ℕ → Bool
oneof_is_right head o =
    list_any (is_member_of o) head.fields
    && (is_synthetic head o || not (list_any (λ e. is_synthetic head e.0) (take o (enumerate_from 0 head.oneofs))))

abbrev pub is_oneof_right : Item → Bool
is_oneof_right (a_field head i f) = oneof_of_field_is_right head f
is_oneof_right (a_oneof head o name) = oneof_is_right head o
is_oneof_right (a_file f) = true
is_oneof_right (a_message head inner) = true
is_oneof_right (an_enum e) = true
is_oneof_right (a_value e i v) = true
is_oneof_right (a_service s) = true
is_oneof_right (a_method m) = true

-- RANGES

-- two ranges have a number in common
abbrev pub message_ranges_overlap : ℤ × ℤ → ℤ × ℤ → Bool
message_ranges_overlap r s = int_lt r.0 s.1 && int_lt s.0 r.1

abbrev pub enum_ranges_overlap : ℤ × ℤ → ℤ × ℤ → Bool
enum_ranges_overlap r s = int_le r.0 s.1 && int_le s.0 r.1

abbrev pub none_overlap : (ℤ × ℤ → ℤ × ℤ → Bool) → List (ℤ × ℤ) → Bool
none_overlap overlap [] = true
none_overlap overlap (r ∷ rs) = not (list_any (overlap r) rs) && none_overlap overlap rs

abbrev pub is_message_range : ℤ × ℤ → Bool
is_message_range r = int_le (pos 1) r.0 && int_lt r.0 r.1 && int_le r.1 (pos 536870912)

abbrev pub is_enum_range : ℤ × ℤ → Bool
is_enum_range r = int_le r.0 r.1

-- BadRange: in a message 1 <= start < end <= 536,870,912, in an enum start <= end; no two ranges overlap
abbrev pub ranges_are_right : Item → Bool
ranges_are_right (a_message head inner) = list_all is_message_range head.reserved && none_overlap message_ranges_overlap head.reserved
ranges_are_right (an_enum e) = list_all is_enum_range e.reserved && none_overlap enum_ranges_overlap e.reserved
ranges_are_right (a_file f) = true
ranges_are_right (a_field head i f) = true
ranges_are_right (a_oneof head i name) = true
ranges_are_right (a_value e i v) = true
ranges_are_right (a_service s) = true
ranges_are_right (a_method m) = true
