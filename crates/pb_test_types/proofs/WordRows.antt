-- Words with what they stand for, each worked out by the definitions.
use Rattle.std.proofs.Common.{◌≡◌, ℕ, [], ◌∷◌, refl}
use Rattle.std.specs.Prelude.{pos, negsuc, true, false, codes, Some, None}
use Rattle.hex.proofs.OnLiterals.{hex_on_literals}
use Rattle.pb_wire.specs.Record.{varint, fixed64, len, group, fixed32, no_more, more}
use Rattle.pb_schema.specs.Scalar.{int32, int64, uint32, uint64, boolean, float, double, enum, text, bytes}
use Rattle.pb_value.specs.Data.{Datum, scalar, message, no_datums, datum, no_entries, entry, one, list, map, no_fields, field, Message, body, empty}
use Rattle.pb_test_types.specs.Words.{value_word, key_word, content_word, payload_word, body_words}

-- ---- scalars, each letter, and the bounds of numbers
int32_word : value_word (codes "i-5") ≡ Some (scalar (int32 (negsuc 4)))
int32_word = refl

int32_plus : value_word (codes "i+5") ≡ Some (scalar (int32 (pos 5)))
int32_plus = refl

int32_least : value_word (codes "i-2147483648") ≡ Some (scalar (int32 (negsuc 2147483647)))
int32_least = refl

int32_above : value_word (codes "i2147483648") ≡ None
int32_above = refl

int32_below : value_word (codes "i-2147483649") ≡ None
int32_below = refl

int64_word : value_word (codes "I2147483648") ≡ Some (scalar (int64 (pos 2147483648)))
int64_word = refl

uint32_most : value_word (codes "u4294967295") ≡ Some (scalar (uint32 4294967295))
uint32_most = refl

uint32_above : value_word (codes "u4294967296") ≡ None
uint32_above = refl

uint32_minus : value_word (codes "u-1") ≡ None
uint32_minus = refl

uint64_word : value_word (codes "U4294967296") ≡ Some (scalar (uint64 4294967296))
uint64_word = refl

uint64_above : value_word (codes "U18446744073709551616") ≡ None
uint64_above = refl

bool_true : value_word (codes "b1") ≡ Some (scalar (boolean true))
bool_true = refl

bool_false : value_word (codes "b0") ≡ Some (scalar (boolean false))
bool_false = refl

float_word : value_word (codes "f1065353216") ≡ Some (scalar (float 1065353216))
float_word = refl

double_word : value_word (codes "F9223372036854775808") ≡ Some (scalar (double 9223372036854775808))
double_word = refl

enum_word : value_word (codes "e-1") ≡ Some (scalar (enum (negsuc 0)))
enum_word = refl

text_word : value_word (codes "tab") ≡ Some (scalar (text (97 ∷ 98 ∷ [])))
text_word = refl

text_empty : value_word (codes "t") ≡ Some (scalar (text []))
text_empty = refl

hex_word : value_word (codes "x0aff") ≡ Some (scalar (bytes (10 ∷ 255 ∷ [])))
unfolding hex_on_literals
hex_word = refl

hex_odd : value_word (codes "x0") ≡ None
unfolding hex_on_literals
hex_odd = refl

bytes_word : value_word (codes "yab") ≡ Some (scalar (bytes (97 ∷ 98 ∷ [])))
bytes_word = refl

no_word : value_word [] ≡ None
no_word = refl

no_letter : value_word (codes "q5") ≡ None
no_letter = refl

no_digits : value_word (codes "i") ≡ None
no_digits = refl

no_number : value_word (codes "i5a") ≡ None
no_number = refl

-- ---- messages
abbrev int : ℕ → Datum
int n = scalar (int32 (pos n))

abbrev just : ℕ → Datum → Message
just n d = body (field n (one d) no_fields) []

flat : value_word (codes "m11=i2;1=tx;11=i3") ≡ Some (message (body (field 1 (one (scalar (text (120 ∷ [])))) (field 11 (one (int 3)) no_fields)) []))
flat = refl

flat_empty : value_word (codes "m") ≡ Some (message empty)
flat_empty = refl

flat_refused : value_word (codes "m1=i5;2") ≡ None
flat_refused = refl

nested_twice : value_word (codes "n2.1=i5") ≡ Some (message (just 3 (message (just 3 (message (just 1 (int 5)))))))
nested_twice = refl

nested_never : value_word (codes "n0") ≡ Some (message empty)
nested_never = refl

nested_entry : value_word (codes "w1") ≡ Some (message (just 3 (message (body (field 12 (map (entry (uint32 0) (message empty) no_entries)) no_fields) []))))
nested_entry = refl

-- ---- keys
text_key : key_word (codes "tk") ≡ Some (text (107 ∷ []))
text_key = refl

bool_key : key_word (codes "b1") ≡ Some (boolean true)
bool_key = refl

float_key : key_word (codes "f0") ≡ None
float_key = refl

message_key : key_word (codes "m1=i5") ≡ None
message_key = refl

-- ---- contents
list_content : content_word (codes "[i1,i0]") ≡ Some (list (datum (int 1) (datum (int 0) no_datums)))
list_content = refl

list_empty : content_word (codes "[]") ≡ Some (list no_datums)
list_empty = refl

list_open : content_word (codes "[i1") ≡ None
list_open = refl

list_behind : content_word (codes "[i1]x") ≡ None
list_behind = refl

list_refused : content_word (codes "[i1,q]") ≡ None
list_refused = refl

-- by rising keys, and the last of one key
map_content : content_word (codes "{u2=i1,u1=i2,u2=i3}") ≡ Some (map (entry (uint32 1) (int 2) (entry (uint32 2) (int 3) no_entries)))
map_content = refl

map_forms : content_word (codes "{ta=i1,u5=i2,i9=i3}") ≡ Some (map (entry (int32 (pos 9)) (int 3) (entry (uint32 5) (int 2) (entry (text (97 ∷ [])) (int 1) no_entries))))
map_forms = refl

map_messages : content_word (codes "{u1=m1=i1;2=i3}") ≡ Some (map (entry (uint32 1) (message (body (field 1 (one (int 1)) (field 2 (one (int 3)) no_fields)) [])) no_entries))
map_messages = refl

map_empty : content_word (codes "{}") ≡ Some (map no_entries)
map_empty = refl

map_refused : content_word (codes "{f0=i1}") ≡ None
map_refused = refl

one_content : content_word (codes "i5") ≡ Some (one (int 5))
one_content = refl

-- ---- payloads
varint_payload : payload_word (codes "v7") ≡ Some (varint 7)
varint_payload = refl

fixed64_payload : payload_word (codes "d4294967296") ≡ Some (fixed64 4294967296)
fixed64_payload = refl

fixed32_payload : payload_word (codes "w5") ≡ Some (fixed32 5)
fixed32_payload = refl

fixed32_above : payload_word (codes "w4294967296") ≡ None
fixed32_above = refl

hex_payload : payload_word (codes "x0805") ≡ Some (len (8 ∷ 5 ∷ []))
unfolding hex_on_literals
hex_payload = refl

text_payload : payload_word (codes "lab") ≡ Some (len (97 ∷ 98 ∷ []))
text_payload = refl

no_group : payload_word (codes "g0") ≡ Some (group no_more)
no_group = refl

one_group : payload_word (codes "g1") ≡ Some (group no_more)
one_group = refl

three_groups : payload_word (codes "g3") ≡ Some (group (more 1 (group (more 1 (group no_more) no_more)) no_more))
three_groups = refl

group_of_5 : payload_word (codes "a7") ≡ Some (group (more 7 (varint 5) no_more))
group_of_5 = refl

group_of_1 : payload_word (codes "o7") ≡ Some (group (more 1 (varint 7) no_more))
group_of_1 = refl

no_payload : payload_word (codes "i5") ≡ None
no_payload = refl

-- ---- bodies
whole : body_words (codes " 6:[i1] 1:i5  99~v7 1:i6 98~w5 ") ≡ Some (body (field 1 (one (int 6)) (field 6 (list (datum (int 1) no_datums)) no_fields)) (record { number = 99; payload = varint 7 } ∷ record { number = 98; payload = fixed32 5 } ∷ []))
whole = refl

whole_empty : body_words [] ≡ Some empty
whole_empty = refl

-- a colon before any wave
both_signs : body_words (codes "1:ta~b") ≡ Some (body (field 1 (one (scalar (text (97 ∷ 126 ∷ 98 ∷ [])))) no_fields) [])
both_signs = refl

no_content : body_words (codes "1:i5 2") ≡ None
no_content = refl

no_field : body_words (codes "x:i5") ≡ None
no_field = refl

refused_content : body_words (codes "1:[i5") ≡ None
refused_content = refl

refused_payload : body_words (codes "1~i5") ≡ None
refused_payload = refl
