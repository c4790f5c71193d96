-- The meaning of words: a scalar, a value, a key, a content, a payload, a body.
use Rattle.std.specs.Prelude.{ℕ, zero, suc, ◌-◌, ◌==◌, List, [], ◌∷◌, ◌++◌, length, if◌then◌else◌, codes, Option, Some, None, option_map}
use Rattle.std.specs.Result.{result_ok}
use Rattle.std.specs.declared.cmp.Ordering.{Ordering}
use Rattle.std.specs.declared.cmp.Ordering.TheVariants.{Less, Greater}
use Rattle.std.specs.Ordering.{nat_cmp, match_ordering}
use Rattle.std.specs.List.{before_first, after_first}
use Rattle.std.specs.Str.{bytes_eq}
use Rattle.hex.specs.Hex.{decode_of}
use Rattle.pb_wire.specs.Record.{Payload, varint, fixed64, len, group, fixed32, no_more, more}
use Rattle.pb_schema.specs.Scalar.{Scalar, int32, int64, uint32, uint64, boolean, float, double, enum, text, bytes, key_cmp}
use Rattle.pb_value.specs.Data.{Datum, scalar, message, Datums, no_datums, datum, joined_datums, Entries, no_entries, entry}
use Rattle.pb_value.specs.Data.{Holding, one, list, map, no_fields, field, put_field, Message, body, empty, fields_of, unknown_of}
use Rattle.pb_test_types.specs.Texts.{◌>>=◌, in_turn, letter, lettered, halves, parts, natural, integer}

-- by a letter: i and I an int32 and an int64, u and U a uint32 and a uint64, b whether it is 1, f and F a float and a double by their bits,
-- e an enum by its number, t a text, x bytes in hexadecimal, y bytes that are the text
abbrev pub scalar_by : ℕ → List ℕ → Option Datum
scalar_by form rest =
    if form == letter "i" then option_map (λ z. scalar (int32 z)) (integer 32 rest)
    else if form == letter "I" then option_map (λ z. scalar (int64 z)) (integer 64 rest)
    else if form == letter "u" then option_map (λ n. scalar (uint32 n)) (natural 32 rest)
    else if form == letter "U" then option_map (λ n. scalar (uint64 n)) (natural 64 rest)
    else if form == letter "b" then Some (scalar (boolean (bytes_eq rest (codes "1"))))
    else if form == letter "f" then option_map (λ n. scalar (float n)) (natural 32 rest)
    else if form == letter "F" then option_map (λ n. scalar (double n)) (natural 64 rest)
    else if form == letter "e" then option_map (λ z. scalar (enum z)) (integer 32 rest)
    else if form == letter "t" then Some (scalar (text rest))
    else if form == letter "x" then option_map (λ t. scalar (bytes t)) (result_ok (decode_of rest))
    else if form == letter "y" then Some (scalar (bytes rest))
    else None

abbrev pub scalar_word : List ℕ → Option Datum
scalar_word w = lettered w >>= (λ x. scalar_by x.0 x.1)

abbrev pub with_field : ℕ → Holding → Message → Message
with_field n h m = body (put_field n h (fields_of m)) (unknown_of m)

-- a message with one scalar more, as 1=i5; an empty word adds none
abbrev pub scalar_onto : Message → List ℕ → Option Message
scalar_onto m w =
    if length w == 0 then Some m
    else halves (letter "=") w >>= (λ h. natural 32 h.0 >>= (λ n. scalar_word h.1 >>= (λ d. Some (with_field n (one d) m))))

-- a message with each scalar of a row more, as 1=i5;11=i-2
abbrev pub scalars_onto : Message → List ℕ → Option Message
scalars_onto m t = in_turn scalar_onto m (parts (letter ";") t)

-- a message of scalars
abbrev pub flat_word : List ℕ → Option Message
flat_word w = scalars_onto empty w

-- a message inside a number of others, each the field 3 of the one around it
abbrev pub nested : ℕ → Message → Message
nested zero m = m
nested (suc n) m = body (field 3 (one (message (nested n m))) no_fields) []

-- the part before the first dot, or all
abbrev pub before_dot : List ℕ → List ℕ
before_dot w = before_first (λ b. b == letter ".") w

-- the part after it, or nothing
abbrev pub behind_dot : List ℕ → List ℕ
behind_dot w = after_first (λ b. b == letter ".") w

-- a number of messages around one of scalars, as 2.1=i5, or around the empty one
abbrev pub nest_word : List ℕ → Option Message
nest_word w = natural 32 (before_dot w) >>= (λ n. flat_word (behind_dot w) >>= (λ m. Some (nested n m)))

-- the field 12 with the empty message under 0
abbrev pub entry_message : Message
entry_message = body (field 12 (map (entry (uint32 0) (message empty) no_entries)) no_fields) []

-- after m a message of scalars, after n or w one inside a number of others, else a scalar
abbrev pub value_by : ℕ → List ℕ → Option Datum
value_by form rest =
    if form == letter "m" then option_map message (flat_word rest)
    else if form == letter "n" then option_map message (nest_word rest)
    else if form == letter "w" then option_map (λ n. message (nested n entry_message)) (natural 32 rest)
    else scalar_by form rest

abbrev pub value_word : List ℕ → Option Datum
value_word w = lettered w >>= (λ x. value_by x.0 x.1)

-- a value that may be a map's key
abbrev pub key_in : Datum → Option Scalar
key_in (scalar (int32 z)) = Some (int32 z)
key_in (scalar (int64 z)) = Some (int64 z)
key_in (scalar (uint32 n)) = Some (uint32 n)
key_in (scalar (uint64 n)) = Some (uint64 n)
key_in (scalar (boolean b)) = Some (boolean b)
key_in (scalar (text t)) = Some (text t)
key_in (scalar (float n)) = None
key_in (scalar (double n)) = None
key_in (scalar (enum z)) = None
key_in (scalar (bytes t)) = None
key_in (message m) = None

abbrev pub key_word : List ℕ → Option Scalar
key_word w = value_word w >>= key_in

-- a list with one element more; an empty word adds none
abbrev pub element_onto : Datums → List ℕ → Option Datums
element_onto ds w = if length w == 0 then Some ds else value_word w >>= (λ d. Some (joined_datums ds (datum d no_datums)))

-- a list with each element of a row more, as i1,i2
abbrev pub elements_onto : Datums → List ℕ → Option Datums
elements_onto ds t = in_turn element_onto ds (parts (letter ",") t)

-- the place of a key's form among the others; no key has one of the last four
abbrev pub form_rank : Scalar → ℕ
form_rank (int32 z) = 0
form_rank (int64 z) = 1
form_rank (uint32 n) = 2
form_rank (uint64 n) = 3
form_rank (boolean b) = 4
form_rank (text t) = 5
form_rank (float n) = 6
form_rank (double n) = 7
form_rank (enum z) = 8
form_rank (bytes t) = 9

-- keys of one form by pb_schema's order, and others by their forms
abbrev pub keys_cmp : Scalar → Scalar → Ordering
keys_cmp k l = match_ordering (nat_cmp (form_rank k) (form_rank l)) Less (key_cmp k l) Greater

-- the entries with d under k, in place of what was there; by the put_entry of pb_value keys of different forms would replace each other
abbrev pub put_under : Scalar → Datum → Entries → Entries
put_under k d no_entries = entry k d no_entries
put_under k d (entry l e es) = match_ordering (keys_cmp k l) (entry k d (entry l e es)) (entry l d es) (entry l e (put_under k d es))

-- a map with one entry more, as tk=i1; an empty word adds none
abbrev pub entry_onto : Entries → List ℕ → Option Entries
entry_onto es w =
    if length w == 0 then Some es
    else halves (letter "=") w >>= (λ h. key_word h.0 >>= (λ k. value_word h.1 >>= (λ d. Some (put_under k d es))))

-- a map with each entry of a row more, as tk=i1,tl=i2
abbrev pub entries_onto : Entries → List ℕ → Option Entries
entries_onto es t = in_turn entry_onto es (parts (letter ",") t)

-- the part before the closing bracket at the end of the word
abbrev pub inside : ℕ → List ℕ → Option (List ℕ)
inside close w = halves close w >>= (λ h. if length h.1 == 0 then Some h.0 else None)

-- a list as [i1,i2], a map as {tk=i1,tl=i2}, else one value
abbrev pub content_by : ℕ → List ℕ → Option Holding
content_by form rest =
    if form == letter "[" then option_map list (inside (letter "]") rest >>= elements_onto no_datums)
    else if form == letter "{" then option_map map (inside (letter "}") rest >>= entries_onto no_entries)
    else option_map one (value_by form rest)

abbrev pub content_word : List ℕ → Option Holding
content_word w = lettered w >>= (λ x. content_by x.0 x.1)

-- a group of one record
abbrev pub group_with : ℕ → Payload → Payload
group_with n p = group (more n p no_more)

-- a number of groups of number 1 around an empty one
abbrev pub groups : ℕ → Payload
groups zero = group no_more
groups (suc n) = group_with 1 (groups n)

-- by a letter: v a varint, d eight bytes, w four bytes, x bytes in hexadecimal, l bytes that are the characters, g a number of groups in each other,
-- a a group with a 5 of this number, o a group with this number as its record 1
abbrev pub payload_by : ℕ → List ℕ → Option Payload
payload_by form rest =
    if form == letter "v" then option_map varint (natural 64 rest)
    else if form == letter "d" then option_map fixed64 (natural 64 rest)
    else if form == letter "w" then option_map fixed32 (natural 32 rest)
    else if form == letter "x" then option_map len (result_ok (decode_of rest))
    else if form == letter "l" then Some (len rest)
    else if form == letter "g" then option_map (λ n. groups (n - 1)) (natural 32 rest)
    else if form == letter "a" then option_map (λ n. group_with n (varint 5)) (natural 32 rest)
    else if form == letter "o" then option_map (λ n. group_with 1 (varint n)) (natural 64 rest)
    else None

abbrev pub payload_word : List ℕ → Option Payload
payload_word w = lettered w >>= (λ x. payload_by x.0 x.1)

abbrev pub with_record : ℕ → Payload → Message → Message
with_record n p m = body (fields_of m) (unknown_of m ++ record { number = n; payload = p } ∷ [])

abbrev pub field_onto : Message → List ℕ × List ℕ → Option Message
field_onto m h = natural 32 h.0 >>= (λ n. content_word h.1 >>= (λ c. Some (with_field n c m)))

abbrev pub record_onto : Message → List ℕ × List ℕ → Option Message
record_onto m h = natural 32 h.0 >>= (λ n. payload_word h.1 >>= (λ p. Some (with_record n p m)))

abbrev pub part_onto : Message → Option (List ℕ × List ℕ) → Option (List ℕ × List ℕ) → Option Message
part_onto m (Some h) r = field_onto m h
part_onto m None r = r >>= record_onto m

-- a message with one field more, as 1:i5, or one unknown record, as 99~v7; an empty word adds none
abbrev pub word_onto : Message → List ℕ → Option Message
word_onto m w = if length w == 0 then Some m else part_onto m (halves (letter ":") w) (halves (letter "~") w)

-- a message with what each word between spaces has more
abbrev pub words_onto : Message → List ℕ → Option Message
words_onto m t = in_turn word_onto m (parts (letter " ") t)

-- a message of such words
abbrev pub body_words : List ℕ → Option Message
body_words t = words_onto empty t
