-- Paths with the names of fields, read from left to right as the steps of a place, as lines[2].article and stock["pen"].
use Rattle.std.specs.Prelude.{ℕ, suc, ◌+◌, ◌-◌, ◌*◌, ◌%◌, List, [], ◌∷◌, ◌++◌, length, Bool, ◌==◌, ◌||◌, if◌then◌else◌}
use Rattle.std.specs.Prelude.{Option, Some, None, Result, Ok, Err}
use Rattle.std.specs.Str.{is_utf8}
use Rattle.pb_schema.specs.Names.{continues_word}
use Rattle.pb_schema.specs.Tables.{field_named}
use Rattle.pb_schema.specs.Types.{FieldView, Types, message_fields}
use Rattle.pb_schema.specs.declared.types.Kind.{Kind}
use Rattle.pb_schema.specs.declared.types.MessageId.{MessageId}
use Rattle.pb_c_paths.specs.Brackets.{decimal, key_bits, key_kind}
use Rattle.pb_c_paths.specs.Reading.{after_name, after_value, digit_of}
use Rattle.pb_c_message.specs.declared.value.PlainValue.{PlainValue}
use Rattle.pb_c_paths.specs.declared.path.ReadPath.{ReadPath}
use Rattle.pb_c_paths.specs.declared.reading.Reading.{Reading}
use Rattle.pb_c_paths.specs.declared.reading.Reading.TheVariants as next
use Rattle.pb_c_paths.specs.declared.unread.Unread.{Unread}
use Rattle.pb_c_paths.specs.declared.unread.Unread.TheVariants.{NoField, NoPath}

abbrev pub plain : ℕ → ℕ → PlainValue
plain k n = record { kind = k; number = n }

-- What has been read of a path: what comes next; the bytes of the name, the digits or the string that is being read; the steps; and the strings among
-- them, by their lengths and one after another. A step that is a string has its index among the strings.
pub record Read : Type 0 where
  pub reading : Reading
  pub word : List ℕ
  pub steps : List PlainValue
  pub lengths : List ℕ
  pub strings : List ℕ

abbrev pub read_view : ReadPath → Read
read_view p = record { reading = p.reading; word = p.word.items; steps = p.steps.items; lengths = p.lengths.items; strings = p.strings.items }

-- nothing, before the name of a field of a message type
abbrev pub unread : ℕ → Read
unread m = record { reading = next.Name (record { 0 = m }); word = []; steps = []; lengths = []; strings = [] }

-- ONE BYTE MORE

abbrev pub with_byte : Read → Reading → ℕ → Read
with_byte r x c = record r { reading = x; word = r.word ++ c ∷ [] }

abbrev pub with_step : Read → PlainValue → Reading → Read
with_step r s x = record r { reading = x; word = []; steps = r.steps ++ s ∷ [] }

abbrev pub with_string : Read → Reading → Read
with_string r x = record {
  reading = x;
  word = [];
  steps = r.steps ++ plain 9 (length r.lengths) ∷ [];
  lengths = r.lengths ++ length r.word ∷ [];
  strings = r.strings ++ r.word;
}

-- where the word that is being read begins
abbrev pub begun : ℕ → Read → ℕ
begun at r = at - length r.word

-- it goes on like this, if it may
abbrev pub moved : ℕ → Read → Option Reading → Result Read Unread
moved at r None = Err (NoPath at)
moved at r (Some x) = Ok (record r { reading = x })

-- the field of this name, if the message type has one
abbrev pub named : Types → ℕ → List ℕ → Option FieldView
named pool m w = if is_utf8 w then field_named w (message_fields pool m) else None

-- what comes after a field: at the end of the path nothing
abbrev pub next_after : Option ℕ → FieldView → Option Reading
next_after None f = Some (next.After f.kind)
next_after (Some c) f = after_name f.shape f.kind c

abbrev pub stepped : ℕ → Read → PlainValue → Option Reading → Result Read Unread
stepped at r s None = Err (NoPath at)
stepped at r s (Some x) = Ok (with_step r s x)

-- a name ends, before a byte or at the end of the path
abbrev pub name_ended : ℕ → Read → Option ℕ → Option FieldView → Result Read Unread
name_ended at r c None = Err (NoField (begun at r))
name_ended at r c (Some f) = stepped at r (plain 21 f.number) (next_after c f)

-- digits end, or a word
abbrev pub number_ended : ℕ → Read → ℕ → Option ℕ → Reading → Result Read Unread
number_ended at r k None x = Err (NoPath (begun at r))
number_ended at r k (Some n) x = Ok (with_step r (plain k n) x)

abbrev pub name_byte : Types → MessageId → ℕ → Read → ℕ → Result Read Unread
name_byte pool m at r c = if continues_word c then Ok (with_byte r r.reading c) else name_ended at r (Some c) (named pool m.0 r.word)

abbrev pub index_byte : Kind → ℕ → Read → ℕ → Result Read Unread
index_byte k at r c = if c == 93 then number_ended at r 22 (decimal r.word) (next.After k) else Ok (with_byte r r.reading c)

abbrev pub key_byte : Kind → Kind → ℕ → Read → ℕ → Result Read Unread
key_byte key k at r c = if c == 93 then number_ended at r (key_kind key) (key_bits key r.word) (next.After k) else Ok (with_byte r r.reading c)

abbrev pub text_byte : Kind → Read → ℕ → Read
text_byte k r c = if c == 34 then with_string r (next.Closing k) else (if c == 92 then record r { reading = next.Escape k } else with_byte r r.reading c)

abbrev pub escaped_byte : Kind → ℕ → Read → ℕ → Result Read Unread
escaped_byte k at r c = if c == 34 || c == 92 then Ok (with_byte r (next.Text k) c) else moved at r (if c == 120 then Some (next.High k) else None)

abbrev pub high_digit : Kind → Option ℕ → Option Reading
high_digit k None = None
high_digit k (Some d) = Some (next.Low k d)

-- the byte of two digits of base 16
abbrev pub byte_of : ℕ → ℕ → ℕ
byte_of high low = (high * 16 + low) % 256

abbrev pub low_byte : Kind → ℕ → ℕ → Read → Option ℕ → Result Read Unread
low_byte k high at r None = Err (NoPath at)
low_byte k high at r (Some d) = Ok (with_byte r (next.Text k) (byte_of high d))

abbrev pub byte_in : Types → ℕ → Read → ℕ → Reading → Result Read Unread
byte_in pool at r c (next.Name m) = name_byte pool m at r c
byte_in pool at r c (next.Index k) = index_byte k at r c
byte_in pool at r c (next.Key key k) = key_byte key k at r c
byte_in pool at r c (next.Quote k) = moved at r (if c == 34 then Some (next.Text k) else None)
byte_in pool at r c (next.Text k) = Ok (text_byte k r c)
byte_in pool at r c (next.Escape k) = escaped_byte k at r c
byte_in pool at r c (next.High k) = moved at r (high_digit k (digit_of c))
byte_in pool at r c (next.Low k high) = low_byte k high at r (digit_of c)
byte_in pool at r c (next.Closing k) = moved at r (if c == 93 then Some (next.After k) else None)
byte_in pool at r c (next.After k) = moved at r (after_value k c)

abbrev pub with_next : Types → ℕ → Read → ℕ → Result Read Unread
with_next pool at r c = byte_in pool at r c r.reading

-- THE WHOLE PATH

-- the path may end after a name, and after a value
abbrev pub end_in : Types → ℕ → Read → Reading → Result Read Unread
end_in pool at r (next.Name m) = name_ended at r None (named pool m.0 r.word)
end_in pool at r (next.After k) = Ok r
end_in pool at r (next.Index k) = Err (NoPath at)
end_in pool at r (next.Key key k) = Err (NoPath at)
end_in pool at r (next.Quote k) = Err (NoPath at)
end_in pool at r (next.Text k) = Err (NoPath at)
end_in pool at r (next.Escape k) = Err (NoPath at)
end_in pool at r (next.High k) = Err (NoPath at)
end_in pool at r (next.Low k high) = Err (NoPath at)
end_in pool at r (next.Closing k) = Err (NoPath at)

-- the empty path is the message itself
abbrev pub ended : Types → ℕ → Read → Result Read Unread
ended pool at r = if at == 0 then Ok r else end_in pool at r r.reading

abbrev pub on_read : (Read → Result Read Unread) → Result Read Unread → Result Read Unread
on_read f (Ok r) = f r
on_read f (Err e) = Err e

abbrev pub read_on : Types → ℕ → Read → List ℕ → Result Read Unread
read_on pool at r [] = ended pool at r
read_on pool at r (c ∷ cs) = on_read (λ x. read_on pool (suc at) x cs) (with_next pool at r c)

-- what a path comes to, from a message type on
abbrev pub path_read : Types → ℕ → List ℕ → Result Read Unread
path_read pool m path = read_on pool 0 (unread m) path
