-- Worked rows: texts by the definitions, as `protoc --decode` of libprotobuf 3.21 prints them.
use Rattle.std.proofs.Common.{◌≡◌, ℕ, List, [], ◌∷◌, ◌++◌, refl, codes, inl, inr, lit<, lit≤, arith}
use Rattle.std.specs.Prelude.{pos, negsuc, true, false, None, Some}
use Rattle.std.specs.Fmt.{digits}
use Rattle.std.specs.Float.{binary32, binary64, nan, inf}
use Rattle.hex.specs.Hex.{encode_with}
use Rattle.pb_schema.specs.declared.types.Kind.{Kind}
use Rattle.pb_schema.specs.declared.types.Kind.TheVariants as kind
use Rattle.pb_schema.specs.declared.types.Shape.{Shape}
use Rattle.pb_schema.specs.declared.types.Shape.TheVariants as shape
use Rattle.pb_schema.specs.Types.{FieldView, Types}
use Rattle.pb_schema.specs.Scalar.{int32, boolean, enum, text, bytes}
use Rattle.pb_value.specs.Data.{Message, scalar, message, no_datums, datum, no_entries, entry, one, list, map, no_fields, field, body, empty}
use Rattle.pb_wire.specs.Grammar.{IsText as IsRecords}
use Rattle.pb_wire.specs.Record.{Record, varint, fixed32, fixed64, len, group, no_more, more}
use Rattle.pb_wire.specs.Schema.{blank}
use Rattle.pb_wire.specs.Sound.{AllSound, Sound}
use Rattle.pb_wire.specs.Spell.{Spells}
use Rattle.pb_listing.proofs.NestedLemmas.{record_has_byte}
use Rattle.pb_text.specs.declared.form.Characters.TheVariants.{Escaped, Utf8}
use Rattle.pb_text.specs.declared.form.Layout.TheVariants.{Lines, OneLine}
use Rattle.pb_text.specs.declared.form.TextForm.{TextForm}
use Rattle.pb_text.specs.declared.form.UnknownRecords.TheVariants.{ByNumber, Omitted}
use Rattle.pb_text.specs.Lines.{item}
use Rattle.pb_text.specs.Numbers.{IsFloatText, IsNumber}
use Rattle.pb_text.specs.Strings.{quoted}
use Rattle.pb_text.specs.Text.{IsText}
use Rattle.pb_text.specs.Unknown.{AreRecordsLines, IsEmbedded, a_group, a_message, a_string, a_varint, eight_bytes, four_bytes, limits_with, more_lines, no_lines}
use Rattle.pb_text.proofs.UnknownLemmas.{no_levels}

-- STRINGS

letters : quoted Escaped (10 ∷ 13 ∷ 9 ∷ 34 ∷ 39 ∷ 92 ∷ []) ≡ codes "\"\\n\\r\\t\\\"\\'\\\\\""
letters = refl

printed : quoted Escaped (codes " A~") ≡ codes "\" A~\""
printed = refl

octal_digits : quoted Escaped (0 ∷ 1 ∷ 31 ∷ 127 ∷ 0xc3 ∷ 0xa9 ∷ 255 ∷ []) ≡ codes "\"\\000\\001\\037\\177\\303\\251\\377\""
octal_digits = refl

in_utf8 : quoted Utf8 (0 ∷ 31 ∷ 127 ∷ 0xc3 ∷ 0xa9 ∷ []) ≡ codes "\"\\000\\037\\177" ++ 0xc3 ∷ 0xa9 ∷ 34 ∷ []
in_utf8 = refl

-- LAYOUT

on_a_line : item Lines 2 (codes "a: 1") ≡ codes "    a: 1\n"
on_a_line = refl

on_one_line : item OneLine 2 (codes "a: 1") ≡ codes "a: 1 "
on_one_line = refl

-- FLOATS

not_a_number : IsFloatText binary32 nan (codes "nan")
not_a_number = refl

infinite : IsFloatText binary64 (inf false) (codes "inf")
infinite = refl

minus_infinite : IsFloatText binary64 (inf true) (codes "-inf")
minus_infinite = refl

one_digit : IsNumber (codes "1")
one_digit = (false, codes "1", refl, (codes "1", [], refl, (((lit< tt, tt), lit< tt), λ zero. refl), inl (inl refl)))

minus_zero : IsNumber (codes "-0")
minus_zero = (true, codes "0", refl, (codes "0", [], refl, (((lit< tt, tt), lit< tt), λ zero. refl), inl (inl refl)))

-- 1.5e-07
fraction_and_exponent : IsNumber (codes "1.5e-07")
fraction_and_exponent = (
  false,
  codes "1.5e-07",
  refl,
  (
    codes "1",
    codes ".5e-07",
    refl,
    (((lit< tt, tt), lit< tt), λ zero. refl),
    inr (codes "5e-07", refl, (codes "5", codes "e-07", refl, ((lit< tt, tt), lit< tt), inr (codes "-07", refl, inr (inr (codes "07", refl, ((lit< tt, (lit< tt, tt)), lit< tt)))))),
  ),
)

exponent_alone : IsNumber (codes "1e+15")
exponent_alone = (
  false,
  codes "1e+15",
  refl,
  (
    codes "1",
    codes "e+15",
    refl,
    (((lit< tt, tt), lit< tt), λ zero. refl),
    inl (inr (codes "+15", refl, inr (inl (codes "15", refl, ((lit< tt, (lit< tt, tt)), lit< tt))))),
  ),
)

-- MESSAGES

abbrev the_field : List ℕ → ℕ → Kind → Shape → FieldView
the_field name n k s = record { name = name; number = n; kind = k; shape = s }

-- T has a field of each shape, a group and an enum
abbrev pool : Types
pool = record {
  files = record { name = codes "t"; package_name = []; imports = []; proto2 = true } ∷ [];
  messages =
      record {
        name = codes "T";
        file = 0;
        parent = None;
        fields =
            the_field (codes "a") 1 kind.Int32 shape.Explicit ∷ the_field (codes "c") 2 (kind.Message (record { 0 = 0 })) shape.Explicit
            ∷ the_field (codes "e") 3 (kind.ClosedEnum (record { 0 = 0 })) (shape.List false) ∷ the_field (codes "m") 4 kind.Bool (shape.Map kind.Text)
            ∷ the_field (codes "g") 5 (kind.Group (record { 0 = 1 })) shape.Explicit ∷ the_field (codes "b") 6 kind.Bytes shape.Explicit ∷ [];
        oneofs = [];
      }
      ∷ record { name = codes "G"; file = 0; parent = Some 0; fields = []; oneofs = [] } ∷ [];
  enums = record { name = codes "E"; file = 0; parent = None; values = (codes "ONE", pos 1) ∷ (codes "ALSO", pos 1) ∷ [] } ∷ [];
}

abbrev protoc : TextForm
protoc = record { layout = Lines; characters = Escaped; unknown = ByNumber }

abbrev short : TextForm
short = record { layout = OneLine; characters = Utf8; unknown = Omitted }

-- a message of each shape
abbrev each : Message
each =
    body (field 1 (one (scalar (int32 (negsuc 0)))) (field 2 (one (message empty)) (field 3 (list (datum (scalar (enum (pos 1))) (datum (scalar (enum (pos 2))) no_datums)))
    (field 4 (map (entry (text (codes "k")) (scalar (boolean true)) no_entries)) (field 5 (one (message empty)) (field 6 (one (scalar (bytes (255 ∷ [])))) no_fields))))))
    []

each_in_lines :
    IsText protoc (record { pool = pool; kind = 0; body = each })
    (codes "a: -1\nc {\n}\ne: ONE\ne: 2\nm {\n  key: \"k\"\n  value: true\n}\nG {\n}\nb: \"\\377\"\n")
unfolding digits
each_in_lines = (
  codes "a: -1\nc {\n}\ne: ONE\ne: 2\nm {\n  key: \"k\"\n  value: true\n}\nG {\n}\nb: \"\\377\"\n",
  [],
  refl,
  (
    codes "a: -1\n",
    codes "c {\n}\ne: ONE\ne: 2\nm {\n  key: \"k\"\n  value: true\n}\nG {\n}\nb: \"\\377\"\n",
    refl,
    (codes "-1", refl, refl),
    (
      codes "c {\n}\n",
      codes "e: ONE\ne: 2\nm {\n  key: \"k\"\n  value: true\n}\nG {\n}\nb: \"\\377\"\n",
      refl,
      ([], refl, ([], [], refl, refl, no_lines refl)),
      (
        codes "e: ONE\ne: 2\n",
        codes "m {\n  key: \"k\"\n  value: true\n}\nG {\n}\nb: \"\\377\"\n",
        refl,
        (codes "e: ONE\n", codes "e: 2\n", refl, (codes "ONE", refl, refl), (codes "e: 2\n", [], refl, (codes "2", refl, refl), refl)),
        (
          codes "m {\n  key: \"k\"\n  value: true\n}\n",
          codes "G {\n}\nb: \"\\377\"\n",
          refl,
          (codes "  key: \"k\"\n", codes "  value: true\n", [], refl, (codes "\"k\"", refl, refl), (codes "true", refl, refl), refl),
          (
            codes "G {\n}\n",
            codes "b: \"\\377\"\n",
            refl,
            ([], refl, ([], [], refl, refl, no_lines refl)),
            (codes "b: \"\\377\"\n", [], refl, (codes "\"\\377\"", refl, refl), refl),
          ),
        ),
      ),
    ),
  ),
  no_lines refl,
)

-- on one line, with unknown records left out
abbrev few : Message
few = body (field 1 (one (scalar (int32 (pos 5)))) (field 2 (one (message empty)) no_fields)) (record { number = 7; payload = varint 1 } ∷ [])

few_on_one_line : IsText short (record { pool = pool; kind = 0; body = few }) (codes "a: 5 c { } ")
unfolding digits
few_on_one_line = (
  codes "a: 5 c { } ",
  [],
  refl,
  (codes "a: 5 ", codes "c { } ", refl, (codes "5", refl, refl), (codes "c { } ", [], refl, ([], refl, ([], [], refl, refl, refl)), refl)),
  refl,
)

-- UNKNOWN RECORDS

numbers :
    AreRecordsLines Lines 10 0 (more 1 (varint 18446744073709551615) (more 2 (fixed32 1) (more 3 (fixed64 255) (more 4 (group (more 5 (varint 6) no_more)) no_more))))
    (codes "1: 18446744073709551615\n2: 0x00000001\n3: 0x00000000000000ff\n4 {\n  5: 6\n}\n")
unfolding digits encode_with
numbers =
    more_lines {first = codes "1: 18446744073709551615\n"} {rest = codes "2: 0x00000001\n3: 0x00000000000000ff\n4 {\n  5: 6\n}\n"} (a_varint refl)
    (more_lines {first = codes "2: 0x00000001\n"} {rest = codes "3: 0x00000000000000ff\n4 {\n  5: 6\n}\n"} (four_bytes refl)
    (more_lines {first = codes "3: 0x00000000000000ff\n"} {rest = codes "4 {\n  5: 6\n}\n"} (eight_bytes refl)
    (more_lines {first = codes "4 {\n  5: 6\n}\n"} {rest = []}
    (a_group {inside = codes "  5: 6\n"} (more_lines {first = codes "  5: 6\n"} {rest = []} (a_varint refl) (no_lines refl) refl) refl) (no_lines refl) refl) refl) refl) refl

-- BYTES OF UNKNOWN RECORDS

abbrev a_varint_one : Record
a_varint_one = record { number = 1; payload = varint 1 }

-- 08 01 is a record
abbrev eight_one : List ℕ
eight_one = 0x08 ∷ 0x01 ∷ []

spelled : Spells a_varint_one eight_one
spelled = record {
  number = (lit< tt, lit< tt);
  tag = 0x08 ∷ [];
  tagged = record { size = lit≤ tt; ends = lit< tt; value = refl };
  body = 0x01 ∷ [];
  follows = (lit< tt, record { size = lit≤ tt; ends = lit< tt; value = refl });
  joined = refl;
}

is_text : IsRecords blank tt (limits_with 10) eight_one (a_varint_one ∷ [])
is_text = record { size = lit≤ tt; spelled = (eight_one, [], spelled, refl, refl); sound = AllSound.one Sound.is_varint AllSound.none }

-- 0a 02 08 01
a_message_in_bytes : AreRecordsLines Lines 10 0 (more 7 (len eight_one) no_more) (codes "7 {\n  1: 1\n}\n")
unfolding digits
a_message_in_bytes =
    more_lines {first = codes "7 {\n  1: 1\n}\n"} {rest = []}
    (a_message {inside = codes "  1: 1\n"} {r = a_varint_one} {rs = []} (lit< tt) is_text
    (more_lines {first = codes "  1: 1\n"} {rest = []} (a_varint refl) (no_lines refl) refl) refl)
    (no_lines refl) refl

-- where no more messages are looked for, the same bytes are a string
no_message_looked_for : AreRecordsLines Lines 0 0 (more 7 (len eight_one) no_more) (codes "7: \"\\010\\001\"\n")
unfolding digits
no_message_looked_for = more_lines {first = codes "7: \"\\010\\001\"\n"} {rest = []} (a_string (no_levels 0 eight_one refl) refl) (no_lines refl) refl

none_in_no_bytes : IsEmbedded 10 [] → ⊥
none_in_no_bytes is = let byte = record_has_byte is.1.0 is.1.1 [] is.1.2.spelled in omega (arith, byte)

no_bytes : AreRecordsLines Lines 10 0 (more 7 (len []) no_more) (codes "7: \"\"\n")
unfolding digits
no_bytes = more_lines {first = codes "7: \"\"\n"} {rest = []} (a_string none_in_no_bytes refl) (no_lines refl) refl
