-- Worked rows: what some messages are as JSON, computed.
use Rattle.std.proofs.Common.{◌≡◌, ℕ, ◌≤◌, zero, suc, List, [], ◌∷◌, ◌++◌, Option, ap, refl, codes, arith, rules}
use Rattle.std.specs.Prelude.{pos, neg_ℤ, true, false, None, Some, replicate}
use Rattle.std.specs.Float.{binary32, binary64, fin, float_is_finite}
use Rattle.std.specs.Option.{option_map_or}
use Rattle.std.specs.Path.{rsplit_once}
use Rattle.jiff_core.specs.Calendar.{day_count, days_from_civil, days_of_months, days_of_years}
use Rattle.std.specs.Fmt.{digits}
use Rattle.base64.specs.Rfc4648.{encode_symbols}
use Rattle.hex.specs.Hex.{encode_with}
use Rattle.pb_wire.specs.Inside.{records_spelled, front_within, first_varint, after_varint, named_length}
use Rattle.pb_schema.specs.declared.types.Kind.{Kind}
use Rattle.pb_schema.specs.declared.types.Kind.TheVariants as kind
use Rattle.pb_schema.specs.declared.types.Shape.{Shape}
use Rattle.pb_schema.specs.declared.types.Shape.TheVariants as shape
use Rattle.pb_schema.specs.Types.{FieldView, MessageView, Types}
use Rattle.pb_schema.specs.Scalar.{Scalar, boolean, bytes, double, enum, float, int32, int64, text, uint32, uint64}
use Rattle.pb_value.specs.Data.{Datum, Fields, Message, body, datum, empty, entry, field, list, map, message, no_datums, no_entries, no_fields, one, scalar}
use Rattle.pb_value.specs.Value.{value, value_within}
use Rattle.pb_json.specs.declared.form.Layout.TheVariants.{Compact, Indented}
use Rattle.pb_json.specs.declared.form.Names.TheVariants.{LowerCamel}
use Rattle.pb_json.specs.declared.error.JsonCause.TheVariants as cause
use Rattle.pb_json.specs.Json.{Json, null, truth, number, real, plain, string, instant, array, object, no_elements, element, no_members, member}
use Rattle.pb_json.specs.Given.{NamesGiven}
use Rattle.pb_json.specs.JsonNames.{json_name, lower_camel}
use Rattle.pb_json.specs.Anys.{any_json, any_message, members_or_value, tagged, type_meant}
use Rattle.pb_json.specs.JsonText.{IsJsonText, string_text}
use Rattle.pb_json.specs.Mapping.{json_of, key_name, message_json, scalar_json}
use Rattle.pb_json.specs.Masks.{is_path, mask_text}
use Rattle.pb_json.specs.Refusals.{Refused, any_refused, here, message_refused, refused}
use Rattle.pb_json.specs.Times.{IsInstantText, is_instant, is_span, span_text}
use Rattle.pb_json.specs.WellKnown.{is_wrapper_name}

-- NAMES AND STRINGS

camel_names : lower_camel (codes "foo_bar_baz") ≡ codes "fooBarBaz"
camel_names = refl

odd_names : lower_camel (codes "__odd__name_9x_") ≡ codes "OddName9x"
odd_names = refl

escapes : string_text (codes "a\"\\/" ++ 8 ∷ 9 ∷ 10 ∷ 12 ∷ 13 ∷ 0 ∷ 31 ∷ 127 ∷ 0xc3 ∷ 0xa9 ∷ [])
    ≡ codes "\"a\\\"\\\\/\\b\\t\\n\\f\\r\\u0000\\u001f" ++ 127 ∷ 0xc3 ∷ 0xa9 ∷ 34 ∷ []
unfolding digits encode_with
escapes = refl

-- MESSAGES

abbrev the_field : List ℕ → ℕ → Kind → Shape → FieldView
the_field name n k s = record { name = name; number = n; kind = k; shape = s }

-- a name that is given, to this field of this type alone
abbrev label : NamesGiven
label = ((0, 1), codes "label") ∷ []

given_name : json_name label 0 (the_field (codes "foo_bar") 1 kind.Int32 shape.Implicit) ≡ codes "label"
given_name = refl

of_another_field : json_name label 0 (the_field (codes "foo_bar") 2 kind.Int32 shape.Implicit) ≡ codes "fooBar"
of_another_field = refl

of_another_type : json_name label 1 (the_field (codes "foo_bar") 1 kind.Int32 shape.Implicit) ≡ codes "fooBar"
of_another_type = refl

abbrev a_t : Kind
a_t = kind.Message (record { 0 = 0 })

abbrev t_fields : List FieldView
t_fields =
    the_field (codes "int_a") 1 kind.Int32 shape.Implicit ∷ the_field (codes "b") 2 kind.Text shape.Implicit
    ∷ the_field (codes "c") 3 a_t shape.Explicit ∷ the_field (codes "e") 6 kind.Int32 (shape.List true)
    ∷ the_field (codes "m") 9 kind.Int64 (shape.Map kind.Bool) ∷ the_field (codes "p") 10 kind.Bool shape.Explicit
    ∷ the_field (codes "k") 11 (kind.Enum (record { 0 = 0 })) (shape.List true) ∷ the_field (codes "v") 12 (kind.Message (record { 0 = 1 })) shape.Explicit ∷ []

-- T has fields of some shapes, and google.protobuf.Value a member for null and one for a string
abbrev pool : Types
pool = record {
  files =
      record { name = codes "t"; package_name = []; imports = []; proto2 = false }
      ∷ record { name = codes "s"; package_name = codes "google.protobuf"; imports = []; proto2 = false } ∷ [];
  messages =
      record { name = codes "T"; file = 0; parent = None; fields = t_fields; oneofs = [] }
      ∷ record {
        name = codes "Value";
        file = 1;
        parent = None;
        fields =
            the_field (codes "null_value") 1 (kind.Enum (record { 0 = 1 })) (shape.OneofMember 0)
            ∷ the_field (codes "string_value") 3 kind.Text (shape.OneofMember 0) ∷ [];
        oneofs = codes "kind" ∷ [];
      } ∷ [];
  enums =
      record { name = codes "E"; file = 0; parent = None; values = (codes "ZERO", pos 0) ∷ (codes "ONE", pos 1) ∷ [] }
      ∷ record { name = codes "NullValue"; file = 1; parent = None; values = (codes "NULL_VALUE", pos 0) ∷ [] } ∷ [];
}

abbrev json : List ℕ → Json
json b = json_of LowerCamel (record { pool = pool; kind = 0; body = value pool 0 (records_spelled b) })

nothing : json [] ≡ object no_members
unfolding json_of message_json value value_within records_spelled front_within first_varint after_varint named_length digits encode_with
nothing = refl

-- int_a = -2, b = "z", c { int_a = 1 }, e = [3, 4], m { true: 7 }, p = false, k = [1, 5]
each_shape :
    json (0x08 ∷ 0xfe ∷ 0xff ∷ 0xff ∷ 0xff ∷ 0xff ∷ 0xff ∷ 0xff ∷ 0xff ∷ 0xff ∷ 0x01 ∷ 0x12 ∷ 0x01 ∷ 0x7a ∷ 0x1a ∷ 0x02 ∷ 0x08 ∷ 0x01
    ∷ 0x32 ∷ 0x02 ∷ 0x03 ∷ 0x04 ∷ 0x4a ∷ 0x04 ∷ 0x08 ∷ 0x01 ∷ 0x10 ∷ 0x07 ∷ 0x50 ∷ 0x00 ∷ 0x5a ∷ 0x02 ∷ 0x01 ∷ 0x05 ∷ [])
    ≡ object (member (codes "intA") (number (codes "-2")) (member (codes "b") (string (codes "z"))
    (member (codes "c") (object (member (codes "intA") (number (codes "1")) no_members))
    (member (codes "e") (array (element (number (codes "3")) (element (number (codes "4")) no_elements)))
    (member (codes "m") (object (member (codes "true") (plain (codes "7")) no_members))
    (member (codes "p") (truth false)
    (member (codes "k") (array (element (string (codes "ONE")) (element (number (codes "5")) no_elements))) no_members)))))))
unfolding json_of message_json value value_within records_spelled front_within first_varint after_varint named_length digits encode_with
each_shape = refl

-- v { null_value: NULL_VALUE }
a_null : json (0x62 ∷ 0x02 ∷ 0x08 ∷ 0x00 ∷ []) ≡ object (member (codes "v") null no_members)
unfolding json_of message_json value value_within records_spelled front_within first_varint after_varint named_length digits encode_with
a_null = refl

-- v { string_value: "x" }
a_string : json (0x62 ∷ 0x03 ∷ 0x1a ∷ 0x01 ∷ 0x78 ∷ []) ≡ object (member (codes "v") (string (codes "x")) no_members)
unfolding json_of message_json value value_within records_spelled front_within first_varint after_varint named_length digits encode_with
a_string = refl

-- c { v { } }
no_kind :
    refused (record { pool = pool; kind = 0; body = value pool 0 (records_spelled (0x1a ∷ 0x02 ∷ 0x62 ∷ 0x00 ∷ [])) })
    ≡ Some (record { path = 3 ∷ 12 ∷ []; cause = cause.NoKind })
unfolding refused message_refused value value_within records_spelled front_within first_varint after_varint named_length digits encode_with
no_kind = refl

-- LAYOUT

abbrev small : Json
small = object (member (codes "a") (array (element (number (codes "1")) (element null no_elements))) (member (codes "b") (object no_members) no_members))

on_one_line : IsJsonText Compact 0 small (codes "{\"a\":[1,null],\"b\":{}}")
on_one_line = (
  codes "\"a\":[1,null],\"b\":{}}",
  refl,
  (
    codes "[1,null]",
    codes ",\"b\":{}}",
    refl,
    (codes "1,null]", refl, (codes "1", codes ",null]", refl, refl, (codes "null", codes "]", refl, refl, refl))),
    (codes "{}", codes "}", refl, (codes "}", refl, refl), refl),
  ),
)

on_lines : IsJsonText Indented 0 small (codes "{\n  \"a\": [\n    1,\n    null\n  ],\n  \"b\": {}\n}")
on_lines = (
  codes "\n  \"a\": [\n    1,\n    null\n  ],\n  \"b\": {}\n}",
  refl,
  (
    codes "[\n    1,\n    null\n  ]",
    codes ",\n  \"b\": {}\n}",
    refl,
    (codes "\n    1,\n    null\n  ]", refl, (codes "1", codes ",\n    null\n  ]", refl, refl, (codes "null", codes "\n  ]", refl, refl, refl))),
    (codes "{}", codes "\n}", refl, (codes "}", refl, refl), refl),
  ),
)

-- a float has at most 25 characters
long_float : IsJsonText Compact 0 (real binary64 (fin false 1 (pos 0))) (codes "1.000000000000000000000000") → ⊥
long_float (is_plain, parses, short) = let e : 26 ≤ 25 = short in absurd (omega (arith, e))

-- POINTS IN TIME

-- 0001-01-01, 1900-03-01, 1970-01-01, 2000-02-29 and 9999-12-31, by their days from 1970-01-01
days : (days_from_civil (pos 1) 1 1 ≡ neg_ℤ (pos 719_162)) × (days_from_civil (pos 1900) 3 1 ≡ neg_ℤ (pos 25_508)) × (days_from_civil (pos 1970) 1 1 ≡ pos 0)
    × (days_from_civil (pos 2000) 2 29 ≡ pos 11_016) × (days_from_civil (pos 9999) 12 31 ≡ pos 2_932_896)
unfolding days_from_civil day_count days_of_years days_of_months
days = (refl, refl, refl, refl, refl)

-- a leap day
leap_day : IsInstantText (pos 951_825_599) 120_034_000 (codes "2000-02-29T11:59:59.120034Z")
unfolding days_from_civil day_count days_of_years days_of_months
leap_day = record {
  days = pos 11_016;
  second = 43_199;
  within = omega arith;
  counted = refl;
  date = codes "2000-02-29";
  is_date = record {
    year = 2000;
    month = 2;
    day = 29;
    since_year_one = omega arith;
    on_calendar = search rules;
    counted = refl;
    text = refl;
  };
  text = refl;
}

ranges :
    (is_instant (neg_ℤ (pos 62_135_596_800)) (pos 0) ≡ true) × (is_instant (neg_ℤ (pos 62_135_596_801)) (pos 0) ≡ false)
    × (is_instant (pos 253_402_300_799) (pos 999_999_999) ≡ true) × (is_instant (pos 253_402_300_800) (pos 0) ≡ false)
    × (is_instant (pos 0) (pos 1_000_000_000) ≡ false) × (is_instant (pos 0) (neg_ℤ (pos 1)) ≡ false)
ranges = (refl, refl, refl, refl, refl, refl)

-- LENGTHS OF TIME

spans :
    (span_text (pos 3) (pos 0) ≡ codes "3s") × (span_text (neg_ℤ (pos 12)) (neg_ℤ (pos 340_000_000)) ≡ codes "-12.340s")
    × (span_text (pos 0) (neg_ℤ (pos 1_000)) ≡ codes "-0.000001s") × (span_text (pos 1) (pos 1) ≡ codes "1.000000001s")
unfolding digits
spans = (refl, refl, refl, refl)

span_ranges :
    (is_span (neg_ℤ (pos 315_576_000_000)) (neg_ℤ (pos 999_999_999)) ≡ true) × (is_span (pos 315_576_000_001) (pos 0) ≡ false)
    × (is_span (pos 1) (neg_ℤ (pos 1)) ≡ false) × (is_span (neg_ℤ (pos 1)) (pos 1) ≡ false) × (is_span (pos 0) (pos 1_000_000_000) ≡ false)
span_ranges = (refl, refl, refl, refl, refl)

-- FIELD MASKS

masks : mask_text (codes "user.display_name" ∷ codes "photo" ∷ []) ≡ codes "user.displayName,photo"
masks = refl

paths :
    (is_path (codes "foo_bar.baz") ≡ true) × (is_path (codes "_a9") ≡ true) × (is_path (codes "fooBar") ≡ false) × (is_path (codes "foo__bar") ≡ false)
    × (is_path (codes "foo_3") ≡ false) × (is_path (codes "foo_") ≡ false) × (is_path (codes "a,b") ≡ false) × (is_path [] ≡ false)
paths = (refl, refl, refl, refl, refl, refl, refl, refl)

-- SINGLE VALUES

abbrev none : Types
none = record { files = []; messages = []; enums = [] }

abbrev single : Kind → Scalar → Json
single k x = scalar_json none k x

-- integers of 32 bits are numbers, and those of 64 bits strings
integers :
    (single kind.Int32 (int32 (neg_ℤ (pos 7))) ≡ number (codes "-7")) × (single kind.Uint32 (uint32 4_294_967_295) ≡ number (codes "4294967295"))
    × (single kind.Int64 (int64 (neg_ℤ (pos 7))) ≡ plain (codes "-7")) × (single kind.Uint64 (uint64 18_446_744_073_709_551_615) ≡ plain (codes "18446744073709551615"))
unfolding digits
integers = (refl, refl, refl, refl)

-- 1.5 in both formats, a NaN of each sign, and both infinities
floats :
    (single kind.Float (float 0x3fc0_0000) ≡ real binary32 (fin false 3 (neg_ℤ (pos 1))))
    × (single kind.Double (double 0x3ff8_0000_0000_0000) ≡ real binary64 (fin false 3 (neg_ℤ (pos 1))))
    × (single kind.Float (float 0x7fc0_0000) ≡ plain (codes "NaN")) × (single kind.Double (double 0xfff8_0000_0000_0001) ≡ plain (codes "NaN"))
    × (single kind.Double (double 0x7ff0_0000_0000_0000) ≡ plain (codes "Infinity")) × (single kind.Float (float 0xff80_0000) ≡ plain (codes "-Infinity"))
unfolding lib.Ieee.of_bits lib.Ieee.of_fields
floats = (refl, refl, refl, refl, refl, refl)

others : (single kind.Bool (boolean true) ≡ truth true) × (single kind.Text (text (codes "a")) ≡ string (codes "a"))
others = (refl, refl)

-- with padding
base64 : (single kind.Bytes (bytes (1 ∷ 255 ∷ [])) ≡ plain (codes "Af8=")) × (single kind.Bytes (bytes []) ≡ plain [])
unfolding encode_symbols
base64 = (refl, refl)

keys :
    (key_name (int32 (neg_ℤ (pos 1))) ≡ codes "-1") × (key_name (int64 (neg_ℤ (pos 1))) ≡ codes "-1") × (key_name (uint32 1) ≡ codes "1")
    × (key_name (uint64 18_446_744_073_709_551_615) ≡ codes "18446744073709551615") × (key_name (boolean false) ≡ codes "false") × (key_name (text (codes "k")) ≡ codes "k")
unfolding digits
keys = (refl, refl, refl, refl, refl, refl)

-- TYPES WITH A FORM OF THEIR OWN

abbrev kind_of : ℕ → Kind
kind_of n = kind.Message (record { 0 = n })

abbrev google : List ℕ → List FieldView → MessageView
google name fields = record { name = name; file = 1; parent = None; fields = fields; oneofs = [] }

abbrev in_list : Shape
in_list = shape.List false

-- M at the index 0 has a member of its own type and maps; then come Google's types
abbrev types : Types
types = record {
  files =
      record { name = codes "m"; package_name = codes "a"; imports = []; proto2 = false }
      ∷ record { name = codes "g"; package_name = codes "google.protobuf"; imports = []; proto2 = false } ∷ [];
  messages =
      record {
        name = codes "M";
        file = 0;
        parent = None;
        fields =
            the_field (codes "m") 1 (kind_of 0) shape.Explicit ∷ the_field (codes "by_name") 2 kind.Uint32 (shape.Map kind.Text)
            ∷ the_field (codes "by_id") 3 kind.Bool (shape.Map kind.Uint64) ∷ the_field (codes "any") 4 (kind_of 5) shape.Explicit
            ∷ the_field (codes "at") 5 (kind_of 6) shape.Explicit ∷ [];
        oneofs = [];
      }
      ∷ google (codes "UInt64Value") (the_field (codes "value") 1 kind.Uint64 shape.Implicit ∷ [])
      ∷ google (codes "Struct") (the_field (codes "fields") 1 (kind_of 4) (shape.Map kind.Text) ∷ [])
      ∷ google (codes "ListValue") (the_field (codes "values") 1 (kind_of 4) in_list ∷ [])
      ∷ google (codes "Value") (the_field (codes "null_value") 1 (kind.Enum (record { 0 = 0 })) (shape.OneofMember 0)
      ∷ the_field (codes "number_value") 2 kind.Double (shape.OneofMember 0) ∷ [])
      ∷ google (codes "Any") (the_field (codes "type_url") 1 kind.Text shape.Implicit ∷ the_field (codes "value") 2 kind.Bytes shape.Implicit ∷ [])
      ∷ google (codes "Timestamp") (the_field (codes "seconds") 1 kind.Int64 shape.Implicit ∷ the_field (codes "nanos") 2 kind.Int32 shape.Implicit ∷ [])
      ∷ google (codes "Duration") (the_field (codes "seconds") 1 kind.Int64 shape.Implicit ∷ the_field (codes "nanos") 2 kind.Int32 shape.Implicit ∷ [])
      ∷ google (codes "FieldMask") (the_field (codes "paths") 1 kind.Text in_list ∷ []) ∷ google (codes "Empty") [] ∷ [];
  enums = record { name = codes "NullValue"; file = 1; parent = None; values = (codes "NULL_VALUE", pos 0) ∷ [] } ∷ [];
}

-- a message of the type at an index, and what is refused of it
abbrev json_at : ℕ → Message → Json
json_at m b = json_of LowerCamel (record { pool = types; kind = m; body = b })

abbrev refused_at : ℕ → Message → Option Refused
refused_at m b = refused (record { pool = types; kind = m; body = b })

abbrev one_field : ℕ → Datum → Message
one_field n d = body (field n (one d) no_fields) []

-- a Value that holds null, or 1.5
abbrev a_null_value : Message
a_null_value = one_field 1 (scalar (enum (pos 0)))

abbrev a_number_value : Message
a_number_value = one_field 2 (scalar (double 0x3ff8_0000_0000_0000))

names :
    (is_wrapper_name (codes "google.protobuf.DoubleValue") ≡ true) × (is_wrapper_name (codes "google.protobuf.FloatValue") ≡ true)
    × (is_wrapper_name (codes "google.protobuf.Int64Value") ≡ true) × (is_wrapper_name (codes "google.protobuf.UInt64Value") ≡ true)
    × (is_wrapper_name (codes "google.protobuf.Int32Value") ≡ true) × (is_wrapper_name (codes "google.protobuf.UInt32Value") ≡ true)
    × (is_wrapper_name (codes "google.protobuf.BoolValue") ≡ true) × (is_wrapper_name (codes "google.protobuf.StringValue") ≡ true)
    × (is_wrapper_name (codes "google.protobuf.BytesValue") ≡ true) × (is_wrapper_name (codes "google.protobuf.Uint32Value") ≡ false)
    × (is_wrapper_name (codes "google.protobuf.EnumValue") ≡ false)
names = (refl, refl, refl, refl, refl, refl, refl, refl, refl, refl, refl)

wrappers : (json_at 1 (one_field 1 (scalar (uint64 5))) ≡ plain (codes "5")) × (json_at 1 empty ≡ plain (codes "0"))
unfolding json_of message_json digits
wrappers = (refl, refl)

structs : (json_at 2 empty ≡ object no_members)
    × (json_at 2 (body (field 1 (map (entry (text (codes "a")) (message a_null_value) no_entries)) no_fields) []) ≡ object (member (codes "a") null no_members))
unfolding json_of message_json
structs = (refl, refl)

list_values : (json_at 3 empty ≡ array no_elements)
    × (json_at 3 (body (field 1 (list (datum (message a_number_value) no_datums)) no_fields) []) ≡ array (element (real binary64 (fin false 3 (neg_ℤ (pos 1)))) no_elements))
unfolding json_of message_json lib.Ieee.of_bits lib.Ieee.of_fields
list_values = (refl, refl)

entries : json_at 0 (body (field 2 (map (entry (text (codes "k")) (scalar (uint32 7)) no_entries)) (field 3 (map (entry (uint64 8) (scalar (boolean true)) no_entries)) no_fields)) [])
    ≡ object (member (codes "byName") (object (member (codes "k") (number (codes "7")) no_members))
    (member (codes "byId") (object (member (codes "8") (truth true) no_members)) no_members))
unfolding json_of message_json digits
entries = refl

times : (json_at 6 (body (field 1 (one (scalar (int64 (pos 1)))) (field 2 (one (scalar (int32 (pos 2)))) no_fields)) []) ≡ instant (pos 1) (pos 2))
    × (json_at 6 empty ≡ instant (pos 0) (pos 0)) × (json_at 7 (one_field 1 (scalar (int64 (pos 3)))) ≡ plain (codes "3s"))
unfolding json_of message_json digits
times = (refl, refl, refl)

abbrev mask_of : List ℕ → Message
mask_of path = body (field 1 (list (datum (scalar (text path)) no_datums)) no_fields) []

mask_and_empty : (json_at 8 (mask_of (codes "a.b_c")) ≡ string (codes "a.bC")) × (json_at 8 empty ≡ string []) × (json_at 9 empty ≡ object no_members)
unfolding json_of message_json
mask_and_empty = (refl, refl, refl)

-- ANYS

abbrev any_of : List ℕ → Fields
any_of url = field 1 (one (scalar (text url))) (field 2 (one (scalar (bytes (8 ∷ 1 ∷ [])))) no_fields)

-- the name after the last slash; a URL without one names no type
urls :
    (type_meant types (codes "x.y/z/a.M") ≡ Some 0) × (type_meant types (codes "/a.M") ≡ Some 0) × (type_meant types (codes "a.M") ≡ None)
    × (type_meant types (codes "x/a.M/") ≡ None) × (type_meant types (codes "x/M") ≡ None) × (type_meant types [] ≡ None)
unfolding rsplit_once
urls = (refl, refl, refl, refl, refl, refl)

-- the URL comes first, then the members, or the form of a type that has one
members_first : tagged (codes "/a.M") (members_or_value true (object (member (codes "a") null no_members)))
    ≡ object (member (codes "@type") (string (codes "/a.M")) (member (codes "a") null no_members))
members_first = refl

form_as_value : tagged (codes "/a.M") (members_or_value false (object no_members))
    ≡ object (member (codes "@type") (string (codes "/a.M")) (member (codes "value") (object no_members) no_members))
form_as_value = refl

-- one that holds this message of M, and one that holds it as a Struct
module _ (m : Message) (b : Message) where
  held_members : any_message types (any_of (codes "/a.M")) ≡ Some (0, m)
      → any_json types (λ n x. object (member (codes "a") null no_members)) (any_of (codes "/a.M"))
      ≡ object (member (codes "@type") (string (codes "/a.M")) (member (codes "a") null no_members))
  held_members e = rw e refl

  held_form : any_message types (any_of (codes "/a.M")) ≡ Some (2, m)
      → any_json types (λ n x. object no_members) (any_of (codes "/a.M"))
      ≡ object (member (codes "@type") (string (codes "/a.M")) (member (codes "value") (object no_members) no_members))
  held_form e = rw e refl

  -- the path to a part of the message leads through the field of the bytes
  held_refused : any_message types (any_of (codes "/a.M")) ≡ Some (0, m)
      → any_refused types (λ n x. Some (record { path = 3 ∷ []; cause = cause.NoKind })) (any_of (codes "/a.M")) ≡ Some (record { path = 2 ∷ 3 ∷ []; cause = cause.NoKind })
  held_refused e = rw e refl

unset : (json_at 5 empty ≡ object no_members) × (refused_at 5 empty ≡ None)
unfolding json_of message_json refused message_refused
unset = (refl, refl)

no_type : (refused_at 5 (body (any_of (codes "a.M")) []) ≡ Some (here cause.Unsupported))
    × (refused_at 0 (one_field 4 (message (one_field 1 (scalar (text (codes "a.M")))))) ≡ Some (record { path = 4 ∷ []; cause = cause.Unsupported }))
unfolding refused message_refused rsplit_once
no_type = (refl, refl)

-- WHAT IS REFUSED

values :
    (refused_at 4 empty ≡ Some (here cause.NoKind)) × (refused_at 4 a_null_value ≡ None) × (refused_at 4 a_number_value ≡ None)
    × (refused_at 4 (one_field 2 (scalar (double 0x7ff8_0000_0000_0000))) ≡ Some (here cause.NotFinite))
    × (refused_at 4 (one_field 2 (scalar (double 0xfff0_0000_0000_0000))) ≡ Some (here cause.NotFinite))
unfolding refused message_refused lib.Ieee.of_bits lib.Ieee.of_fields float_is_finite
values = (refl, refl, refl, refl, refl)

causes :
    (refused_at 6 (one_field 2 (scalar (int32 (neg_ℤ (pos 1))))) ≡ Some (here cause.OutOfRange))
    × (refused_at 7 (one_field 2 (scalar (int32 (pos 1_000_000_000)))) ≡ Some (here cause.OutOfRange))
    × (refused_at 8 (mask_of (codes "aB")) ≡ Some (here cause.BadPath)) × (refused_at 8 (mask_of (codes "a_b")) ≡ None)
unfolding refused message_refused
causes = (refl, refl, refl, refl)

-- the first by rising number, with the numbers that lead there
first_refused :
    refused_at 0 (body (field 1 (one (message (one_field 5 (message (one_field 2 (scalar (int32 (neg_ℤ (pos 1)))))))))
    (field 4 (one (message (one_field 1 (scalar (text (codes "a.M")))))) no_fields)) [])
    ≡ Some (record { path = 1 ∷ 5 ∷ []; cause = cause.OutOfRange })
unfolding refused message_refused
first_refused = refl

-- M in M, this many levels below the whole: 100 have a form
abbrev nested : ℕ → Message
nested zero = empty
nested (suc n) = one_field 1 (message (nested n))

levels : (refused_at 0 (nested 100) ≡ None) × (refused_at 0 (nested 101) ≡ Some (record { path = replicate 101 1; cause = cause.Unsupported }))
unfolding refused message_refused
levels = (refl, refl)

abbrev nested_json : ℕ → Json
nested_json zero = object no_members
nested_json (suc n) = object (member (codes "m") (nested_json n) no_members)

deepest : json_at 0 (nested 100) ≡ nested_json 100
unfolding json_of message_json
deepest = refl
