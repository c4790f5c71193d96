-- Worked rows: the listing of some bytes by a schema, computed.
use Rattle.std.proofs.Common.{◌≡◌, ℕ, List, [], ◌∷◌, ◌++◌, refl, codes}
use Rattle.std.specs.Prelude.{pos, negsuc, true, false, None, Some}
use Rattle.std.specs.Fmt.{digits}
use Rattle.hex.specs.Hex.{encode_with}
use Rattle.pb_wire.specs.Inside.{records_spelled, front_within, first_varint, after_varint, named_length}
use Rattle.pb_schema.specs.declared.types.Kind.{Kind}
use Rattle.pb_schema.specs.declared.types.Kind.TheVariants as kind
use Rattle.pb_schema.specs.declared.types.Shape.{Shape}
use Rattle.pb_schema.specs.declared.types.Shape.TheVariants as shape
use Rattle.pb_schema.specs.Types.{FieldView, Types}
use Rattle.pb_schema.specs.Scalar.{int64, uint64, text}
use Rattle.pb_value.specs.Value.{value, value_within}
use Rattle.pb_listing.specs.Listing.{listing, scalar_text}

-- T has a field of each shape, and F flat fields, one of an enum whose values share a number
abbrev the_field : List ℕ → ℕ → Kind → Shape → FieldView
the_field name n k s = record { name = name; number = n; kind = k; shape = s }

abbrev a_t : Kind
a_t = kind.Message (record { 0 = 0 })

abbrev t_fields : List FieldView
t_fields =
    the_field (codes "a") 1 kind.Int32 shape.Implicit ∷ the_field (codes "b") 2 kind.Text shape.Implicit
    ∷ the_field (codes "c") 3 a_t shape.Explicit ∷ the_field (codes "d") 4 kind.Double shape.Implicit
    ∷ the_field (codes "e") 6 kind.Int32 (shape.List true) ∷ the_field (codes "x") 7 kind.Uint32 (shape.OneofMember 0)
    ∷ the_field (codes "y") 8 a_t (shape.OneofMember 0) ∷ the_field (codes "m") 9 kind.Int32 (shape.Map kind.Text)
    ∷ the_field (codes "p") 10 kind.Bool shape.Explicit ∷ the_field (codes "s") 11 kind.Sint32 shape.Implicit
    ∷ the_field (codes "n") 12 a_t (shape.Map kind.Uint32) ∷ []

abbrev f_fields : List FieldView
f_fields =
    the_field (codes "v") 14 kind.Sint32 (shape.List false) ∷ the_field (codes "w") 15 kind.Bytes shape.Implicit
    ∷ the_field (codes "g") 16 kind.Float shape.Implicit ∷ the_field (codes "k") 17 (kind.Enum (record { 0 = 0 })) shape.Implicit ∷ []

abbrev pool : Types
pool = record {
  files = [];
  messages =
      record { name = codes "T"; file = 0; parent = None; fields = t_fields; oneofs = codes "o" ∷ [] }
      ∷ record { name = codes "F"; file = 0; parent = None; fields = f_fields; oneofs = [] } ∷ [];
  enums =
      record { name = codes "E"; file = 0; parent = None; values = (codes "Z", pos 0) ∷ (codes "NEG", negsuc 0) ∷ (codes "LOW", negsuc 0) ∷ [] } ∷ [];
}

abbrev listed : ℕ → List ℕ → List ℕ
listed m b = listing (record { pool = pool; kind = m; body = value pool m (records_spelled b) })

nothing : listed 0 [] ≡ []
unfolding value value_within records_spelled front_within first_varint after_varint named_length digits encode_with
nothing = refl

each_shape :
    listed 0
    (0x08 ∷ 0x96 ∷ 0x01 ∷ 0x12 ∷ 0x01 ∷ 0x7a ∷ 0x1a ∷ 0x02 ∷ 0x08 ∷ 0x01 ∷ 0x21 ∷ 0x00 ∷ 0x00 ∷ 0x00 ∷ 0x00 ∷ 0x00 ∷ 0x00 ∷ 0x00 ∷ 0x80
    ∷ 0x32 ∷ 0x02 ∷ 0x03 ∷ 0x04 ∷ 0x38 ∷ 0x05 ∷ 0x4a ∷ 0x05 ∷ 0x0a ∷ 0x01 ∷ 0x6b ∷ 0x10 ∷ 0x07 ∷ 0x50 ∷ 0x00 ∷ 0x58 ∷ 0x01
    ∷ 0x62 ∷ 0x02 ∷ 0x08 ∷ 0x03 ∷ 0xa3 ∷ 0x01 ∷ 0x08 ∷ 0x01 ∷ 0xa4 ∷ 0x01 ∷ [])
    ≡ codes "a: 150\nb: \"z\"\nc {\n  a: 1\n}\nd: 0x8000000000000000\ne: 3\ne: 4\nx: 5\nm[\"k\"]: 7\np: false\ns: -1\nn[3] {\n}\n? 20 group {\n  1 varint 1\n}\n"
unfolding value value_within records_spelled front_within first_varint after_varint named_length digits encode_with
each_shape = refl

-- an element at its default, a float, and the first name of a number that two values share
flat : listed 1 (0x70 ∷ 0x00 ∷ 0x7a ∷ 0x02 ∷ 0x00 ∷ 0xff ∷ 0x85 ∷ 0x01 ∷ 0x01 ∷ 0x00 ∷ 0x00 ∷ 0x80
    ∷ 0x88 ∷ 0x01 ∷ 0xff ∷ 0xff ∷ 0xff ∷ 0xff ∷ 0x0f ∷ [])
    ≡ codes "v: 0\nw: h'00ff'\ng: 0x80000001\nk: NEG\n"
unfolding value value_within records_spelled front_within first_varint after_varint named_length digits encode_with
flat = refl

-- an enum's number without a name, and a known number with an unfit wire type
unnamed : listed 1 (0x88 ∷ 0x01 ∷ 0x05 ∷ 0x7d ∷ 0x01 ∷ 0x00 ∷ 0x00 ∷ 0x00 ∷ []) ≡ codes "k: 5\n? 15 i32 00000001\n"
unfolding value value_within records_spelled front_within first_varint after_varint named_length digits encode_with
unnamed = refl

-- messages in messages, and unknown records in them
nested : listed 0 (0x1a ∷ 0x07 ∷ 0x1a ∷ 0x02 ∷ 0x08 ∷ 0x01 ∷ 0xa0 ∷ 0x06 ∷ 0x07 ∷ []) ≡ codes "c {\n  c {\n    a: 1\n  }\n  ? 100 varint 7\n}\n"
unfolding value value_within records_spelled front_within first_varint after_varint named_length digits encode_with
nested = refl

-- Q of proto2 has a group and a closed enum
abbrev proto2_pool : Types
proto2_pool = record {
  files = record { name = codes "q"; package_name = []; imports = []; proto2 = true } ∷ [];
  messages =
      record {
        name = codes "Q";
        file = 0;
        parent = None;
        fields =
            the_field (codes "g") 3 (kind.Group (record { 0 = 1 })) shape.Explicit
            ∷ the_field (codes "k") 4 (kind.ClosedEnum (record { 0 = 0 })) shape.Explicit ∷ [];
        oneofs = [];
      }
      ∷ record { name = codes "G"; file = 0; parent = Some 0; fields = the_field (codes "x") 1 kind.Int32 shape.Explicit ∷ []; oneofs = [] } ∷ [];
  enums = record { name = codes "E"; file = 0; parent = None; values = (codes "ONE", pos 1) ∷ (codes "TWO", pos 2) ∷ [] } ∷ [];
}

-- a group is listed as a message, a closed enum by its names, and a number without one as an unknown record
group_and_closed_enum :
    listing (record { pool = proto2_pool; kind = 0; body = value proto2_pool 0 (records_spelled (0x1b ∷ 0x08 ∷ 0x05 ∷ 0x1c ∷ 0x20 ∷ 0x02 ∷ 0x20 ∷ 0x07 ∷ [])) })
    ≡ codes "g {\n  x: 5\n}\nk: TWO\n? 4 varint 7\n"
unfolding value value_within records_spelled front_within first_varint after_varint named_length digits encode_with
group_and_closed_enum = refl

-- a text's quotes, backslashes and control characters, and a letter of two bytes
escapes : scalar_text [] (text (codes "a\"\\" ++ 0 ∷ 31 ∷ 32 ∷ 127 ∷ 0xc3 ∷ 0xa9 ∷ [])) ≡ codes "\"a\\\"\\\\\\x00\\x1f \\x7f" ++ 0xc3 ∷ 0xa9 ∷ 34 ∷ []
unfolding digits encode_with
escapes = refl

least : scalar_text [] (int64 (negsuc 9223372036854775807)) ≡ codes "-9223372036854775808"
unfolding digits
least = refl

greatest : scalar_text [] (uint64 18446744073709551615) ≡ codes "18446744073709551615"
unfolding digits
greatest = refl
