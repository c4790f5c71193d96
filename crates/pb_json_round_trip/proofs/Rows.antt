-- What is covered, and what values are when they are read back: small cases, worked out by the definitions.
use Rattle.std.proofs.Common.{◌≡◌, ℕ, List, [], ◌∷◌, true, false, Option, Some, None, inl, inr, ◌⊎◌, refl, sym, subst, codes, ap, arith}
use Rattle.std.specs.Prelude.{option_map, pos}
use Rattle.std.specs.Option.{option_map_or}
use Rattle.std.specs.Path.{rsplit_once}
use Rattle.pb_wire.specs.Varint.{shortest, shortest_within}
use Rattle.pb_wire.specs.Record.{varint}
use Rattle.pb_schema.specs.declared.types.Kind.{Kind}
use Rattle.pb_schema.specs.declared.types.Kind.TheVariants as kind
use Rattle.pb_schema.specs.declared.types.Shape.TheVariants as shape
use Rattle.pb_schema.specs.Kinds.{message_of_kind}
use Rattle.pb_schema.specs.Scalar.{Scalar, boolean, bytes, double, enum, float, int64, text, uint32}
use Rattle.pb_schema.specs.Types.{FieldView, MessageView, Types, field_numbered}
use Rattle.pb_value.specs.Data.{scalar, message, no_datums, datum, one, list, no_fields, field, Message, body, empty, fields_of}
use Rattle.pb_json.specs.declared.form.Names.TheVariants.{Declared, LowerCamel}
use Rattle.pb_json.specs.declared.well_known.WellKnown.TheVariants.{Any, FieldMask, ListValue, Other, Struct, Timestamp, Value, Wrapper}
use Rattle.pb_json.specs.Json as written
use Rattle.pb_json.specs.WellKnown.{well_known}
use Rattle.pb_json.specs.Given.{NamesGiven, none_given}
use Rattle.pb_json_text.specs.Json as read
use Rattle.pb_json_round_trip.specs.Messages.{CamelNamesDiffer, GivenApart, HoldsMessage, IsCovered, IsCoveredWithin, NamesAreRead, message_with_one_nan}
use Rattle.pb_json_round_trip.specs.Scalars.{IsKeyKind, IsNoEnum, with_one_nan}
use Rattle.pb_json_round_trip.specs.Texts.{IsJsonValue, Means, is_plain, json_depth}
use Rattle.pb_json_round_trip.specs.WellKnown.{IsAsDeclared, IsWrapped, any_value, choices, entries, nanos, paths, seconds, type_url, values, wrapped}

-- ---- single values

one_of_the_nans : with_one_nan (float 0x7fc0_0001) ≡ float 0x7fc0_0000
unfolding lib.Ieee.to_bits lib.Ieee.of_bits lib.Ieee.of_fields
one_of_the_nans = refl

minus_zero : with_one_nan (double 0x8000_0000_0000_0000) ≡ double 0x8000_0000_0000_0000
unfolding lib.Ieee.to_bits lib.Ieee.of_bits lib.Ieee.of_fields
minus_zero = refl

no_float : with_one_nan (uint32 0x7fc0_0001) ≡ uint32 0x7fc0_0001
no_float = refl

inside : message_with_one_nan (body (field 1 (list (datum (scalar (float 0x7fc0_0001)) no_datums)) no_fields) []) ≡ body (field 1 (list (datum (scalar (float 0x7fc0_0000)) no_datums)) no_fields) []
unfolding lib.Ieee.to_bits lib.Ieee.of_bits lib.Ieee.of_fields
inside = refl

abbrev an_enum : Kind
an_enum = kind.Enum (record { 0 = 0 })

a_number : IsNoEnum kind.Int32
a_number = tt

an_enum_is_one : IsNoEnum an_enum → ⊥
an_enum_is_one h = h

a_key : IsKeyKind kind.Text
a_key = tt

no_float_key : IsKeyKind kind.Double → ⊥
no_float_key h = h

no_bytes_key : IsKeyKind kind.Bytes → ⊥
no_bytes_key h = h

-- ---- characters: a blank, a tilde, a delete, a quote, a backslash, a control character and one beyond ASCII

a_blank : is_plain 0x20 ≡ true
a_blank = refl

a_tilde : is_plain 0x7e ≡ true
a_tilde = refl

a_delete : is_plain 0x7f ≡ false
a_delete = refl

a_quote : is_plain 0x22 ≡ false
a_quote = refl

a_backslash : is_plain 0x5c ≡ false
a_backslash = refl

a_control : is_plain 0x1f ≡ false
a_control = refl

beyond : is_plain 0xc3 ≡ false
beyond = refl

-- ---- values

-- `{"a":true,"b":[]}`
abbrev two_members : written.Json
two_members = written.object (written.member (codes "a") (written.truth true) (written.member (codes "b") (written.array written.no_elements) written.no_members))

in_order : Means two_members (read.object (read.member 1 (codes "a") 5 (read.boolean true) (read.member 10 (codes "b") 14 (read.array read.no_elements) read.no_members)))
in_order = (_, refl, (1, 5, _, _, refl, refl, (10, 14, _, _, refl, (_, refl, refl), refl)))

-- the members in another order are another value
turned : Means two_members (read.object (read.member 1 (codes "b") 5 (read.array read.no_elements) (read.member 8 (codes "a") 12 (read.boolean true) read.no_members))) → ⊥
turned (rs, e, (name_at, at, j, more, f, is, h)) = absurd (cc)

-- a member less
shorter : Means two_members (read.object (read.member 1 (codes "a") 5 (read.boolean true) read.no_members)) → ⊥
shorter (rs, e, (name_at, at, j, more, f, is, (name_at', at', j', more', g, is', h))) = absurd (cc)

no_null : Means (written.truth false) read.null → ⊥
no_null e = absurd (cc)

a_string : Means (written.plain (codes "1")) (read.string (codes "1"))
a_string = refl

no_number : Means (written.plain (codes "1")) (read.number (codes "1")) → ⊥
no_number e = absurd (cc)

quoted : IsJsonValue (written.plain (codes "\"")) → ⊥
quoted e = absurd (cc)

-- the last second of the year 9999, and the next one
last_second : IsJsonValue (written.instant (pos 253_402_300_799) (pos 0))
last_second = refl

next_second : IsJsonValue (written.instant (pos 253_402_300_800) (pos 0)) → ⊥
next_second e = absurd (cc)

flat : json_depth written.null ≡ 0
flat = refl

one_array : json_depth (written.array written.no_elements) ≡ 1
one_array = refl

nested : json_depth two_members ≡ 2
nested = refl

-- ---- names

abbrev a_field : List ℕ → ℕ → Kind → FieldView
a_field name n k = record { name = name; number = n; kind = k; shape = shape.Implicit }

abbrev a_type : List ℕ → List FieldView → MessageView
a_type name fields = record { name = name; file = 0; parent = None; fields = fields; oneofs = [] }

abbrev of_fields : List FieldView → Types
of_fields fields = record { files = []; messages = a_type (codes "M") fields ∷ []; enums = [] }

abbrev one_name : Types
one_name = of_fields (a_field (codes "is_on") 1 kind.Bool ∷ [])

abbrev two_names : Types
two_names = of_fields (a_field (codes "is_on") 1 kind.Bool ∷ a_field (codes "isOn") 2 kind.Bool ∷ [])

one_differs : CamelNamesDiffer one_name
one_differs = ((tt, tt), tt)

two_are_one : CamelNamesDiffer two_names → ⊥
two_are_one h = absurd (h.0.0.0 refl)

-- `isOn` is the second field's declared name, and is read as this field
another_field : NamesAreRead LowerCamel none_given two_names → ⊥
another_field h = let e : 2 ≡ 1 = ap (λ (o : Option FieldView). option_map_or (λ f. f.number) o 0) (h 0).0 in absurd (omega (arith, e))

-- `a = 10 [json_name = "b2"]` and `b2 = 11`: the second field's declared name is read as the first field
abbrev b2_given : NamesGiven
b2_given = ((0, 10), codes "b2") ∷ []

abbrev a_and_b2 : Types
a_and_b2 = of_fields (a_field (codes "a") 10 kind.Bool ∷ a_field (codes "b2") 11 kind.Bool ∷ [])

declared_as_given : NamesAreRead Declared b2_given a_and_b2 → ⊥
declared_as_given h =
    let e : 10 ≡ 11 = ap (λ (o : Option FieldView). option_map_or (λ f. f.number) o 0) (h 0).1.0 in absurd (omega (arith, e))

not_apart : GivenApart b2_given a_and_b2 → ⊥
not_apart h =
    let e : 10 ≡ 11 = ap (λ (f : FieldView). f.number) (h 0 1 0 (a_field (codes "b2") 11 kind.Bool) (a_field (codes "a") 10 kind.Bool) refl refl refl) in
    absurd (omega (arith, e))

-- ---- types as Google declares them

abbrev bool_value : MessageView
bool_value = a_type (codes "BoolValue") (wrapped kind.Bool ∷ [])

abbrev pool : Types
pool = record {
  files = record { name = codes "s"; package_name = codes "google.protobuf"; imports = []; proto2 = false } ∷ [];
  messages =
      bool_value ∷ a_type (codes "Timestamp") (seconds ∷ nanos ∷ []) ∷ a_type (codes "FieldMask") (paths ∷ [])
      ∷ a_type (codes "Struct") (entries (record { 0 = 4 }) ∷ []) ∷ a_type (codes "Value") (choices (record { 0 = 0 }) (record { 0 = 3 }) (record { 0 = 5 }))
      ∷ a_type (codes "ListValue") (values (record { 0 = 4 }) ∷ []) ∷ a_type (codes "M") (a_field (codes "at") 1 (kind.Message (record { 0 = 1 })) ∷ [])
      ∷ a_type (codes "Any") (type_url ∷ any_value ∷ []) ∷ [];
  enums = record { name = codes "NullValue"; file = 0; parent = None; values = (codes "NULL_VALUE", pos 0) ∷ [] } ∷ [];
}

no_wrapped_message : IsWrapped (kind.Message (record { 0 = 1 })) → ⊥
no_wrapped_message h = h

no_wrapped_enum : IsWrapped an_enum → ⊥
no_wrapped_enum h = h

a_wrapper : IsAsDeclared pool Wrapper (wrapped kind.Bytes ∷ [])
a_wrapper = (kind.Bytes, tt, refl)

two_values : IsAsDeclared pool Wrapper (wrapped kind.Bytes ∷ wrapped kind.Bytes ∷ []) → ⊥
two_values (k, is, e) = absurd (cc)

-- nanoseconds of 64 bits
another_time : IsAsDeclared pool Timestamp (seconds ∷ a_field (codes "nanos") 2 kind.Int64 ∷ []) → ⊥
another_time e = let k : ◌≡◌ {A = Option Kind} (Some kind.Int64) (Some kind.Int32) = ap (λ (all : List FieldView). option_map (λ f. f.kind) (field_numbered 2 all)) e in absurd (cc)

a_value : IsAsDeclared pool Value (choices (record { 0 = 0 }) (record { 0 = 3 }) (record { 0 = 5 }))
a_value = (record { 0 = 0 }, record { 0 = 3 }, record { 0 = 5 }, refl, refl, refl, refl)

a_struct : IsAsDeclared pool Struct (entries (record { 0 = 4 }) ∷ [])
a_struct = (record { 0 = 4 }, refl, refl)

-- a map of Timestamps
another_struct : IsAsDeclared pool Struct (entries (record { 0 = 1 }) ∷ []) → ⊥
another_struct (v, is, e) =
    let same : ◌≡◌ {A = Option ℕ} (Some 1) (Some v.0) =
    ap (λ (all : List FieldView). option_map_or (λ f. message_of_kind f.kind) (field_numbered 1 all) None) e in
    let number : 1 ≡ v.0 = cc in
    let time : well_known pool 1 ≡ Value = subst (λ (n : ℕ). well_known pool n ≡ Value) (sym number) is in
    absurd (cc)

a_list : IsAsDeclared pool ListValue (values (record { 0 = 4 }) ∷ [])
a_list = (record { 0 = 4 }, refl, refl)

a_mask : IsAsDeclared pool FieldMask (paths ∷ [])
a_mask = refl

an_any_type : IsAsDeclared pool Any (type_url ∷ any_value ∷ [])
an_any_type = refl

no_bytes : IsAsDeclared pool Any (type_url ∷ []) → ⊥
no_bytes e = absurd (cc)

any_fields : IsAsDeclared pool Other (nanos ∷ [])
any_fields = tt

-- ---- messages that are covered

abbrev IsIn : ℕ → Message → Type 0
IsIn m b = IsCoveredWithin pool 2 m b

abbrev one_value : Scalar → Message
one_value x = body (field 1 (one (scalar x)) no_fields) []

a_default : IsIn 0 empty
unfolding IsCoveredWithin
a_default = ((kind.Bool, tt, refl), refl, tt, refl, tt)

all_levels : IsCovered pool 0 empty
unfolding IsCoveredWithin
all_levels = ((kind.Bool, tt, refl), refl, tt, refl, tt)

no_levels : IsCoveredWithin pool 0 0 empty → ⊥
unfolding IsCoveredWithin
no_levels h = h

in_time : IsIn 1 (one_value (int64 (pos 1)))
unfolding IsCoveredWithin
in_time = (refl, refl, tt, refl, ((λ e. absurd (cc)), tt))

out_of_time : IsIn 1 (one_value (int64 (pos 253_402_300_800))) → ⊥
unfolding IsCoveredWithin
out_of_time h = let e = h.1 in absurd (cc)

-- the same one level further in
out_of_time_inside : IsIn 6 (body (field 1 (one (message (one_value (int64 (pos 253_402_300_800))))) no_fields) []) → ⊥
unfolding IsCoveredWithin
out_of_time_inside h = let e = h.4.0.1 in absurd (cc)

unknown : IsIn 0 (body no_fields (record { number = 2; payload = varint 0 } ∷ [])) → ⊥
unfolding IsCoveredWithin
unknown h = let e = h.3 in absurd (cc)

a_path : IsIn 2 (body (field 1 (list (datum (scalar (text (codes "a.b_c"))) no_datums)) no_fields) [])
unfolding IsCoveredWithin
a_path = (refl, refl, tt, refl, (((λ e. absurd (cc)), tt), tt))

upper_case : IsIn 2 (body (field 1 (list (datum (scalar (text (codes "aB"))) no_datums)) no_fields) []) → ⊥
unfolding IsCoveredWithin
upper_case h = let e = h.1 in absurd (cc)

null : IsIn 4 (one_value (enum (pos 0)))
unfolding IsCoveredWithin
null = ((record { 0 = 0 }, record { 0 = 3 }, record { 0 = 5 }, refl, refl, refl, refl), refl, tt, refl, ((λ e. refl), tt))

another_null : IsIn 4 (one_value (enum (pos 1))) → ⊥
unfolding IsCoveredWithin
another_null h = let e = h.4.0 refl in absurd (cc)

no_kind : IsIn 4 empty → ⊥
unfolding IsCoveredWithin
no_kind h = let e = h.1 in absurd (cc)

unset : IsIn 7 empty
unfolding IsCoveredWithin
unset = (refl, refl, inl refl, refl, tt)

-- true as a BoolValue, in the bytes 8 and 1
abbrev an_any : List ℕ → Message
an_any url = body (field 1 (one (scalar (text url))) (field 2 (one (scalar (bytes (8 ∷ 1 ∷ [])))) no_fields)) []

a_bool : IsIn 7 (an_any (codes "/google.protobuf.BoolValue"))
unfolding IsCoveredWithin rsplit_once shortest shortest_within
a_bool = (
  refl,
  refl,
  inr (record {
    message_type = 0;
    held = one_value (boolean true);
    named = refl;
    well_formed = record { parts = (((refl, tt, refl), tt), (omega arith, tt), (tt, tt), tt); depth = omega arith };
    canonical = refl;
    small = omega arith;
    one_nan = refl;
    covered = ((kind.Bool, tt, refl), refl, tt, refl, ((λ e. absurd (cc)), tt));
  }),
  refl,
  ((λ e. absurd (cc)), ((λ e. absurd (cc)), tt)),
)

-- a URL that names no type
another_type : IsIn 7 (an_any (codes "/google.protobuf.M2")) → ⊥
unfolding IsCoveredWithin rsplit_once
another_type h = held h.2
  where
    held : (fields_of (an_any (codes "/google.protobuf.M2")) ≡ no_fields) ⊎ HoldsMessage pool (IsCoveredWithin pool 1) (fields_of (an_any (codes "/google.protobuf.M2"))) → ⊥
    held (inl e) = absurd (cc)
    held (inr m) = let e = m.named in absurd (cc)
