-- The values of messages that show a break: they are values of their kinds, and the new kind does not hold the same.
use Rattle.std.proofs.Common.{◌≡◌, ◌≢◌, ℕ, zero, suc, ℤ, pos, negsuc, ◌+◌, ◌<◌, ◌≤◌, ◌^◌, ◌%◌, ◌/◌, List, [], ◌∷◌, Bool, true, false, cond, ◌&&◌, ◌||◌, None, refl, sym, ◌∙◌, ap, subst, arith, inl, inr}
use Rattle.std.specs.Prelude.{◌==◌, ◌⊎◌, nat_le, IsUtf8, encode_utf8_all, if◌then◌else◌}
use Rattle.std.specs.Int.{cast_unsigned, w32, w64}
use Rattle.std.specs.Int.RustNames.{FitsSigned}
use Rattle.std.specs.Str.{chars}
use Rattle.std.proofs.lemmas.Int.{ints}
use Rattle.std.proofs.lemmas.Bool.Decides.{nat_tests}
use Rattle.std.proofs.lemmas.Str.{IsUtf8-from_ascii, encodes-chars}
use Rattle.pb_wire.specs.Zigzag.{unzigzag}
use Rattle.pb_schema.specs.declared.types.EnumId.{EnumId}
use Rattle.pb_schema.specs.declared.types.Kind.{Kind}
use Rattle.pb_schema.specs.declared.types.Kind.TheVariants as kind
use Rattle.pb_schema.specs.declared.types.Shape.TheVariants as shape
use Rattle.pb_schema.specs.Types.{Types}
use Rattle.pb_schema.specs.Scalar.{Scalar, int32, int64, uint32, uint64, boolean, float, double, enum, text, bytes}
use Rattle.pb_schema.specs.Kinds.{wire_type_of, is_packable, closed_enum, IsOfKind}
use Rattle.pb_schema.specs.Closed.{declares}
use Rattle.pb_value.specs.Data.{Datum, scalar, message, Message, empty}
use Rattle.pb_value.specs.WellFormed.{IsDatum}
use Rattle.pb_value.proofs.FieldExtent.{equal_or_not}
use Rattle.pb_value.proofs.Numbers.{number_is}
use Rattle.pb_compat.specs.Scalars.{Meaning, integer, single, double_bits, octets, meaning, holds_number}
use Rattle.pb_compat.specs.Fields.{keeps_kind, is_bytes}
use Rattle.pb_compat.specs.Samples.{sample, edge, octets_in, IsBare, IsValue, IsNeverSame, IsUnfit, IsUnlike, never, otherwise, apart}
use Rattle.pb_compat.proofs.HoldingLemmas.{open_declared}
use Rattle.pb_compat.proofs.NameLemmas.{is_ascii}

-- VALUES OF THEIR KINDS

ascii_a : IsUtf8 (97 ∷ [])
ascii_a = IsUtf8-from_ascii (97 ∷ []) (is_ascii (97 ∷ []) (omega arith, tt))

pub sample_typed : (old : Types) (a : Kind) → IsDatum old a (sample a)
sample_typed old kind.Double = omega arith
sample_typed old kind.Float = omega arith
sample_typed old kind.Int64 = grind (arith, ints)
sample_typed old kind.Uint64 = omega arith
sample_typed old kind.Int32 = grind (arith, ints)
sample_typed old kind.Fixed64 = omega arith
sample_typed old kind.Fixed32 = omega arith
sample_typed old kind.Bool = tt
sample_typed old kind.Text = ascii_a
sample_typed old kind.Bytes = (omega arith, tt)
sample_typed old kind.Uint32 = omega arith
sample_typed old kind.Sfixed32 = grind (arith, ints)
sample_typed old kind.Sfixed64 = grind (arith, ints)
sample_typed old kind.Sint32 = grind (arith, ints)
sample_typed old kind.Sint64 = grind (arith, ints)
sample_typed old (kind.Enum e) = grind (arith, ints)
sample_typed old (kind.Message j) = (tt, tt, tt, tt)
sample_typed old (kind.Group j) = (tt, tt, tt, tt)
sample_typed old (kind.ClosedEnum e) = grind (arith, ints)

edge_typed : (old : Types) (a : Kind) → IsDatum old a (edge a)
edge_typed old kind.Double = sample_typed old kind.Double
edge_typed old kind.Float = sample_typed old kind.Float
edge_typed old kind.Int64 = grind (arith, ints)
edge_typed old kind.Uint64 = omega arith
edge_typed old kind.Int32 = grind (arith, ints)
edge_typed old kind.Fixed64 = omega arith
edge_typed old kind.Fixed32 = omega arith
edge_typed old kind.Bool = sample_typed old kind.Bool
edge_typed old kind.Text = sample_typed old kind.Text
edge_typed old kind.Bytes = sample_typed old kind.Bytes
edge_typed old kind.Uint32 = omega arith
edge_typed old kind.Sfixed32 = grind (arith, ints)
edge_typed old kind.Sfixed64 = grind (arith, ints)
edge_typed old kind.Sint32 = grind (arith, ints)
edge_typed old kind.Sint64 = grind (arith, ints)
edge_typed old (kind.Enum e) = grind (arith, ints)
edge_typed old (kind.Message j) = sample_typed old (kind.Message j)
edge_typed old (kind.Group j) = sample_typed old (kind.Group j)
edge_typed old (kind.ClosedEnum e) = sample_typed old (kind.ClosedEnum e)

sample_small : (a : Kind) → octets_in (sample a) ≤ 1
sample_small a = by a
  where
    by : (a : Kind) → octets_in (sample a) ≤ 1
    by kind.Double = omega arith
    by kind.Float = omega arith
    by kind.Int64 = omega arith
    by kind.Uint64 = omega arith
    by kind.Int32 = omega arith
    by kind.Fixed64 = omega arith
    by kind.Fixed32 = omega arith
    by kind.Bool = omega arith
    by kind.Text = omega arith
    by kind.Bytes = omega arith
    by kind.Uint32 = omega arith
    by kind.Sfixed32 = omega arith
    by kind.Sfixed64 = omega arith
    by kind.Sint32 = omega arith
    by kind.Sint64 = omega arith
    by (kind.Enum e) = omega arith
    by (kind.Message j) = omega arith
    by (kind.Group j) = omega arith
    by (kind.ClosedEnum e) = omega arith

edge_small : (a : Kind) → octets_in (edge a) ≤ 1
edge_small kind.Double = omega arith
edge_small kind.Float = omega arith
edge_small kind.Int64 = omega arith
edge_small kind.Uint64 = omega arith
edge_small kind.Int32 = omega arith
edge_small kind.Fixed64 = omega arith
edge_small kind.Fixed32 = omega arith
edge_small kind.Bool = omega arith
edge_small kind.Text = omega arith
edge_small kind.Bytes = omega arith
edge_small kind.Uint32 = omega arith
edge_small kind.Sfixed32 = omega arith
edge_small kind.Sfixed64 = omega arith
edge_small kind.Sint32 = omega arith
edge_small kind.Sint64 = omega arith
edge_small (kind.Enum e) = omega arith
edge_small (kind.Message j) = omega arith
edge_small (kind.Group j) = omega arith
edge_small (kind.ClosedEnum e) = omega arith

sample_bare : (a : Kind) → IsBare (sample a)
sample_bare kind.Double = tt
sample_bare kind.Float = tt
sample_bare kind.Int64 = tt
sample_bare kind.Uint64 = tt
sample_bare kind.Int32 = tt
sample_bare kind.Fixed64 = tt
sample_bare kind.Fixed32 = tt
sample_bare kind.Bool = tt
sample_bare kind.Text = tt
sample_bare kind.Bytes = tt
sample_bare kind.Uint32 = tt
sample_bare kind.Sfixed32 = tt
sample_bare kind.Sfixed64 = tt
sample_bare kind.Sint32 = tt
sample_bare kind.Sint64 = tt
sample_bare (kind.Enum e) = tt
sample_bare (kind.Message j) = refl
sample_bare (kind.Group j) = refl
sample_bare (kind.ClosedEnum e) = tt

edge_bare : (a : Kind) → IsBare (edge a)
edge_bare kind.Double = tt
edge_bare kind.Float = tt
edge_bare kind.Int64 = tt
edge_bare kind.Uint64 = tt
edge_bare kind.Int32 = tt
edge_bare kind.Fixed64 = tt
edge_bare kind.Fixed32 = tt
edge_bare kind.Bool = tt
edge_bare kind.Text = tt
edge_bare kind.Bytes = tt
edge_bare kind.Uint32 = tt
edge_bare kind.Sfixed32 = tt
edge_bare kind.Sfixed64 = tt
edge_bare kind.Sint32 = tt
edge_bare kind.Sint64 = tt
edge_bare (kind.Enum e) = tt
edge_bare (kind.Message j) = refl
edge_bare (kind.Group j) = refl
edge_bare (kind.ClosedEnum e) = tt

pub sample_value : (old : Types) (a : Kind) → closed_enum a ≡ None → IsValue old a (sample a)
sample_value old a unclosed = record { value = sample_typed old a; declared = open_declared old a (sample a) unclosed; small = sample_small a; bare = sample_bare a }

pub edge_value : (old : Types) (a : Kind) → closed_enum a ≡ None → IsValue old a (edge a)
edge_value old a unclosed = record { value = edge_typed old a; declared = open_declared old a (edge a) unclosed; small = edge_small a; bare = edge_bare a }

pub number_value : (old : Types) (i : EnumId) (z : ℤ) → FitsSigned w32 z → declares old i.0 z ≡ true → IsValue old (kind.ClosedEnum i) (scalar (enum z))
number_value old i z fits there = record { value = fits; declared = there; small = omega arith; bare = tt }

-- FORMS OF KINDS

-- integers, floats, doubles, strings, messages
abbrev pub form_of : Kind → ℕ
form_of kind.Double = 2
form_of kind.Float = 1
form_of kind.Int64 = 0
form_of kind.Uint64 = 0
form_of kind.Int32 = 0
form_of kind.Fixed64 = 0
form_of kind.Fixed32 = 0
form_of kind.Bool = 0
form_of kind.Text = 3
form_of kind.Bytes = 3
form_of kind.Uint32 = 0
form_of kind.Sfixed32 = 0
form_of kind.Sfixed64 = 0
form_of kind.Sint32 = 0
form_of kind.Sint64 = 0
form_of (kind.Enum e) = 0
form_of (kind.Message j) = 4
form_of (kind.Group j) = 4
form_of (kind.ClosedEnum e) = 0

abbrev meaning_form : Meaning → ℕ
meaning_form (integer z) = 0
meaning_form (single n) = 1
meaning_form (double_bits n) = 2
meaning_form (octets s) = 3

form_meaning : (b : Kind) (x : Scalar) → IsOfKind b x → meaning_form (meaning x) ≡ form_of b
form_meaning kind.Double (double n) h = refl
form_meaning kind.Float (float n) h = refl
form_meaning kind.Int64 (int64 z) h = refl
form_meaning kind.Uint64 (uint64 n) h = refl
form_meaning kind.Int32 (int32 z) h = refl
form_meaning kind.Fixed64 (uint64 n) h = refl
form_meaning kind.Fixed32 (uint32 n) h = refl
form_meaning kind.Bool (boolean t) h = refl
form_meaning kind.Text (text s) h = refl
form_meaning kind.Bytes (bytes s) h = refl
form_meaning kind.Uint32 (uint32 n) h = refl
form_meaning kind.Sfixed32 (int32 z) h = refl
form_meaning kind.Sfixed64 (int64 z) h = refl
form_meaning kind.Sint32 (int32 z) h = refl
form_meaning kind.Sint64 (int64 z) h = refl
form_meaning (kind.Enum e) (enum z) h = refl
form_meaning (kind.ClosedEnum e) (enum z) h = refl
form_meaning b x h = absurd h

-- a scalar of another form
pub never_scalar : (old new : Types) (a b : Kind) (x : Scalar) → IsOfKind a x → form_of a ≢ form_of b → IsNeverSame old new a b (scalar x)
never_scalar old new a b x h differ (scalar y) w declared same = differ (sym (form_meaning a x h) ∙ sym (ap meaning_form same) ∙ form_meaning b y w)
never_scalar old new a b x h differ (message v) w declared same = same

-- a message, where the new kind is no message and no bytes
pub never_message : (old new : Types) (a b : Kind) (v : Message) → form_of b ≢ 4 → is_bytes b ≡ false → IsNeverSame old new a b (message v)
never_message old new a b v other none (scalar y) w declared same = by b _ (subst (IsOfKind b) same w) none
  where
    by : (b : Kind) (s : List ℕ) → IsOfKind b (bytes s) → is_bytes b ≡ false → ⊥
    by kind.Bytes s h none = absurd (cc)
    by b s h none = h
never_message old new a b v other none (message u) w declared same = by b w other
  where
    by : (b : Kind) → IsDatum new b (message u) → form_of b ≢ 4 → ⊥
    by (kind.Message j) w other = other refl
    by (kind.Group j) w other = other refl
    by b w other = w

-- the byte 255 begins no character
no_character : chars (255 ∷ []) ≡ []
unfolding chars
no_character = refl

not_text : IsUtf8 (255 ∷ []) → ⊥
not_text h = let q : 255 ∷ [] ≡ encode_utf8_all [] = sym (encodes-chars (255 ∷ []) h) ∙ ap encode_utf8_all no_character in absurd (cc)

never_string : (old new : Types) → IsNeverSame old new kind.Bytes kind.Text (scalar (bytes (255 ∷ [])))
never_string old new (scalar (text s)) w declared same = let e : s ≡ 255 ∷ [] = cc in not_text (subst IsUtf8 e w)
never_string old new (scalar (int32 z)) w declared same = w
never_string old new (scalar (int64 z)) w declared same = w
never_string old new (scalar (uint32 n)) w declared same = w
never_string old new (scalar (uint64 n)) w declared same = w
never_string old new (scalar (boolean t)) w declared same = w
never_string old new (scalar (float n)) w declared same = w
never_string old new (scalar (double n)) w declared same = w
never_string old new (scalar (enum z)) w declared same = w
never_string old new (scalar (bytes s)) w declared same = w
never_string old new (message v) w declared same = w

-- a number that a closed enum does not declare
pub never_undeclared : (old new : Types) (a : Kind) (i : EnumId) (x : Scalar) (z : ℤ) → meaning x ≡ integer z → declares new i.0 z ≡ false → IsNeverSame old new a (kind.ClosedEnum i) (scalar x)
never_undeclared old new a i x z means none (scalar (enum y)) w declared same =
    let e : integer y ≡ integer z = same ∙ means in
    let number : y ≡ z = cc in
    clash (sym none ∙ ap (declares new i.0) (sym number) ∙ declared)
  where
    clash : false ≡ true → ⊥
    clash e = cc
never_undeclared old new a i x z means none (scalar (int32 y)) w declared same = w
never_undeclared old new a i x z means none (scalar (int64 y)) w declared same = w
never_undeclared old new a i x z means none (scalar (uint32 n)) w declared same = w
never_undeclared old new a i x z means none (scalar (uint64 n)) w declared same = w
never_undeclared old new a i x z means none (scalar (boolean t)) w declared same = w
never_undeclared old new a i x z means none (scalar (float n)) w declared same = w
never_undeclared old new a i x z means none (scalar (double n)) w declared same = w
never_undeclared old new a i x z means none (scalar (text s)) w declared same = w
never_undeclared old new a i x z means none (scalar (bytes s)) w declared same = w
never_undeclared old new a i x z means none (message v) w declared same = w

-- OTHER WIRE TYPES

-- records of another wire type fit no field but maps, where the kind is no string or message that a packed list takes for one
unfit_of : (a b : Kind) → (wire_type_of a == wire_type_of b) ≡ false → (is_packable b && (wire_type_of a == 2)) ≡ false → IsUnfit a b
unfit_of a b other plain (shape.Map key) e = absurd (cc)
unfit_of a b other plain shape.Implicit e = other
unfit_of a b other plain shape.Explicit e = other
unfit_of a b other plain (shape.OneofMember o) e = other
unfit_of a b other plain (shape.List p) e = ap (λ (t : Bool). t || (is_packable b && (wire_type_of a == 2))) other ∙ plain

and_false : (t : Bool) → (t && false) ≡ false
and_false true = refl
and_false false = refl

integer_wire : (a b : Kind) → form_of a ≡ 0 → (is_packable b && (wire_type_of a == 2)) ≡ false
integer_wire kind.Int64 b z = and_false (is_packable b)
integer_wire kind.Uint64 b z = and_false (is_packable b)
integer_wire kind.Int32 b z = and_false (is_packable b)
integer_wire kind.Fixed64 b z = and_false (is_packable b)
integer_wire kind.Fixed32 b z = and_false (is_packable b)
integer_wire kind.Bool b z = and_false (is_packable b)
integer_wire kind.Uint32 b z = and_false (is_packable b)
integer_wire kind.Sfixed32 b z = and_false (is_packable b)
integer_wire kind.Sfixed64 b z = and_false (is_packable b)
integer_wire kind.Sint32 b z = and_false (is_packable b)
integer_wire kind.Sint64 b z = and_false (is_packable b)
integer_wire (kind.Enum e) b z = and_false (is_packable b)
integer_wire (kind.ClosedEnum e) b z = and_false (is_packable b)
integer_wire a b z = absurd (omega (arith, z))

-- THE TABLE OF INTEGERS

size : Meaning → ℕ
size (integer (pos n)) = n
size (integer (negsuc n)) = n
size (single n) = n
size (double_bits n) = n
size (octets s) = 0

-- kinds of which a message that shows a break has a number that is looked for
abbrev pub is_searched : Kind → Kind → Bool
is_searched kind.Int32 (kind.ClosedEnum i) = true
is_searched (kind.Enum e) (kind.ClosedEnum i) = true
is_searched kind.Bool (kind.ClosedEnum i) = true
is_searched a b = false

edge_unlike : (old new : Types) (a b : Kind) → closed_enum a ≡ None → form_of a ≡ 0 → form_of b ≡ 0 → keeps_kind old new a b ≡ false → wire_type_of a ≡ wire_type_of b → is_searched a b ≡ false → IsUnlike old new a b (edge a)
unfolding size
edge_unlike old new kind.Int64 kind.Int64 unclosed f g keeps wires looked = absurd (cc)
edge_unlike old new kind.Int64 kind.Uint64 unclosed f g keeps wires looked = otherwise (λ q. absurd (cc), λ q. absurd (cc))
edge_unlike old new kind.Int64 kind.Int32 unclosed f g keeps wires looked = otherwise (λ q. absurd (cc), λ q. absurd (cc))
edge_unlike old new kind.Int64 kind.Bool unclosed f g keeps wires looked = otherwise (λ q. absurd (cc), λ q. absurd (cc))
edge_unlike old new kind.Int64 kind.Uint32 unclosed f g keeps wires looked = otherwise (λ q. absurd (cc), λ q. absurd (cc))
edge_unlike old new kind.Int64 kind.Sint32 unclosed f g keeps wires looked = otherwise (λ q. let e : 1073741823 ≡ 2147483648 = ap size q in absurd (omega (arith, e)), λ q. absurd (cc))
edge_unlike old new kind.Int64 kind.Sint64 unclosed f g keeps wires looked = otherwise (λ q. let e : 9223372035781033983 ≡ 2147483648 = ap size q in absurd (omega (arith, e)), λ q. absurd (cc))
edge_unlike old new kind.Int64 (kind.Enum j) unclosed f g keeps wires looked = otherwise (λ q. absurd (cc), λ q. absurd (cc))
edge_unlike old new kind.Int64 (kind.ClosedEnum i) unclosed f g keeps wires looked = otherwise (λ q. absurd (cc), λ q. absurd (cc))
edge_unlike old new kind.Int64 b unclosed f g keeps wires looked = absurd (omega (arith, g, wires))
edge_unlike old new kind.Uint64 kind.Int64 unclosed f g keeps wires looked = otherwise (λ q. absurd (cc), λ q. let e : 0 ≡ 18446744073709551615 = ap size q in absurd (omega (arith, e)))
edge_unlike old new kind.Uint64 kind.Uint64 unclosed f g keeps wires looked = absurd (cc)
edge_unlike old new kind.Uint64 kind.Int32 unclosed f g keeps wires looked = otherwise (λ q. absurd (cc), λ q. let e : 0 ≡ 18446744073709551615 = ap size q in absurd (omega (arith, e)))
edge_unlike old new kind.Uint64 kind.Bool unclosed f g keeps wires looked = otherwise (λ q. let e : 1 ≡ 18446744073709551615 = ap size q in absurd (omega (arith, e)), λ q. let e : 0 ≡ 18446744073709551615 = ap size q in absurd (omega (arith, e)))
edge_unlike old new kind.Uint64 kind.Uint32 unclosed f g keeps wires looked = otherwise (λ q. let e : 4294967295 ≡ 18446744073709551615 = ap size q in absurd (omega (arith, e)), λ q. let e : 0 ≡ 18446744073709551615 = ap size q in absurd (omega (arith, e)))
edge_unlike old new kind.Uint64 kind.Sint32 unclosed f g keeps wires looked = otherwise (λ q. absurd (cc), λ q. let e : 0 ≡ 18446744073709551615 = ap size q in absurd (omega (arith, e)))
edge_unlike old new kind.Uint64 kind.Sint64 unclosed f g keeps wires looked = otherwise (λ q. absurd (cc), λ q. let e : 0 ≡ 18446744073709551615 = ap size q in absurd (omega (arith, e)))
edge_unlike old new kind.Uint64 (kind.Enum j) unclosed f g keeps wires looked = otherwise (λ q. absurd (cc), λ q. let e : 0 ≡ 18446744073709551615 = ap size q in absurd (omega (arith, e)))
edge_unlike old new kind.Uint64 (kind.ClosedEnum i) unclosed f g keeps wires looked = otherwise (λ q. absurd (cc), λ q. let e : 0 ≡ 18446744073709551615 = ap size q in absurd (omega (arith, e)))
edge_unlike old new kind.Uint64 b unclosed f g keeps wires looked = absurd (omega (arith, g, wires))
edge_unlike old new kind.Int32 kind.Int64 unclosed f g keeps wires looked = absurd (cc)
edge_unlike old new kind.Int32 kind.Uint64 unclosed f g keeps wires looked = otherwise (λ q. absurd (cc), λ q. absurd (cc))
edge_unlike old new kind.Int32 kind.Int32 unclosed f g keeps wires looked = absurd (cc)
edge_unlike old new kind.Int32 kind.Bool unclosed f g keeps wires looked = otherwise (λ q. absurd (cc), λ q. absurd (cc))
edge_unlike old new kind.Int32 kind.Uint32 unclosed f g keeps wires looked = otherwise (λ q. absurd (cc), λ q. absurd (cc))
edge_unlike old new kind.Int32 kind.Sint32 unclosed f g keeps wires looked = otherwise (λ q. let e : 2147483647 ≡ 0 = ap size q in absurd (omega (arith, e)), λ q. absurd (cc))
edge_unlike old new kind.Int32 kind.Sint64 unclosed f g keeps wires looked = otherwise (λ q. let e : 9223372036854775807 ≡ 0 = ap size q in absurd (omega (arith, e)), λ q. absurd (cc))
edge_unlike old new kind.Int32 (kind.Enum j) unclosed f g keeps wires looked = absurd (cc)
edge_unlike old new kind.Int32 (kind.ClosedEnum i) unclosed f g keeps wires looked = absurd (cc)
edge_unlike old new kind.Int32 b unclosed f g keeps wires looked = absurd (omega (arith, g, wires))
edge_unlike old new kind.Fixed64 kind.Fixed64 unclosed f g keeps wires looked = absurd (cc)
edge_unlike old new kind.Fixed64 kind.Sfixed64 unclosed f g keeps wires looked = otherwise (λ q. absurd (cc), λ q. let e : 0 ≡ 18446744073709551615 = ap size q in absurd (omega (arith, e)))
edge_unlike old new kind.Fixed64 b unclosed f g keeps wires looked = absurd (omega (arith, g, wires))
edge_unlike old new kind.Fixed32 kind.Fixed32 unclosed f g keeps wires looked = absurd (cc)
edge_unlike old new kind.Fixed32 kind.Sfixed32 unclosed f g keeps wires looked = otherwise (λ q. absurd (cc), λ q. let e : 0 ≡ 4294967295 = ap size q in absurd (omega (arith, e)))
edge_unlike old new kind.Fixed32 b unclosed f g keeps wires looked = absurd (omega (arith, g, wires))
edge_unlike old new kind.Bool kind.Int64 unclosed f g keeps wires looked = absurd (cc)
edge_unlike old new kind.Bool kind.Uint64 unclosed f g keeps wires looked = absurd (cc)
edge_unlike old new kind.Bool kind.Int32 unclosed f g keeps wires looked = absurd (cc)
edge_unlike old new kind.Bool kind.Bool unclosed f g keeps wires looked = absurd (cc)
edge_unlike old new kind.Bool kind.Uint32 unclosed f g keeps wires looked = absurd (cc)
edge_unlike old new kind.Bool kind.Sint32 unclosed f g keeps wires looked = otherwise (λ q. absurd (cc), λ q. let e : 0 ≡ 1 = ap size q in absurd (omega (arith, e)))
edge_unlike old new kind.Bool kind.Sint64 unclosed f g keeps wires looked = otherwise (λ q. absurd (cc), λ q. let e : 0 ≡ 1 = ap size q in absurd (omega (arith, e)))
edge_unlike old new kind.Bool (kind.Enum j) unclosed f g keeps wires looked = absurd (cc)
edge_unlike old new kind.Bool (kind.ClosedEnum i) unclosed f g keeps wires looked = absurd (cc)
edge_unlike old new kind.Bool b unclosed f g keeps wires looked = absurd (omega (arith, g, wires))
edge_unlike old new kind.Uint32 kind.Int64 unclosed f g keeps wires looked = absurd (cc)
edge_unlike old new kind.Uint32 kind.Uint64 unclosed f g keeps wires looked = absurd (cc)
edge_unlike old new kind.Uint32 kind.Int32 unclosed f g keeps wires looked = otherwise (λ q. absurd (cc), λ q. let e : 0 ≡ 4294967295 = ap size q in absurd (omega (arith, e)))
edge_unlike old new kind.Uint32 kind.Bool unclosed f g keeps wires looked = otherwise (λ q. let e : 1 ≡ 4294967295 = ap size q in absurd (omega (arith, e)), λ q. let e : 0 ≡ 4294967295 = ap size q in absurd (omega (arith, e)))
edge_unlike old new kind.Uint32 kind.Uint32 unclosed f g keeps wires looked = absurd (cc)
edge_unlike old new kind.Uint32 kind.Sint32 unclosed f g keeps wires looked = otherwise (λ q. absurd (cc), λ q. let e : 0 ≡ 4294967295 = ap size q in absurd (omega (arith, e)))
edge_unlike old new kind.Uint32 kind.Sint64 unclosed f g keeps wires looked = otherwise (λ q. absurd (cc), λ q. let e : 0 ≡ 4294967295 = ap size q in absurd (omega (arith, e)))
edge_unlike old new kind.Uint32 (kind.Enum j) unclosed f g keeps wires looked = otherwise (λ q. absurd (cc), λ q. let e : 0 ≡ 4294967295 = ap size q in absurd (omega (arith, e)))
edge_unlike old new kind.Uint32 (kind.ClosedEnum i) unclosed f g keeps wires looked = otherwise (λ q. absurd (cc), λ q. let e : 0 ≡ 4294967295 = ap size q in absurd (omega (arith, e)))
edge_unlike old new kind.Uint32 b unclosed f g keeps wires looked = absurd (omega (arith, g, wires))
edge_unlike old new kind.Sfixed32 kind.Fixed32 unclosed f g keeps wires looked = otherwise (λ q. absurd (cc), λ q. absurd (cc))
edge_unlike old new kind.Sfixed32 kind.Sfixed32 unclosed f g keeps wires looked = absurd (cc)
edge_unlike old new kind.Sfixed32 b unclosed f g keeps wires looked = absurd (omega (arith, g, wires))
edge_unlike old new kind.Sfixed64 kind.Fixed64 unclosed f g keeps wires looked = otherwise (λ q. absurd (cc), λ q. absurd (cc))
edge_unlike old new kind.Sfixed64 kind.Sfixed64 unclosed f g keeps wires looked = absurd (cc)
edge_unlike old new kind.Sfixed64 b unclosed f g keeps wires looked = absurd (omega (arith, g, wires))
edge_unlike old new kind.Sint32 kind.Int64 unclosed f g keeps wires looked = otherwise (λ q. absurd (cc), λ q. absurd (cc))
edge_unlike old new kind.Sint32 kind.Uint64 unclosed f g keeps wires looked = otherwise (λ q. absurd (cc), λ q. absurd (cc))
edge_unlike old new kind.Sint32 kind.Int32 unclosed f g keeps wires looked = otherwise (λ q. absurd (cc), λ q. absurd (cc))
edge_unlike old new kind.Sint32 kind.Bool unclosed f g keeps wires looked = otherwise (λ q. absurd (cc), λ q. absurd (cc))
edge_unlike old new kind.Sint32 kind.Uint32 unclosed f g keeps wires looked = otherwise (λ q. absurd (cc), λ q. absurd (cc))
edge_unlike old new kind.Sint32 kind.Sint32 unclosed f g keeps wires looked = absurd (cc)
edge_unlike old new kind.Sint32 kind.Sint64 unclosed f g keeps wires looked = absurd (cc)
edge_unlike old new kind.Sint32 (kind.Enum j) unclosed f g keeps wires looked = otherwise (λ q. absurd (cc), λ q. absurd (cc))
edge_unlike old new kind.Sint32 (kind.ClosedEnum i) unclosed f g keeps wires looked = otherwise (λ q. absurd (cc), λ q. absurd (cc))
edge_unlike old new kind.Sint32 b unclosed f g keeps wires looked = absurd (omega (arith, g, wires))
edge_unlike old new kind.Sint64 kind.Int64 unclosed f g keeps wires looked = otherwise (λ q. let e : 4294967296 ≡ 2147483648 = ap size q in absurd (omega (arith, e)), λ q. let e : 0 ≡ 2147483648 = ap size q in absurd (omega (arith, e)))
edge_unlike old new kind.Sint64 kind.Uint64 unclosed f g keeps wires looked = otherwise (λ q. let e : 4294967296 ≡ 2147483648 = ap size q in absurd (omega (arith, e)), λ q. let e : 0 ≡ 2147483648 = ap size q in absurd (omega (arith, e)))
edge_unlike old new kind.Sint64 kind.Int32 unclosed f g keeps wires looked = otherwise (λ q. let e : 0 ≡ 2147483648 = ap size q in absurd (omega (arith, e)), λ q. let e : 0 ≡ 2147483648 = ap size q in absurd (omega (arith, e)))
edge_unlike old new kind.Sint64 kind.Bool unclosed f g keeps wires looked = otherwise (λ q. let e : 1 ≡ 2147483648 = ap size q in absurd (omega (arith, e)), λ q. let e : 0 ≡ 2147483648 = ap size q in absurd (omega (arith, e)))
edge_unlike old new kind.Sint64 kind.Uint32 unclosed f g keeps wires looked = otherwise (λ q. let e : 0 ≡ 2147483648 = ap size q in absurd (omega (arith, e)), λ q. let e : 0 ≡ 2147483648 = ap size q in absurd (omega (arith, e)))
edge_unlike old new kind.Sint64 kind.Sint32 unclosed f g keeps wires looked = otherwise (λ q. let e : 0 ≡ 2147483648 = ap size q in absurd (omega (arith, e)), λ q. let e : 0 ≡ 2147483648 = ap size q in absurd (omega (arith, e)))
edge_unlike old new kind.Sint64 kind.Sint64 unclosed f g keeps wires looked = absurd (cc)
edge_unlike old new kind.Sint64 (kind.Enum j) unclosed f g keeps wires looked = otherwise (λ q. let e : 0 ≡ 2147483648 = ap size q in absurd (omega (arith, e)), λ q. let e : 0 ≡ 2147483648 = ap size q in absurd (omega (arith, e)))
edge_unlike old new kind.Sint64 (kind.ClosedEnum i) unclosed f g keeps wires looked = otherwise (λ q. let e : 0 ≡ 2147483648 = ap size q in absurd (omega (arith, e)), λ q. let e : 0 ≡ 2147483648 = ap size q in absurd (omega (arith, e)))
edge_unlike old new kind.Sint64 b unclosed f g keeps wires looked = absurd (omega (arith, g, wires))
edge_unlike old new (kind.Enum e) kind.Int64 unclosed f g keeps wires looked = absurd (cc)
edge_unlike old new (kind.Enum e) kind.Uint64 unclosed f g keeps wires looked = otherwise (λ q. absurd (cc), λ q. absurd (cc))
edge_unlike old new (kind.Enum e) kind.Int32 unclosed f g keeps wires looked = absurd (cc)
edge_unlike old new (kind.Enum e) kind.Bool unclosed f g keeps wires looked = otherwise (λ q. absurd (cc), λ q. absurd (cc))
edge_unlike old new (kind.Enum e) kind.Uint32 unclosed f g keeps wires looked = otherwise (λ q. absurd (cc), λ q. absurd (cc))
edge_unlike old new (kind.Enum e) kind.Sint32 unclosed f g keeps wires looked = otherwise (λ q. let e : 2147483647 ≡ 0 = ap size q in absurd (omega (arith, e)), λ q. absurd (cc))
edge_unlike old new (kind.Enum e) kind.Sint64 unclosed f g keeps wires looked = otherwise (λ q. let e : 9223372036854775807 ≡ 0 = ap size q in absurd (omega (arith, e)), λ q. absurd (cc))
edge_unlike old new (kind.Enum e) (kind.Enum j) unclosed f g keeps wires looked = absurd (cc)
edge_unlike old new (kind.Enum e) (kind.ClosedEnum i) unclosed f g keeps wires looked = absurd (cc)
edge_unlike old new (kind.Enum e) b unclosed f g keeps wires looked = absurd (omega (arith, g, wires))
edge_unlike old new (kind.ClosedEnum e) b unclosed f g keeps wires looked = absurd (cc)
edge_unlike old new a b unclosed f g keeps wires looked = absurd (omega (arith, f))

-- ALL KINDS

other_form : (a b : ℕ) → a ≢ b → b ≢ a
other_form a b d e = d (sym e)

pub unlike_same_wire : (old new : Types) (a b : Kind) → closed_enum a ≡ None → keeps_kind old new a b ≡ false → wire_type_of a ≡ wire_type_of b → is_searched a b ≡ false → IsUnlike old new a b (edge a)
unlike_same_wire old new kind.Double kind.Double unclosed keeps wires looked = absurd (cc)
unlike_same_wire old new kind.Double b unclosed keeps wires looked = never (never_scalar old new kind.Double b (double 1) (edge_typed old kind.Double) (λ e. omega (arith, e)))
unlike_same_wire old new kind.Float kind.Float unclosed keeps wires looked = absurd (cc)
unlike_same_wire old new kind.Float b unclosed keeps wires looked = never (never_scalar old new kind.Float b (float 1) (edge_typed old kind.Float) (λ e. omega (arith, e)))
unlike_same_wire old new kind.Text kind.Text unclosed keeps wires looked = absurd (cc)
unlike_same_wire old new kind.Text kind.Bytes unclosed keeps wires looked = absurd (cc)
unlike_same_wire old new kind.Text b unclosed keeps wires looked = never (never_scalar old new kind.Text b (text (97 ∷ [])) ascii_a (λ e. omega (arith, e)))
unlike_same_wire old new kind.Bytes kind.Bytes unclosed keeps wires looked = absurd (cc)
unlike_same_wire old new kind.Bytes kind.Text unclosed keeps wires looked = never (never_string old new)
unlike_same_wire old new kind.Bytes b unclosed keeps wires looked = never (never_scalar old new kind.Bytes b (bytes (255 ∷ [])) (omega arith, tt) (λ e. omega (arith, e)))
unlike_same_wire old new (kind.Message j) (kind.Message i) unclosed keeps wires looked = absurd (cc)
unlike_same_wire old new (kind.Message j) kind.Bytes unclosed keeps wires looked = absurd (cc)
unlike_same_wire old new (kind.Message j) (kind.Group i) unclosed keeps wires looked = absurd (omega (arith, wires))
unlike_same_wire old new (kind.Message j) b unclosed keeps wires looked = never (never_message old new (kind.Message j) b empty (λ e. omega (arith, e)) refl)
unlike_same_wire old new (kind.Group j) (kind.Group i) unclosed keeps wires looked = absurd (cc)
unlike_same_wire old new (kind.Group j) b unclosed keeps wires looked = absurd (omega (arith, wires))
unlike_same_wire old new (kind.ClosedEnum i) b unclosed keeps wires looked = absurd (cc)
unlike_same_wire old new kind.Int64 b unclosed keeps wires looked = by (equal_or_not (form_of b) 0)
  where
    by : (form_of b ≡ 0) ⊎ (form_of b ≢ 0) → IsUnlike old new kind.Int64 b (edge kind.Int64)
    by (inl q) = edge_unlike old new kind.Int64 b unclosed refl q keeps wires looked
    by (inr d) = never (never_scalar old new kind.Int64 b (int64 (negsuc 2147483648)) (edge_typed old kind.Int64) (other_form (form_of b) 0 d))
unlike_same_wire old new kind.Uint64 b unclosed keeps wires looked = by (equal_or_not (form_of b) 0)
  where
    by : (form_of b ≡ 0) ⊎ (form_of b ≢ 0) → IsUnlike old new kind.Uint64 b (edge kind.Uint64)
    by (inl q) = edge_unlike old new kind.Uint64 b unclosed refl q keeps wires looked
    by (inr d) = never (never_scalar old new kind.Uint64 b (uint64 18446744073709551615) (edge_typed old kind.Uint64) (other_form (form_of b) 0 d))
unlike_same_wire old new kind.Int32 b unclosed keeps wires looked = by (equal_or_not (form_of b) 0)
  where
    by : (form_of b ≡ 0) ⊎ (form_of b ≢ 0) → IsUnlike old new kind.Int32 b (edge kind.Int32)
    by (inl q) = edge_unlike old new kind.Int32 b unclosed refl q keeps wires looked
    by (inr d) = never (never_scalar old new kind.Int32 b (int32 (negsuc 0)) (edge_typed old kind.Int32) (other_form (form_of b) 0 d))
unlike_same_wire old new kind.Fixed64 b unclosed keeps wires looked = by (equal_or_not (form_of b) 0)
  where
    by : (form_of b ≡ 0) ⊎ (form_of b ≢ 0) → IsUnlike old new kind.Fixed64 b (edge kind.Fixed64)
    by (inl q) = edge_unlike old new kind.Fixed64 b unclosed refl q keeps wires looked
    by (inr d) = never (never_scalar old new kind.Fixed64 b (uint64 18446744073709551615) (edge_typed old kind.Fixed64) (other_form (form_of b) 0 d))
unlike_same_wire old new kind.Fixed32 b unclosed keeps wires looked = by (equal_or_not (form_of b) 0)
  where
    by : (form_of b ≡ 0) ⊎ (form_of b ≢ 0) → IsUnlike old new kind.Fixed32 b (edge kind.Fixed32)
    by (inl q) = edge_unlike old new kind.Fixed32 b unclosed refl q keeps wires looked
    by (inr d) = never (never_scalar old new kind.Fixed32 b (uint32 4294967295) (edge_typed old kind.Fixed32) (other_form (form_of b) 0 d))
unlike_same_wire old new kind.Bool b unclosed keeps wires looked = by (equal_or_not (form_of b) 0)
  where
    by : (form_of b ≡ 0) ⊎ (form_of b ≢ 0) → IsUnlike old new kind.Bool b (edge kind.Bool)
    by (inl q) = edge_unlike old new kind.Bool b unclosed refl q keeps wires looked
    by (inr d) = never (never_scalar old new kind.Bool b (boolean true) (edge_typed old kind.Bool) (other_form (form_of b) 0 d))
unlike_same_wire old new kind.Uint32 b unclosed keeps wires looked = by (equal_or_not (form_of b) 0)
  where
    by : (form_of b ≡ 0) ⊎ (form_of b ≢ 0) → IsUnlike old new kind.Uint32 b (edge kind.Uint32)
    by (inl q) = edge_unlike old new kind.Uint32 b unclosed refl q keeps wires looked
    by (inr d) = never (never_scalar old new kind.Uint32 b (uint32 4294967295) (edge_typed old kind.Uint32) (other_form (form_of b) 0 d))
unlike_same_wire old new kind.Sfixed32 b unclosed keeps wires looked = by (equal_or_not (form_of b) 0)
  where
    by : (form_of b ≡ 0) ⊎ (form_of b ≢ 0) → IsUnlike old new kind.Sfixed32 b (edge kind.Sfixed32)
    by (inl q) = edge_unlike old new kind.Sfixed32 b unclosed refl q keeps wires looked
    by (inr d) = never (never_scalar old new kind.Sfixed32 b (int32 (negsuc 0)) (edge_typed old kind.Sfixed32) (other_form (form_of b) 0 d))
unlike_same_wire old new kind.Sfixed64 b unclosed keeps wires looked = by (equal_or_not (form_of b) 0)
  where
    by : (form_of b ≡ 0) ⊎ (form_of b ≢ 0) → IsUnlike old new kind.Sfixed64 b (edge kind.Sfixed64)
    by (inl q) = edge_unlike old new kind.Sfixed64 b unclosed refl q keeps wires looked
    by (inr d) = never (never_scalar old new kind.Sfixed64 b (int64 (negsuc 0)) (edge_typed old kind.Sfixed64) (other_form (form_of b) 0 d))
unlike_same_wire old new kind.Sint32 b unclosed keeps wires looked = by (equal_or_not (form_of b) 0)
  where
    by : (form_of b ≡ 0) ⊎ (form_of b ≢ 0) → IsUnlike old new kind.Sint32 b (edge kind.Sint32)
    by (inl q) = edge_unlike old new kind.Sint32 b unclosed refl q keeps wires looked
    by (inr d) = never (never_scalar old new kind.Sint32 b (int32 (negsuc 0)) (edge_typed old kind.Sint32) (other_form (form_of b) 0 d))
unlike_same_wire old new kind.Sint64 b unclosed keeps wires looked = by (equal_or_not (form_of b) 0)
  where
    by : (form_of b ≡ 0) ⊎ (form_of b ≢ 0) → IsUnlike old new kind.Sint64 b (edge kind.Sint64)
    by (inl q) = edge_unlike old new kind.Sint64 b unclosed refl q keeps wires looked
    by (inr d) = never (never_scalar old new kind.Sint64 b (int64 (pos 2147483648)) (edge_typed old kind.Sint64) (other_form (form_of b) 0 d))
unlike_same_wire old new (kind.Enum e) b unclosed keeps wires looked = by (equal_or_not (form_of b) 0)
  where
    by : (form_of b ≡ 0) ⊎ (form_of b ≢ 0) → IsUnlike old new (kind.Enum e) b (edge (kind.Enum e))
    by (inl q) = edge_unlike old new (kind.Enum e) b unclosed refl q keeps wires looked
    by (inr d) = never (never_scalar old new (kind.Enum e) b (enum (negsuc 0)) (edge_typed old (kind.Enum e)) (other_form (form_of b) 0 d))

pub unlike_other_wire : (old new : Types) (a b : Kind) → closed_enum a ≡ None → (wire_type_of a == wire_type_of b) ≡ false → IsUnlike old new a b (sample a)
unlike_other_wire old new kind.Double kind.Double unclosed other = absurd (cc)
unlike_other_wire old new kind.Double b unclosed other = never (never_scalar old new kind.Double b (double 1) (sample_typed old kind.Double) (λ e. omega (arith, e)))
unlike_other_wire old new kind.Float kind.Float unclosed other = absurd (cc)
unlike_other_wire old new kind.Float b unclosed other = never (never_scalar old new kind.Float b (float 1) (sample_typed old kind.Float) (λ e. omega (arith, e)))
unlike_other_wire old new kind.Text kind.Text unclosed other = absurd (cc)
unlike_other_wire old new kind.Text kind.Bytes unclosed other = absurd (cc)
unlike_other_wire old new kind.Text b unclosed other = never (never_scalar old new kind.Text b (text (97 ∷ [])) ascii_a (λ e. omega (arith, e)))
unlike_other_wire old new kind.Bytes kind.Text unclosed other = absurd (cc)
unlike_other_wire old new kind.Bytes kind.Bytes unclosed other = absurd (cc)
unlike_other_wire old new kind.Bytes b unclosed other = never (never_scalar old new kind.Bytes b (bytes (255 ∷ [])) (omega arith, tt) (λ e. omega (arith, e)))
unlike_other_wire old new (kind.Message j) (kind.Message i) unclosed other = absurd (cc)
unlike_other_wire old new (kind.Message j) kind.Bytes unclosed other = absurd (cc)
unlike_other_wire old new (kind.Message j) (kind.Group i) unclosed other = apart (unfit_of (kind.Message j) (kind.Group i) refl refl)
unlike_other_wire old new (kind.Message j) b unclosed other = never (never_message old new (kind.Message j) b empty (λ e. omega (arith, e)) refl)
unlike_other_wire old new (kind.Group j) (kind.Group i) unclosed other = absurd (cc)
unlike_other_wire old new (kind.Group j) (kind.Message i) unclosed other = apart (unfit_of (kind.Group j) (kind.Message i) refl refl)
unlike_other_wire old new (kind.Group j) kind.Bytes unclosed other = apart (unfit_of (kind.Group j) kind.Bytes refl refl)
unlike_other_wire old new (kind.Group j) b unclosed other = never (never_message old new (kind.Group j) b empty (λ e. omega (arith, e)) refl)
unlike_other_wire old new (kind.ClosedEnum i) b unclosed other = absurd (cc)
unlike_other_wire old new kind.Int64 b unclosed other = by (equal_or_not (form_of b) 0)
  where
    by : (form_of b ≡ 0) ⊎ (form_of b ≢ 0) → IsUnlike old new kind.Int64 b (sample kind.Int64)
    by (inl q) = apart (unfit_of kind.Int64 b other (integer_wire kind.Int64 b refl))
    by (inr d) = never (never_scalar old new kind.Int64 b (int64 (pos 1)) (sample_typed old kind.Int64) (other_form (form_of b) 0 d))
unlike_other_wire old new kind.Uint64 b unclosed other = by (equal_or_not (form_of b) 0)
  where
    by : (form_of b ≡ 0) ⊎ (form_of b ≢ 0) → IsUnlike old new kind.Uint64 b (sample kind.Uint64)
    by (inl q) = apart (unfit_of kind.Uint64 b other (integer_wire kind.Uint64 b refl))
    by (inr d) = never (never_scalar old new kind.Uint64 b (uint64 1) (sample_typed old kind.Uint64) (other_form (form_of b) 0 d))
unlike_other_wire old new kind.Int32 b unclosed other = by (equal_or_not (form_of b) 0)
  where
    by : (form_of b ≡ 0) ⊎ (form_of b ≢ 0) → IsUnlike old new kind.Int32 b (sample kind.Int32)
    by (inl q) = apart (unfit_of kind.Int32 b other (integer_wire kind.Int32 b refl))
    by (inr d) = never (never_scalar old new kind.Int32 b (int32 (pos 1)) (sample_typed old kind.Int32) (other_form (form_of b) 0 d))
unlike_other_wire old new kind.Fixed64 b unclosed other = by (equal_or_not (form_of b) 0)
  where
    by : (form_of b ≡ 0) ⊎ (form_of b ≢ 0) → IsUnlike old new kind.Fixed64 b (sample kind.Fixed64)
    by (inl q) = apart (unfit_of kind.Fixed64 b other (integer_wire kind.Fixed64 b refl))
    by (inr d) = never (never_scalar old new kind.Fixed64 b (uint64 1) (sample_typed old kind.Fixed64) (other_form (form_of b) 0 d))
unlike_other_wire old new kind.Fixed32 b unclosed other = by (equal_or_not (form_of b) 0)
  where
    by : (form_of b ≡ 0) ⊎ (form_of b ≢ 0) → IsUnlike old new kind.Fixed32 b (sample kind.Fixed32)
    by (inl q) = apart (unfit_of kind.Fixed32 b other (integer_wire kind.Fixed32 b refl))
    by (inr d) = never (never_scalar old new kind.Fixed32 b (uint32 1) (sample_typed old kind.Fixed32) (other_form (form_of b) 0 d))
unlike_other_wire old new kind.Bool b unclosed other = by (equal_or_not (form_of b) 0)
  where
    by : (form_of b ≡ 0) ⊎ (form_of b ≢ 0) → IsUnlike old new kind.Bool b (sample kind.Bool)
    by (inl q) = apart (unfit_of kind.Bool b other (integer_wire kind.Bool b refl))
    by (inr d) = never (never_scalar old new kind.Bool b (boolean true) (sample_typed old kind.Bool) (other_form (form_of b) 0 d))
unlike_other_wire old new kind.Uint32 b unclosed other = by (equal_or_not (form_of b) 0)
  where
    by : (form_of b ≡ 0) ⊎ (form_of b ≢ 0) → IsUnlike old new kind.Uint32 b (sample kind.Uint32)
    by (inl q) = apart (unfit_of kind.Uint32 b other (integer_wire kind.Uint32 b refl))
    by (inr d) = never (never_scalar old new kind.Uint32 b (uint32 1) (sample_typed old kind.Uint32) (other_form (form_of b) 0 d))
unlike_other_wire old new kind.Sfixed32 b unclosed other = by (equal_or_not (form_of b) 0)
  where
    by : (form_of b ≡ 0) ⊎ (form_of b ≢ 0) → IsUnlike old new kind.Sfixed32 b (sample kind.Sfixed32)
    by (inl q) = apart (unfit_of kind.Sfixed32 b other (integer_wire kind.Sfixed32 b refl))
    by (inr d) = never (never_scalar old new kind.Sfixed32 b (int32 (pos 1)) (sample_typed old kind.Sfixed32) (other_form (form_of b) 0 d))
unlike_other_wire old new kind.Sfixed64 b unclosed other = by (equal_or_not (form_of b) 0)
  where
    by : (form_of b ≡ 0) ⊎ (form_of b ≢ 0) → IsUnlike old new kind.Sfixed64 b (sample kind.Sfixed64)
    by (inl q) = apart (unfit_of kind.Sfixed64 b other (integer_wire kind.Sfixed64 b refl))
    by (inr d) = never (never_scalar old new kind.Sfixed64 b (int64 (pos 1)) (sample_typed old kind.Sfixed64) (other_form (form_of b) 0 d))
unlike_other_wire old new kind.Sint32 b unclosed other = by (equal_or_not (form_of b) 0)
  where
    by : (form_of b ≡ 0) ⊎ (form_of b ≢ 0) → IsUnlike old new kind.Sint32 b (sample kind.Sint32)
    by (inl q) = apart (unfit_of kind.Sint32 b other (integer_wire kind.Sint32 b refl))
    by (inr d) = never (never_scalar old new kind.Sint32 b (int32 (pos 1)) (sample_typed old kind.Sint32) (other_form (form_of b) 0 d))
unlike_other_wire old new kind.Sint64 b unclosed other = by (equal_or_not (form_of b) 0)
  where
    by : (form_of b ≡ 0) ⊎ (form_of b ≢ 0) → IsUnlike old new kind.Sint64 b (sample kind.Sint64)
    by (inl q) = apart (unfit_of kind.Sint64 b other (integer_wire kind.Sint64 b refl))
    by (inr d) = never (never_scalar old new kind.Sint64 b (int64 (pos 1)) (sample_typed old kind.Sint64) (other_form (form_of b) 0 d))
unlike_other_wire old new (kind.Enum e) b unclosed other = by (equal_or_not (form_of b) 0)
  where
    by : (form_of b ≡ 0) ⊎ (form_of b ≢ 0) → IsUnlike old new (kind.Enum e) b (sample (kind.Enum e))
    by (inl q) = apart (unfit_of (kind.Enum e) b other (integer_wire (kind.Enum e) b refl))
    by (inr d) = never (never_scalar old new (kind.Enum e) b (enum (pos 1)) (sample_typed old (kind.Enum e)) (other_form (form_of b) 0 d))

-- NUMBERS OF CLOSED ENUMS

unz_pos : (m n : ℕ) → m ≡ n → (n == 0) ≡ false → integer (unzigzag m) ≡ integer (pos n) → ⊥
unfolding size
unz_pos m n same some = by (m % 2 == 0)
  where
    by : (t : Bool) → integer (if t then pos (m / 2) else negsuc (m / 2)) ≡ integer (pos n) → ⊥
    by false q = absurd (cc)
    by true q = let e : m / 2 ≡ n = ap size q in by_zero n some e same
      where
        by_zero : (n : ℕ) → (n == 0) ≡ false → m / 2 ≡ n → m ≡ n → ⊥
        by_zero zero some e same = absurd (cc)
        by_zero (suc i) some e same = omega (arith, e, same)

unz_neg : (m n total : ℕ) → m + n + 1 ≡ total → n < 2 ^ 31 → (total ≡ 2 ^ 32) ⊎ (total ≡ 2 ^ 64) → integer (unzigzag m) ≡ integer (negsuc n) → ⊥
unfolding size
unz_neg m n total sum small width = by (m % 2 == 0) refl
  where
    odd : m / 2 ≡ n → (m % 2 == 0) ≡ false → (total ≡ 2 ^ 32) ⊎ (total ≡ 2 ^ 64) → ⊥
    odd e t (inl w) = grind (arith, nat_tests)
    odd e t (inr w) = grind (arith, nat_tests)

    by : (t : Bool) → (m % 2 == 0) ≡ t → integer (if t then pos (m / 2) else negsuc (m / 2)) ≡ integer (negsuc n) → ⊥
    by true t q = absurd (cc)
    by false t q = odd (ap size q) t width

low_pos : (n : ℕ) → FitsSigned w32 (pos n) → cast_unsigned w64 (pos n) % 2 ^ 32 ≡ n
low_pos n h = grind (arith, ints)

pub long_pos : (n : ℕ) → FitsSigned w32 (pos n) → cast_unsigned w64 (pos n) ≡ n
long_pos n h = grind (arith, ints)

low_neg : (n : ℕ) → FitsSigned w32 (negsuc n) → cast_unsigned w64 (negsuc n) % 2 ^ 32 + n + 1 ≡ 2 ^ 32
low_neg n h = grind (arith, ints)

pub long_neg : (n : ℕ) → FitsSigned w32 (negsuc n) → cast_unsigned w64 (negsuc n) + n + 1 ≡ 2 ^ 64
long_neg n h = grind (arith, ints)

pub small_neg : (n : ℕ) → FitsSigned w32 (negsuc n) → n < 2 ^ 31
small_neg n h = grind (arith, ints)

no_zero : (n : ℕ) → (n == 0) ≡ false → integer (pos 0) ≢ integer (pos n)
unfolding size
no_zero zero e q = absurd (cc)
no_zero (suc n) e q = let z : 0 ≡ suc n = ap size q in omega (arith, z)

no_bit : (n : ℕ) → nat_le n 1 ≡ false → (t : Bool) → integer (pos (cond t 1 0)) ≢ integer (pos n)
unfolding size
no_bit zero e t q = absurd (cc)
no_bit (suc zero) e t q = absurd (cc)
no_bit (suc (suc n)) e true q = let z : 1 ≡ suc (suc n) = ap size q in omega (arith, z)
no_bit (suc (suc n)) e false q = let z : 0 ≡ suc (suc n) = ap size q in omega (arith, z)

-- a number of a closed enum that the new kind does not hold
pub unlike_number : (old new : Types) (i : EnumId) (b : Kind) (z : ℤ) → FitsSigned w32 z → holds_number new b z ≡ false → IsUnlike old new (kind.ClosedEnum i) b (scalar (enum z))
unlike_number old new i kind.Int32 z h e = absurd (cc)
unlike_number old new i kind.Int64 z h e = absurd (cc)
unlike_number old new i (kind.Enum j) z h e = absurd (cc)
unlike_number old new i (kind.ClosedEnum j) z h e = never (never_undeclared old new (kind.ClosedEnum i) j (enum z) z refl e)
unlike_number old new i kind.Uint32 (pos n) h e = absurd (cc)
unlike_number old new i kind.Uint32 (negsuc n) h e = otherwise (λ q. absurd (cc), λ q. absurd (cc))
unlike_number old new i kind.Uint64 (pos n) h e = absurd (cc)
unlike_number old new i kind.Uint64 (negsuc n) h e = otherwise (λ q. absurd (cc), λ q. absurd (cc))
unlike_number old new i kind.Bool (pos n) h e = otherwise (no_bit n e _, no_bit n e false)
unlike_number old new i kind.Bool (negsuc n) h e = otherwise (λ q. absurd (cc), λ q. absurd (cc))
unlike_number old new i kind.Sint32 (pos n) h e = otherwise (unz_pos _ n (low_pos n h) e, no_zero n e)
unlike_number old new i kind.Sint32 (negsuc n) h e = otherwise (unz_neg _ n (2 ^ 32) (low_neg n h) (small_neg n h) (inl refl), λ q. absurd (cc))
unlike_number old new i kind.Sint64 (pos n) h e = otherwise (unz_pos _ n (long_pos n h) e, no_zero n e)
unlike_number old new i kind.Sint64 (negsuc n) h e = otherwise (unz_neg _ n (2 ^ 64) (long_neg n h) (small_neg n h) (inr refl), λ q. absurd (cc))
unlike_number old new i kind.Fixed64 z h e = apart (unfit_of (kind.ClosedEnum i) kind.Fixed64 refl refl)
unlike_number old new i kind.Sfixed64 z h e = apart (unfit_of (kind.ClosedEnum i) kind.Sfixed64 refl refl)
unlike_number old new i kind.Fixed32 z h e = apart (unfit_of (kind.ClosedEnum i) kind.Fixed32 refl refl)
unlike_number old new i kind.Sfixed32 z h e = apart (unfit_of (kind.ClosedEnum i) kind.Sfixed32 refl refl)
unlike_number old new i b z h e = never (never_scalar old new (kind.ClosedEnum i) b (enum z) h (λ q. omega (arith, q)))

-- the value that is taken where no number is looked for
pub open_unlike : (old new : Types) (a b : Kind) (d : Datum) → closed_enum a ≡ None → keeps_kind old new a b ≡ false → is_searched a b ≡ false
    → (wire_type_of a ≡ wire_type_of b → d ≡ edge a) → ((wire_type_of a == wire_type_of b) ≡ false → d ≡ sample a) → IsUnlike old new a b d
open_unlike old new a b d unclosed keeps looked same other = by (wire_type_of a == wire_type_of b) refl
  where
    by : (t : Bool) → (wire_type_of a == wire_type_of b) ≡ t → IsUnlike old new a b d
    by true e = let wires = number_is (wire_type_of a) (wire_type_of b) e in subst (IsUnlike old new a b) (sym (same wires)) (unlike_same_wire old new a b unclosed keeps wires looked)
    by false e = subst (IsUnlike old new a b) (sym (other e)) (unlike_other_wire old new a b unclosed e)
