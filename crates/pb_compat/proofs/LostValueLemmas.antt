-- Values that the new kind does not read as the same, wherever they are: alone, in a list, in a packed list or in a map.
use Rattle.std.proofs.Common.{◌≡◌, ◌≢◌, ℕ, zero, suc, ℤ, pos, negsuc, List, [], ◌∷◌, Bool, true, false, not, ◌&&◌, ◌||◌, Some, None, Result, Ok, Err, IfOk, refl, sym, ◌∙◌, ap, subst, arith, inl, inr}
use Rattle.std.specs.Prelude.{◌==◌, ◌⊎◌, slice_get}
use Rattle.std.specs.List.{list_any}
use Rattle.std.specs.Ordering.{int_eq}
use Rattle.std.proofs.lemmas.Bool.Decides.{Decides-int_eq}
use Rattle.std.specs.Int.{w32}
use Rattle.std.specs.Int.RustNames.{FitsSigned}
use Rattle.pb_schema.specs.declared.types.EnumId.{EnumId}
use Rattle.pb_schema.specs.declared.types.Kind.{Kind}
use Rattle.pb_schema.specs.declared.types.Kind.TheVariants as kind
use Rattle.pb_schema.specs.declared.types.Shape.TheVariants as shape
use Rattle.pb_schema.specs.Types.{Types}
use Rattle.pb_schema.specs.Scalar.{Scalar, int32, int64, uint32, uint64, boolean, float, double, enum, text, bytes, is_default}
use Rattle.pb_schema.specs.Kinds.{wire_type_of, is_packable, is_of_proto2, message_of_kind, closed_enum, default_of, IsOfKind}
use Rattle.pb_schema.specs.Closed.{declares}
use Rattle.pb_schema.specs.EnumValues.{enum_values}
use Rattle.pb_schema.specs.Packed.{element_bytes}
use Rattle.pb_value.specs.Data.{Datum, scalar, message, empty}
use Rattle.pb_value.specs.Judge.Forms.{is_default_datum}
use Rattle.pb_value.specs.View.{value_view}
use Rattle.pb_value.specs.declared.body.Value.{Value}
use Rattle.pb_value.proofs.FieldExtent.{equal_or_not}
use Rattle.pb_value.proofs.Numbers.{number_is, not_equal, differ_by, self_equal}
use Rattle.pb_compat.specs.Scalars.{Meaning, integer, single, double_bits, octets, meaning, holds_number, declares_others}
use Rattle.pb_compat.specs.Fields.{keeps_kind, keeps_others}
use Rattle.pb_compat.specs.Samples.{sample, edge, IsValue, IsUnlike, never, otherwise, apart, IsUnfit, IsUnlikeEntry, never_entry, otherwise_entry, missing_entry, IsUnlikeElement, never_element, otherwise_element, IsNoDefault, IsLostValue}
use Rattle.pb_compat.proofs.ClosedLemmas.{closed_element}
use Rattle.pb_compat.proofs.ElementLemmas.{packed_of_read, byte_one, byte_two, IsOneIn, as_varint, as_four, as_eight, one_apart}
use Rattle.pb_compat.proofs.SampleLemmas.{sample_value, edge_value, number_value, form_of, never_scalar, never_message, never_undeclared, is_searched, unlike_same_wire, unlike_number, sample_typed, open_unlike}

-- THE SAME WIRE TYPE

fits_itself : (a b : Kind) → wire_type_of a ≡ wire_type_of b → IsUnfit a b → ⊥
fits_itself a b wires u = clash (sym (ap (λ (w : ℕ). w == wire_type_of b) wires ∙ self_equal (wire_type_of b)) ∙ u shape.Implicit refl)
  where
    clash : true ≡ false → ⊥
    clash e = cc

entry_of_unlike : (old new : Types) (a b : Kind) (d : Datum) → wire_type_of a ≡ wire_type_of b → IsUnlike old new a b d → IsUnlikeEntry old new a b d
entry_of_unlike old new a b d wires (never n) = never_entry n
entry_of_unlike old new a b d wires (otherwise o) = otherwise_entry o
entry_of_unlike old new a b d wires (apart u) = absurd (fits_itself a b wires u)

element_of_unlike : (old new : Types) (a b : Kind) (d : Datum) → IsValue old a d → is_packable a ≡ true → wire_type_of a ≡ wire_type_of b → IsUnlike old new a b d → IsUnlikeElement old new a b d
element_of_unlike old new a b d v packs wires (never n) = never_element n
element_of_unlike old new a b (scalar x) v packs wires (otherwise o) = otherwise_element (packed_of_read old a b x packs v.value o)
element_of_unlike old new a b (message m) v packs wires (otherwise o) = absurd o
element_of_unlike old new a b d v packs wires (apart u) = absurd (fits_itself a b wires u)

-- OTHER WIRE TYPES

-- the number of a meaning
size : Meaning → ℕ
size (integer (pos n)) = n
size (integer (negsuc n)) = n
size (single n) = n
size (double_bits n) = n
size (octets s) = 0

zero_one : integer (pos 0) ≢ integer (pos 1)
unfolding size
zero_one e = let q : 0 ≡ 1 = ap size e in omega (arith, q)

-- the default of an integer kind is 0
integer_default : (b : Kind) → form_of b ≡ 0 → (message_of_kind b ≡ None) × (meaning (default_of b) ≡ integer (pos 0))
integer_default kind.Double f = absurd (omega (arith, f))
integer_default kind.Float f = absurd (omega (arith, f))
integer_default kind.Text f = absurd (omega (arith, f))
integer_default kind.Bytes f = absurd (omega (arith, f))
integer_default (kind.Message m) f = absurd (omega (arith, f))
integer_default (kind.Group m) f = absurd (omega (arith, f))
integer_default b f = (refl, refl)

no_default : (b : Kind) (x : Scalar) → meaning x ≡ integer (pos 1) → form_of b ≡ 0 → IsNoDefault b (scalar x)
no_default b x one f = let d = integer_default b f in (d.0, λ e. zero_one (sym d.1 ∙ e ∙ one))

apart_wires : (a b : Kind) → (wire_type_of a == wire_type_of b) ≡ false → wire_type_of a ≢ wire_type_of b
apart_wires a b e = differ_by (wire_type_of a) (wire_type_of b) e

turned : (m n : ℕ) → m ≢ n → n ≢ m
turned m n d e = d (sym e)

integer_packs : (b : Kind) → form_of b ≡ 0 → is_packable b ≡ true
integer_packs kind.Text f = absurd (omega (arith, f))
integer_packs kind.Bytes f = absurd (omega (arith, f))
integer_packs (kind.Message m) f = absurd (omega (arith, f))
integer_packs (kind.Group m) f = absurd (omega (arith, f))
integer_packs b f = refl

-- an integer that is 1
pub record IsApart (old new : Types) (a b : Kind) (d : Datum) : Type 0 where
  pub in_entry : is_of_proto2 a ≡ false → is_of_proto2 b ≡ false → IsUnlikeEntry old new a b d
  pub in_packed : is_packable a ≡ true → IsUnlikeElement old new a b d

one_apart_from : (old new : Types) (a b : Kind) (x : Scalar) → IsOneIn a (element_bytes a x) → IsOfKind a x → form_of a ≡ 0 → meaning x ≡ integer (pos 1) → (wire_type_of a == wire_type_of b) ≡ false → IsApart old new a b (scalar x)
one_apart_from old new a b x one h own means other = by (equal_or_not (form_of b) 0)
  where
    by : (form_of b ≡ 0) ⊎ (form_of b ≢ 0) → IsApart old new a b (scalar x)
    by (inl f) = record {
      in_entry = λ p q. missing_entry (apart_wires a b other) (no_default b x means f);
      in_packed = λ packs. otherwise_element (one_apart a b x one (integer_packs b f) (turned (wire_type_of a) (wire_type_of b) (apart_wires a b other)));
    }
    by (inr d) = let differ : form_of a ≢ form_of b = λ e. d (sym e ∙ own) in record {
      in_entry = λ p q. never_entry (never_scalar old new a b x h differ);
      in_packed = λ packs. never_element (never_scalar old new a b x h differ);
    }

-- values of kinds that are no integers
form_apart : (old new : Types) (a b : Kind) (x : Scalar) → IsOfKind a x → form_of a ≢ form_of b → IsApart old new a b (scalar x)
form_apart old new a b x h differ = record { in_entry = λ p q. never_entry (never_scalar old new a b x h differ); in_packed = λ packs. never_element (never_scalar old new a b x h differ) }

sample_apart : (old new : Types) (a b : Kind) → closed_enum a ≡ None → (wire_type_of a == wire_type_of b) ≡ false → IsApart old new a b (sample a)
sample_apart old new kind.Int64 b unclosed other = one_apart_from old new kind.Int64 b (int64 (pos 1)) (as_varint 1 byte_one refl) (sample_typed old kind.Int64) refl refl other
sample_apart old new kind.Uint64 b unclosed other = one_apart_from old new kind.Uint64 b (uint64 1) (as_varint 1 byte_one refl) (sample_typed old kind.Uint64) refl refl other
sample_apart old new kind.Int32 b unclosed other = one_apart_from old new kind.Int32 b (int32 (pos 1)) (as_varint 1 byte_one refl) (sample_typed old kind.Int32) refl refl other
sample_apart old new kind.Fixed64 b unclosed other = one_apart_from old new kind.Fixed64 b (uint64 1) (as_eight refl refl) (sample_typed old kind.Fixed64) refl refl other
sample_apart old new kind.Fixed32 b unclosed other = one_apart_from old new kind.Fixed32 b (uint32 1) (as_four refl refl) (sample_typed old kind.Fixed32) refl refl other
sample_apart old new kind.Bool b unclosed other = one_apart_from old new kind.Bool b (boolean true) (as_varint 1 byte_one refl) (sample_typed old kind.Bool) refl refl other
sample_apart old new kind.Uint32 b unclosed other = one_apart_from old new kind.Uint32 b (uint32 1) (as_varint 1 byte_one refl) (sample_typed old kind.Uint32) refl refl other
sample_apart old new kind.Sfixed32 b unclosed other = one_apart_from old new kind.Sfixed32 b (int32 (pos 1)) (as_four refl refl) (sample_typed old kind.Sfixed32) refl refl other
sample_apart old new kind.Sfixed64 b unclosed other = one_apart_from old new kind.Sfixed64 b (int64 (pos 1)) (as_eight refl refl) (sample_typed old kind.Sfixed64) refl refl other
sample_apart old new kind.Sint32 b unclosed other = one_apart_from old new kind.Sint32 b (int32 (pos 1)) (as_varint 2 byte_two refl) (sample_typed old kind.Sint32) refl refl other
sample_apart old new kind.Sint64 b unclosed other = one_apart_from old new kind.Sint64 b (int64 (pos 1)) (as_varint 2 byte_two refl) (sample_typed old kind.Sint64) refl refl other
sample_apart old new (kind.Enum e) b unclosed other = one_apart_from old new (kind.Enum e) b (enum (pos 1)) (as_varint 1 byte_one refl) (sample_typed old (kind.Enum e)) refl refl other
sample_apart old new kind.Double kind.Double unclosed other = absurd (cc)
sample_apart old new kind.Double b unclosed other = form_apart old new kind.Double b (double 1) (sample_typed old kind.Double) (λ e. omega (arith, e))
sample_apart old new kind.Float kind.Float unclosed other = absurd (cc)
sample_apart old new kind.Float b unclosed other = form_apart old new kind.Float b (float 1) (sample_typed old kind.Float) (λ e. omega (arith, e))
sample_apart old new kind.Text kind.Text unclosed other = absurd (cc)
sample_apart old new kind.Text kind.Bytes unclosed other = absurd (cc)
sample_apart old new kind.Text b unclosed other = form_apart old new kind.Text b (text (97 ∷ [])) (sample_typed old kind.Text) (λ e. omega (arith, e))
sample_apart old new kind.Bytes kind.Text unclosed other = absurd (cc)
sample_apart old new kind.Bytes kind.Bytes unclosed other = absurd (cc)
sample_apart old new kind.Bytes b unclosed other = form_apart old new kind.Bytes b (bytes (255 ∷ [])) (sample_typed old kind.Bytes) (λ e. omega (arith, e))
sample_apart old new (kind.ClosedEnum i) b unclosed other = absurd (cc)
sample_apart old new (kind.Group j) b unclosed other = record { in_entry = λ p q. absurd (cc); in_packed = λ packs. absurd (cc) }
sample_apart old new (kind.Message j) (kind.Message i) unclosed other = absurd (cc)
sample_apart old new (kind.Message j) kind.Bytes unclosed other = absurd (cc)
sample_apart old new (kind.Message j) (kind.Group i) unclosed other = record { in_entry = λ p q. absurd (cc); in_packed = λ packs. absurd (cc) }
sample_apart old new (kind.Message j) b unclosed other = record {
  in_entry = λ p q. never_entry (never_message old new (kind.Message j) b empty (λ e. omega (arith, e)) refl);
  in_packed = λ packs. absurd (cc);
}

-- NO DEFAULTS

pub sample_other : (a : Kind) → is_default_datum (sample a) ≡ false
sample_other kind.Double = refl
sample_other kind.Float = refl
sample_other kind.Int64 = refl
sample_other kind.Uint64 = refl
sample_other kind.Int32 = refl
sample_other kind.Fixed64 = refl
sample_other kind.Fixed32 = refl
sample_other kind.Bool = refl
sample_other kind.Text = refl
sample_other kind.Bytes = refl
sample_other kind.Uint32 = refl
sample_other kind.Sfixed32 = refl
sample_other kind.Sfixed64 = refl
sample_other kind.Sint32 = refl
sample_other kind.Sint64 = refl
sample_other (kind.Enum e) = refl
sample_other (kind.Message j) = refl
sample_other (kind.Group j) = refl
sample_other (kind.ClosedEnum e) = refl

edge_other : (a : Kind) → is_default_datum (edge a) ≡ false
edge_other kind.Double = refl
edge_other kind.Float = refl
edge_other kind.Int64 = refl
edge_other kind.Uint64 = refl
edge_other kind.Int32 = refl
edge_other kind.Fixed64 = refl
edge_other kind.Fixed32 = refl
edge_other kind.Bool = refl
edge_other kind.Text = refl
edge_other kind.Bytes = refl
edge_other kind.Uint32 = refl
edge_other kind.Sfixed32 = refl
edge_other kind.Sfixed64 = refl
edge_other kind.Sint32 = refl
edge_other kind.Sint64 = refl
edge_other (kind.Enum e) = refl
edge_other (kind.Message j) = refl
edge_other (kind.Group j) = refl
edge_other (kind.ClosedEnum e) = refl

-- VALUES OF KINDS THAT ARE NOT KEPT

pub open_lost : (old new : Types) (a b : Kind) (d : Datum) → closed_enum a ≡ None → keeps_kind old new a b ≡ false → is_searched a b ≡ false
    → (wire_type_of a ≡ wire_type_of b → d ≡ edge a) → ((wire_type_of a == wire_type_of b) ≡ false → d ≡ sample a) → IsLostValue old new a b d
open_lost old new a b d unclosed keeps looked same other = by (wire_type_of a == wire_type_of b) refl
  where
    by : (t : Bool) → (wire_type_of a == wire_type_of b) ≡ t → IsLostValue old new a b d
    by true e =
        let wires = number_is (wire_type_of a) (wire_type_of b) e in
        let u = unlike_same_wire old new a b unclosed keeps wires looked in
        let v = edge_value old a unclosed in
        subst (IsLostValue old new a b) (sym (same wires)) record {
          value = v;
          unlike = u;
          other = λ c k. edge_other a;
          in_entry = λ p q. entry_of_unlike old new a b (edge a) wires u;
          in_packed = λ packs. element_of_unlike old new a b (edge a) v packs wires u;
        }
    by false e =
        let r = sample_apart old new a b unclosed e in
        subst (IsLostValue old new a b) (sym (other e)) record {
          value = sample_value old a unclosed;
          unlike = open_unlike old new a b (sample a) unclosed keeps looked (λ w. absurd (clash (sym e ∙ (ap (λ (x : ℕ). x == wire_type_of b) w ∙ self_equal (wire_type_of b))))) (λ w. refl);
          other = λ c k. sample_other a;
          in_entry = r.in_entry;
          in_packed = r.in_packed;
        }
      where
        clash : false ≡ true → ⊥
        clash e = cc

-- a number of a closed enum that the new kind does not hold
pub number_lost : (old new : Types) (i : EnumId) (b : Kind) (z : ℤ) → FitsSigned w32 z → declares old i.0 z ≡ true → holds_number new b z ≡ false → IsLostValue old new (kind.ClosedEnum i) b (scalar (enum z))
number_lost old new i b z fits there lost =
    let v = number_value old i z fits there in
    let u = unlike_number old new i b z fits lost in
    record {
      value = v;
      unlike = u;
      other = λ c k. absurd (cc);
      in_entry = λ p q. absurd (cc);
      in_packed = λ packs. by_wires v u packs (equal_or_not (wire_type_of (kind.ClosedEnum i)) (wire_type_of b));
    }
  where
    by_wires : IsValue old (kind.ClosedEnum i) (scalar (enum z)) → IsUnlike old new (kind.ClosedEnum i) b (scalar (enum z)) → is_packable (kind.ClosedEnum i) ≡ true
        → (wire_type_of (kind.ClosedEnum i) ≡ wire_type_of b) ⊎ (wire_type_of (kind.ClosedEnum i) ≢ wire_type_of b) → IsUnlikeElement old new (kind.ClosedEnum i) b (scalar (enum z))
    by_wires v u packs (inl wires) = element_of_unlike old new (kind.ClosedEnum i) b (scalar (enum z)) v packs wires u
    by_wires v u packs (inr other) = closed_element old new i b z fits (λ e. other (sym e))

-- a value whose number the new closed enum does not declare
pub undeclared_lost : (old new : Types) (a : Kind) (i : EnumId) (x : Scalar) (z : ℤ) → IsValue old a (scalar x) → meaning x ≡ integer z → declares new i.0 z ≡ false → (keeps_others new a (kind.ClosedEnum i) ≡ false → is_default x ≡ false)
    → IsLostValue old new a (kind.ClosedEnum i) (scalar x)
undeclared_lost old new a i x z v means none other =
    let n = never_undeclared old new a i x z means none in
    record { value = v; unlike = never n; other = λ c k. other k; in_entry = λ p q. absurd (cc); in_packed = λ packs. never_element n }

-- a number of 32 bits
number_default : (z : ℤ) → z ≢ pos 0 → is_default (int32 z) ≡ false
number_default (pos n) d = not_equal n 0 (λ q. d (ap pos q))
number_default (negsuc n) d = refl

pub int32_lost : (old new : Types) (i : EnumId) (z : ℤ) → FitsSigned w32 z → declares new i.0 z ≡ false → (declares_others new i.0 ≡ false → z ≢ pos 0) → IsLostValue old new kind.Int32 (kind.ClosedEnum i) (scalar (int32 z))
int32_lost old new i z fits none other =
    undeclared_lost old new kind.Int32 i (int32 z) z record { value = fits; declared = refl; small = omega arith; bare = tt } refl none (λ k. number_default z (other k))

pub enum_lost : (old new : Types) (e i : EnumId) (z : ℤ) → FitsSigned w32 z → declares new i.0 z ≡ false → (declares_others new i.0 ≡ false → z ≢ pos 0) → IsLostValue old new (kind.Enum e) (kind.ClosedEnum i) (scalar (enum z))
enum_lost old new e i z fits none other =
    undeclared_lost old new (kind.Enum e) i (enum z) z record { value = fits; declared = refl; small = omega arith; bare = tt } refl none (λ k. enum_default z (other k))
  where
    enum_default : (z : ℤ) → z ≢ pos 0 → is_default (enum z) ≡ false
    enum_default (pos n) d = not_equal n 0 (λ q. d (ap pos q))
    enum_default (negsuc n) d = refl

-- true, where the new enum does not declare 1, and else false
pub bool_lost : (old new : Types) (i : EnumId) → keeps_kind old new kind.Bool (kind.ClosedEnum i) ≡ false → (t : Bool) → t ≡ not (declares new i.0 (pos 1)) → IsLostValue old new kind.Bool (kind.ClosedEnum i) (scalar (boolean t))
bool_lost old new i keeps t is = subst (λ (b : Bool). IsLostValue old new kind.Bool (kind.ClosedEnum i) (scalar (boolean b))) (sym is) (by (declares new i.0 (pos 1)) refl)
  where
    clash : true ≡ false → ⊥
    clash e = cc

    zero_lost : (c d : Bool) → d ≡ true → (c && d) ≡ false → c ≡ false
    zero_lost true d e k = absurd (cc)
    zero_lost false d e k = refl

    by : (d : Bool) → declares new i.0 (pos 1) ≡ d → IsLostValue old new kind.Bool (kind.ClosedEnum i) (scalar (boolean (not d)))
    by true e =
        undeclared_lost old new kind.Bool i (boolean false) (pos 0) record { value = tt; declared = refl; small = omega arith; bare = tt } refl
        (zero_lost (declares new i.0 (pos 0)) (declares new i.0 (pos 1)) e keeps) (λ k. absurd (clash (sym e ∙ k)))
    by false e = undeclared_lost old new kind.Bool i (boolean true) (pos 1) record { value = tt; declared = refl; small = omega arith; bare = tt } refl e (λ k. refl)

-- the value that is taken where no number is looked for
pub open_is_lost : {E : Type 0} (old new : Types) (a b : Kind) (r : Result Value E) → closed_enum a ≡ None → keeps_kind old new a b ≡ false → is_searched a b ≡ false
    → IfOk r (λ v. wire_type_of a ≡ wire_type_of b → value_view v ≡ edge a) → IfOk r (λ v. (wire_type_of a == wire_type_of b) ≡ false → value_view v ≡ sample a) → IfOk r (λ v. IsLostValue old new a b (value_view v))
open_is_lost old new a b (Ok v) unclosed keeps looked same other = open_lost old new a b (value_view v) unclosed keeps looked same other
open_is_lost old new a b (Err e) unclosed keeps looked same other = tt

-- ENUMS

-- an enum declares the number of each of its values
listed : (vs : List (List ℕ × ℤ)) (i : ℕ) (v : List ℕ × ℤ) → slice_get vs i ≡ Some v → list_any (λ w. int_eq w.1 v.1) vs ≡ true
listed [] i v e = absurd (cc)
listed (w ∷ ws) zero v e =
    let same : w ≡ v = cc in
    ap (λ (b : Bool). b || list_any (λ u. int_eq u.1 v.1) ws) ((Decides-int_eq w.1 v.1).1 (ap (λ (u : List ℕ × ℤ). u.1) same))
listed (w ∷ ws) (suc i) v e = ap (λ (b : Bool). int_eq w.1 v.1 || b) (listed ws i v e) ∙ or_true (int_eq w.1 v.1)
  where
    or_true : (b : Bool) → (b || true) ≡ true
    or_true true = refl
    or_true false = refl

pub listed_declared : (pool : Types) (e : ℕ) (vs : List (List ℕ × ℤ)) (i : ℕ) (v : List ℕ × ℤ) → vs ≡ enum_values pool e → slice_get vs i ≡ Some v → declares pool e v.1 ≡ true
listed_declared pool e vs i v same at = subst (λ (ws : List (List ℕ × ℤ)). list_any (λ w. int_eq w.1 v.1) ws ≡ true) same (listed vs i v at)
