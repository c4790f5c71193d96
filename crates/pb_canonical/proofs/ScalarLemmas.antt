-- The payloads that values of a kind are written as, and their order as keys.
use Rattle.std.proofs.Common.{◌≡◌, ℕ, zero, suc, ◌%◌, ◌^◌, ◌<◌, ◌≤◌, List, [], ◌∷◌, length, refl, ap, sym, subst, ◌∙◌, get_or, arith, inl, inr, nat_cmp, Ordering, Less, Equal, Greater}
use Rattle.std.specs.Prelude.{ℤ, pos, negsuc, Bool, true, false, not, ◌==◌, FitsSigned, ◌<ℤ◌, cond, drop, slice_index, ◌≢◌, IsTrue, IsUtf8, Some}
use Rattle.std.specs.Ordering.{int_cmp, bool_cmp, match_ordering}
use Rattle.std.specs.Int.{cast_signed, cast_unsigned, w32, w64}
use Rattle.std.specs.List.{AllByRecursion}
use Rattle.std.proofs.lemmas.Int.{ints, to_z-of_z}
use Rattle.std.proofs.lemmas.Bool.Decides.{nat_tests}
use Rattle.pb_wire.specs.Zigzag.{zigzag, unzigzag}
use Rattle.pb_wire.specs.Record.{Payload, varint, fixed64, len, fixed32, wire_type}
use Rattle.pb_wire.specs.Ranges.{IsByte, IsInRange}
use Rattle.pb_schema.specs.declared.types.Kind.{Kind}
use Rattle.pb_schema.specs.declared.types.Kind.TheVariants as kind
use Rattle.pb_schema.specs.Types.{Types}
use Rattle.pb_schema.specs.Scalar.{Scalar, int32, int64, uint32, uint64, boolean, float, double, enum, text, bytes, bytes_cmp, key_cmp, is_default}
use Rattle.pb_schema.specs.Kinds.{wire_type_of, is_key_kind, written, IsOfKind}
use Rattle.pb_schema.specs.Closed.{declares, is_declared, is_undeclared}
use Rattle.pb_value.proofs.WrittenLemmas.{wire_type-written}
use Rattle.pb_value.proofs.Numbers.{number_is}
use Rattle.pb_value.proofs.CanonLemmas.{IsInRange-written}
use Rattle.pb_canonical.specs.Parts.{is_zero, IsPlain, IsWritten, AreBelow, NoneBelow, StringBelow, IsSmall, NumberBelow, EightBelow, FourBelow, NumberFits, EightFits, FourFits, BytesFit}

-- NUMBERS

low : ℕ → ℤ
low n = cast_signed w32 (n % 2 ^ 32)

low_fits : (n : ℕ) → FitsSigned w32 (cast_signed w32 (n % 2 ^ 32))
low_fits n = grind (arith, ints)

low_back : (n : ℕ) → n < 2 ^ 64 → IsSmall n → cast_unsigned w64 (cast_signed w32 (n % 2 ^ 32)) ≡ n
low_back n r (inl h) = grind (arith, ints)
low_back n r (inr h) = grind (arith, ints)

zigzag_back : (n : ℕ) → zigzag (unzigzag n) ≡ n
zigzag_back n = by_test (n % 2 == 0) refl
  where
    by_test : (b : Bool) → (n % 2 == 0) ≡ b → zigzag (unzigzag n) ≡ n
    by_test true e = rw e (grind (arith, nat_tests, e))
    by_test false e = rw e (grind (arith, nat_tests, e))

unzigzag_fits64 : (n : ℕ) → n < 2 ^ 64 → FitsSigned w64 (unzigzag n)
unzigzag_fits64 n r = by_test (n % 2 == 0) refl
  where
    by_test : (b : Bool) → (n % 2 == 0) ≡ b → FitsSigned w64 (unzigzag n)
    by_test true e = rw e (grind (arith, ints))
    by_test false e = rw e (grind (arith, ints))

unzigzag_fits32 : (n : ℕ) → n < 2 ^ 32 → FitsSigned w32 (unzigzag n)
unzigzag_fits32 n r = by_test (n % 2 == 0) refl
  where
    by_test : (b : Bool) → (n % 2 == 0) ≡ b → FitsSigned w32 (unzigzag n)
    by_test true e = rw e (grind (arith, ints))
    by_test false e = rw e (grind (arith, ints))

signed64_fits : (n : ℕ) → n < 2 ^ 64 → FitsSigned w64 (cast_signed w64 n)
signed64_fits n r = grind (arith, ints)

signed64_back : (n : ℕ) → n < 2 ^ 64 → cast_unsigned w64 (cast_signed w64 n) ≡ n
signed64_back n r = grind (arith, ints)

signed32_fits : (n : ℕ) → n < 2 ^ 32 → FitsSigned w32 (cast_signed w32 n)
signed32_fits n r = grind (arith, ints)

signed32_back : (n : ℕ) → n < 2 ^ 32 → cast_unsigned w32 (cast_signed w32 n) ≡ n
signed32_back n r = grind (arith, ints)

bit_back : (n : ℕ) → n ≤ 1 → cond (not (n == 0)) 1 0 ≡ n
bit_back zero h = refl
bit_back (suc zero) h = refl
bit_back (suc (suc n)) h = absurd (omega (arith, h))

not_false : (b : Bool) → not b ≡ false → b ≡ true
not_false true e = refl
not_false false e = absurd (cc)

pub number_written : (pool : Types) (k : Kind) (n : ℕ) → n < 2 ^ 64 → NumberFits pool k n → IsWritten pool k (varint n)
number_written pool kind.Int64 n r h = record { value = int64 (cast_signed w64 n); within = signed64_fits n r; written = ap varint (signed64_back n r); declared = refl }
number_written pool kind.Uint64 n r h = record { value = uint64 n; within = r; written = refl; declared = refl }
number_written pool kind.Sint64 n r h = record { value = int64 (unzigzag n); within = unzigzag_fits64 n r; written = ap varint (zigzag_back n); declared = refl }
number_written pool kind.Uint32 n r h = record { value = uint32 n; within = h; written = refl; declared = refl }
number_written pool kind.Sint32 n r h = record { value = int32 (unzigzag n); within = unzigzag_fits32 n h; written = ap varint (zigzag_back n); declared = refl }
number_written pool kind.Int32 n r h = record { value = int32 (cast_signed w32 (n % 2 ^ 32)); within = low_fits n; written = ap varint (low_back n r h); declared = refl }
number_written pool (kind.Enum e) n r h = record { value = enum (cast_signed w32 (n % 2 ^ 32)); within = low_fits n; written = ap varint (low_back n r h); declared = refl }
number_written pool (kind.ClosedEnum e) n r h =
    record { value = enum (cast_signed w32 (n % 2 ^ 32)); within = low_fits n; written = ap varint (low_back n r h.0); declared = not_false _ h.1 }
number_written pool kind.Bool n r h = record { value = boolean (not (n == 0)); within = tt; written = ap varint (bit_back n h); declared = refl }
number_written pool k n r h = absurd h

pub eight_written : (pool : Types) (k : Kind) (n : ℕ) → n < 2 ^ 64 → EightFits k → IsWritten pool k (fixed64 n)
eight_written pool kind.Fixed64 n r h = record { value = uint64 n; within = r; written = refl; declared = refl }
eight_written pool kind.Sfixed64 n r h = record { value = int64 (cast_signed w64 n); within = signed64_fits n r; written = ap fixed64 (signed64_back n r); declared = refl }
eight_written pool kind.Double n r h = record { value = double n; within = r; written = refl; declared = refl }
eight_written pool k n r h = absurd h

pub four_written : (pool : Types) (k : Kind) (n : ℕ) → n < 2 ^ 32 → FourFits k → IsWritten pool k (fixed32 n)
four_written pool kind.Fixed32 n r h = record { value = uint32 n; within = r; written = refl; declared = refl }
four_written pool kind.Sfixed32 n r h = record { value = int32 (cast_signed w32 n); within = signed32_fits n r; written = ap fixed32 (signed32_back n r); declared = refl }
four_written pool kind.Float n r h = record { value = float n; within = r; written = refl; declared = refl }
four_written pool k n r h = absurd h

pub bytes_written : (pool : Types) (k : Kind) (s : List ℕ) → AllByRecursion IsByte s → BytesFit k s → IsWritten pool k (len s)
bytes_written pool kind.Text s r h = record { value = text s; within = h; written = refl; declared = refl }
bytes_written pool kind.Bytes s r h = record { value = bytes s; within = r; written = refl; declared = refl }
bytes_written pool k s r h = absurd h

-- THE SAME THE OTHER WAY

kind_type : (k : Kind) (x : Scalar) (p : Payload) → IsOfKind k x → written k x ≡ p → wire_type_of k ≡ wire_type p
kind_type k x p f e = sym (wire_type-written k x f) ∙ ap wire_type e

small_back : (z : ℤ) → FitsSigned w32 z → IsSmall (cast_unsigned w64 z)
small_back (pos n) f = inl (grind (arith, ints))
small_back (negsuc n) f = inr (grind (arith, ints))

wide_back : (z : ℤ) → FitsSigned w32 z → cast_signed w32 (cast_unsigned w64 z % 2 ^ 32) ≡ z
wide_back (pos n) f = grind (arith, ints)
wide_back (negsuc n) f = grind (arith, ints)

zigzag_fits : (z : ℤ) → FitsSigned w32 z → zigzag z < 2 ^ 32
zigzag_fits (pos n) f = grind (arith, ints)
zigzag_fits (negsuc n) f = grind (arith, ints)

bit_below : (b : Bool) → cond b 1 0 ≤ 1
bit_below true = omega arith
bit_below false = omega arith

fits_number : (pool : Types) (k : Kind) (n : ℕ) (x : Scalar) → IsOfKind k x → written k x ≡ varint n → is_declared pool k x ≡ true → wire_type_of k ≡ 0 → NumberFits pool k n
fits_number pool kind.Int64 n x f e d w = tt
fits_number pool kind.Uint64 n x f e d w = tt
fits_number pool kind.Sint64 n x f e d w = tt
fits_number pool kind.Uint32 n (uint32 m) f e d w = let same : m ≡ n = cc in subst (λ (i : ℕ). i < 2 ^ 32) same f
fits_number pool kind.Sint32 n (int32 z) f e d w = let same : zigzag z ≡ n = cc in subst (λ (i : ℕ). i < 2 ^ 32) same (zigzag_fits z f)
fits_number pool kind.Int32 n (int32 z) f e d w = let same : cast_unsigned w64 z ≡ n = cc in subst IsSmall same (small_back z f)
fits_number pool (kind.Enum i) n (enum z) f e d w = let same : cast_unsigned w64 z ≡ n = cc in subst IsSmall same (small_back z f)
fits_number pool (kind.ClosedEnum i) n (enum z) f e d w =
    let same : cast_unsigned w64 z ≡ n = cc in
    let there : not (declares pool i.0 (cast_signed w32 (cast_unsigned w64 z % 2 ^ 32))) ≡ false = ap (λ (y : ℤ). not (declares pool i.0 y)) (wide_back z f) ∙ ap not d in
    (subst IsSmall same (small_back z f), subst (λ (j : ℕ). is_undeclared pool (Some i.0) (varint j) ≡ false) same there)
fits_number pool kind.Bool n (boolean b) f e d w = let same : cond b 1 0 ≡ n = cc in subst (λ (i : ℕ). i ≤ 1) same (bit_below b)
fits_number pool kind.Uint32 n x f e d w = absurd f
fits_number pool kind.Sint32 n x f e d w = absurd f
fits_number pool kind.Int32 n x f e d w = absurd f
fits_number pool (kind.Enum i) n x f e d w = absurd f
fits_number pool (kind.ClosedEnum i) n x f e d w = absurd f
fits_number pool kind.Bool n x f e d w = absurd f
fits_number pool k n x f e d w = absurd (omega (arith, w))

pub number_fits : (pool : Types) (k : Kind) (n : ℕ) → IsWritten pool k (varint n) → NumberFits pool k n
number_fits pool k n x = fits_number pool k n x.value x.within x.written x.declared (kind_type k x.value (varint n) x.within x.written)

fits_eight : (k : Kind) → wire_type_of k ≡ 1 → EightFits k
fits_eight kind.Fixed64 w = tt
fits_eight kind.Sfixed64 w = tt
fits_eight kind.Double w = tt
fits_eight k w = absurd (omega (arith, w))

pub eight_fits : (pool : Types) (k : Kind) (n : ℕ) → IsWritten pool k (fixed64 n) → EightFits k
eight_fits pool k n x = fits_eight k (kind_type k x.value (fixed64 n) x.within x.written)

fits_four : (k : Kind) → wire_type_of k ≡ 5 → FourFits k
fits_four kind.Fixed32 w = tt
fits_four kind.Sfixed32 w = tt
fits_four kind.Float w = tt
fits_four k w = absurd (omega (arith, w))

pub four_fits : (pool : Types) (k : Kind) (n : ℕ) → IsWritten pool k (fixed32 n) → FourFits k
four_fits pool k n x = fits_four k (kind_type k x.value (fixed32 n) x.within x.written)

fits_bytes : (k : Kind) (s : List ℕ) (x : Scalar) → IsOfKind k x → written k x ≡ len s → wire_type_of k ≡ 2 → BytesFit k s
fits_bytes kind.Text s (text t) f e w = let same : t ≡ s = cc in subst IsUtf8 same f
fits_bytes kind.Text s x f e w = absurd f
fits_bytes kind.Bytes s x f e w = tt
fits_bytes (kind.Message m) s x f e w = absurd f
fits_bytes k s x f e w = absurd (omega (arith, w))

pub bytes_fit : (pool : Types) (k : Kind) (s : List ℕ) → IsWritten pool k (len s) → BytesFit k s
bytes_fit pool k s x = fits_bytes k s x.value x.within x.written (kind_type k x.value (len s) x.within x.written)

no_group : (k : Kind) (x : Scalar) → IsOfKind k x → wire_type_of k ≡ 3 → ⊥
no_group (kind.Group m) x f w = f
no_group k x f w = omega (arith, w)

-- what is known of a payload that a scalar is written as
pub written_plain : (pool : Types) (k : Kind) (p : Payload) → IsWritten pool k p → IsPlain (wire_type_of k) p
written_plain pool k p x =
    let same = kind_type k x.value p x.within x.written in
    record { type = sym same; plain = λ q. no_group k x.value x.within (same ∙ q); in_range = subst IsInRange x.written (IsInRange-written k x.value x.within) }

-- DEFAULTS

suc_zero : (n : ℕ) → (suc n == 0) ≡ false
suc_zero n = grind (arith, nat_tests)

pub given_value : (k : Kind) (x : Scalar) → IsOfKind k x → is_zero (written k x) ≡ false → is_default x ≡ false
given_value kind.Int32 (int32 (pos zero)) h e = absurd (cc)
given_value kind.Int32 (int32 (pos (suc n))) h e = suc_zero n
given_value kind.Int32 (int32 (negsuc n)) h e = refl
given_value kind.Sint32 (int32 (pos zero)) h e = absurd (cc)
given_value kind.Sint32 (int32 (pos (suc n))) h e = suc_zero n
given_value kind.Sint32 (int32 (negsuc n)) h e = refl
given_value kind.Sfixed32 (int32 (pos zero)) h e = absurd (cc)
given_value kind.Sfixed32 (int32 (pos (suc n))) h e = suc_zero n
given_value kind.Sfixed32 (int32 (negsuc n)) h e = refl
given_value kind.Int64 (int64 (pos zero)) h e = absurd (cc)
given_value kind.Int64 (int64 (pos (suc n))) h e = suc_zero n
given_value kind.Int64 (int64 (negsuc n)) h e = refl
given_value kind.Sint64 (int64 (pos zero)) h e = absurd (cc)
given_value kind.Sint64 (int64 (pos (suc n))) h e = suc_zero n
given_value kind.Sint64 (int64 (negsuc n)) h e = refl
given_value kind.Sfixed64 (int64 (pos zero)) h e = absurd (cc)
given_value kind.Sfixed64 (int64 (pos (suc n))) h e = suc_zero n
given_value kind.Sfixed64 (int64 (negsuc n)) h e = refl
given_value (kind.Enum i) (enum (pos zero)) h e = absurd (cc)
given_value (kind.Enum i) (enum (pos (suc n))) h e = suc_zero n
given_value (kind.Enum i) (enum (negsuc n)) h e = refl
given_value (kind.ClosedEnum i) (enum (pos zero)) h e = absurd (cc)
given_value (kind.ClosedEnum i) (enum (pos (suc n))) h e = suc_zero n
given_value (kind.ClosedEnum i) (enum (negsuc n)) h e = refl
given_value kind.Uint32 (uint32 n) h e = e
given_value kind.Fixed32 (uint32 n) h e = e
given_value kind.Uint64 (uint64 n) h e = e
given_value kind.Fixed64 (uint64 n) h e = e
given_value kind.Double (double n) h e = e
given_value kind.Float (float n) h e = e
given_value kind.Bool (boolean true) h e = refl
given_value kind.Bool (boolean false) h e = absurd (cc)
given_value kind.Text (text []) h e = absurd (cc)
given_value kind.Text (text (x ∷ s)) h e = refl
given_value kind.Bytes (bytes []) h e = absurd (cc)
given_value kind.Bytes (bytes (x ∷ s)) h e = refl
given_value k x h e = absurd h

wide : (z : ℤ) → FitsSigned w32 z → FitsSigned w64 z
wide z f = grind (arith, ints)

unzigzag-zigzag : (z : ℤ) → unzigzag (zigzag z) ≡ z
unzigzag-zigzag (pos n) = grind (arith, nat_tests)
unzigzag-zigzag (negsuc n) = grind (arith, nat_tests)

cast_some : (z : ℤ) → FitsSigned w64 z → z ≢ pos 0 → (cast_unsigned w64 z == 0) ≡ false
cast_some z f d = by_test (cast_unsigned w64 z == 0) refl
  where
    by_test : (b : Bool) → (cast_unsigned w64 z == 0) ≡ b → (cast_unsigned w64 z == 0) ≡ false
    by_test false e = e
    by_test true e = absurd (d (sym (to_z-of_z w64 z f) ∙ ap (cast_signed w64) (number_is (cast_unsigned w64 z) 0 e)))

cast_some32 : (z : ℤ) → FitsSigned w32 z → z ≢ pos 0 → (cast_unsigned w32 z == 0) ≡ false
cast_some32 z f d = by_test (cast_unsigned w32 z == 0) refl
  where
    by_test : (b : Bool) → (cast_unsigned w32 z == 0) ≡ b → (cast_unsigned w32 z == 0) ≡ false
    by_test false e = e
    by_test true e = absurd (d (sym (to_z-of_z w32 z f) ∙ ap (cast_signed w32) (number_is (cast_unsigned w32 z) 0 e)))

zigzag_some : (z : ℤ) → z ≢ pos 0 → (zigzag z == 0) ≡ false
zigzag_some z d = by_test (zigzag z == 0) refl
  where
    by_test : (b : Bool) → (zigzag z == 0) ≡ b → (zigzag z == 0) ≡ false
    by_test false e = e
    by_test true e = absurd (d (sym (unzigzag-zigzag z) ∙ ap unzigzag (number_is (zigzag z) 0 e)))

pub default_off : true ≡ false → ⊥
default_off e = absurd (cc)

some_int32 : (z : ℤ) → is_default (int32 z) ≡ false → z ≢ pos 0
some_int32 z e q = default_off (subst (λ (y : ℤ). is_default (int32 y) ≡ false) q e)

some_int64 : (z : ℤ) → is_default (int64 z) ≡ false → z ≢ pos 0
some_int64 z e q = default_off (subst (λ (y : ℤ). is_default (int64 y) ≡ false) q e)

some_enum : (z : ℤ) → is_default (enum z) ≡ false → z ≢ pos 0
some_enum z e q = default_off (subst (λ (y : ℤ). is_default (enum y) ≡ false) q e)

-- what is no default is not written as one
pub given_written : (k : Kind) (x : Scalar) → IsOfKind k x → is_default x ≡ false → is_zero (written k x) ≡ false
given_written kind.Int32 (int32 z) h e = cast_some z (wide z h) (some_int32 z e)
given_written kind.Sint32 (int32 z) h e = zigzag_some z (some_int32 z e)
given_written kind.Sfixed32 (int32 z) h e = cast_some32 z h (some_int32 z e)
given_written kind.Int64 (int64 z) h e = cast_some z h (some_int64 z e)
given_written kind.Sint64 (int64 z) h e = zigzag_some z (some_int64 z e)
given_written kind.Sfixed64 (int64 z) h e = cast_some z h (some_int64 z e)
given_written (kind.Enum i) (enum z) h e = cast_some z (wide z h) (some_enum z e)
given_written (kind.ClosedEnum i) (enum z) h e = cast_some z (wide z h) (some_enum z e)
given_written kind.Uint32 (uint32 n) h e = e
given_written kind.Fixed32 (uint32 n) h e = e
given_written kind.Uint64 (uint64 n) h e = e
given_written kind.Fixed64 (uint64 n) h e = e
given_written kind.Double (double n) h e = e
given_written kind.Float (float n) h e = e
given_written kind.Bool (boolean true) h e = refl
given_written kind.Bool (boolean false) h e = absurd (cc)
given_written kind.Text (text []) h e = absurd (cc)
given_written kind.Text (text (x ∷ s)) h e = refl
given_written kind.Bytes (bytes []) h e = absurd (cc)
given_written kind.Bytes (bytes (x ∷ s)) h e = refl
given_written k x h e = absurd h

-- KEYS

int_less : (x y : ℤ) → x <ℤ y → int_cmp x y ≡ Less
int_less x y h = grind (arith, ints)

nat_less : (x y : ℕ) → x < y → nat_cmp x y ≡ Less
nat_less x y h = grind (arith, nat_tests)

below64 : (x y : ℤ) (a b : ℕ) → FitsSigned w64 x → FitsSigned w64 y → cast_unsigned w64 x ≡ a → cast_unsigned w64 y ≡ b → cast_signed w64 a <ℤ cast_signed w64 b → int_cmp x y ≡ Less
below64 x y a b f g p q h = int_less x y (rw (to_z-of_z w64 x f, to_z-of_z w64 y g) at (rw (sym p, sym q) at h))

below32 : (x y : ℤ) (a b : ℕ) → FitsSigned w32 x → FitsSigned w32 y → cast_unsigned w32 x ≡ a → cast_unsigned w32 y ≡ b → cast_signed w32 a <ℤ cast_signed w32 b → int_cmp x y ≡ Less
below32 x y a b f g p q h = int_less x y (rw (to_z-of_z w32 x f, to_z-of_z w32 y g) at (rw (sym p, sym q) at h))

turned_below : (x y : ℤ) (a b : ℕ) → zigzag x ≡ a → zigzag y ≡ b → unzigzag a <ℤ unzigzag b → int_cmp x y ≡ Less
turned_below x y a b p q h = int_less x y (rw (unzigzag-zigzag x, unzigzag-zigzag y) at (rw (sym p, sym q) at h))

bool_less : (x y : Bool) (a b : ℕ) → cond x 1 0 ≡ a → cond y 1 0 ≡ b → a < b → bool_cmp x y ≡ Less
bool_less false true a b p q h = refl
bool_less false false a b p q h = absurd (omega (arith, p, q, h))
bool_less true true a b p q h = absurd (omega (arith, p, q, h))
bool_less true false a b p q h = absurd (omega (arith, p, q, h))

pub number_below : (k : Kind) (a b : ℕ) → NumberBelow k a b → AreBelow k (varint a) (varint b)
number_below kind.Int32 a b h (int32 x) (int32 y) f g e i = below64 x y a b (wide x f) (wide y g) (cc) (cc) h
number_below kind.Int64 a b h (int64 x) (int64 y) f g e i = below64 x y a b f g (cc) (cc) h
number_below kind.Sint32 a b h (int32 x) (int32 y) f g e i = turned_below x y a b (cc) (cc) h
number_below kind.Sint64 a b h (int64 x) (int64 y) f g e i = turned_below x y a b (cc) (cc) h
number_below kind.Uint32 a b h (uint32 x) (uint32 y) f g e i = let p : x ≡ a = cc in let q : y ≡ b = cc in nat_less x y (rw (p, q) h)
number_below kind.Uint64 a b h (uint64 x) (uint64 y) f g e i = let p : x ≡ a = cc in let q : y ≡ b = cc in nat_less x y (rw (p, q) h)
number_below kind.Bool a b h (boolean x) (boolean y) f g e i = bool_less x y a b (cc) (cc) h
number_below kind.Int32 a b h (int32 x) y f g e i = absurd g
number_below kind.Int32 a b h x y f g e i = absurd f
number_below kind.Int64 a b h (int64 x) y f g e i = absurd g
number_below kind.Int64 a b h x y f g e i = absurd f
number_below kind.Sint32 a b h (int32 x) y f g e i = absurd g
number_below kind.Sint32 a b h x y f g e i = absurd f
number_below kind.Sint64 a b h (int64 x) y f g e i = absurd g
number_below kind.Sint64 a b h x y f g e i = absurd f
number_below kind.Uint32 a b h (uint32 x) y f g e i = absurd g
number_below kind.Uint32 a b h x y f g e i = absurd f
number_below kind.Uint64 a b h (uint64 x) y f g e i = absurd g
number_below kind.Uint64 a b h x y f g e i = absurd f
number_below kind.Bool a b h (boolean x) y f g e i = absurd g
number_below kind.Bool a b h x y f g e i = absurd f
number_below k a b h x y f g e i = absurd h

pub eight_below : (k : Kind) (a b : ℕ) → EightBelow k a b → AreBelow k (fixed64 a) (fixed64 b)
eight_below kind.Sfixed64 a b h (int64 x) (int64 y) f g e i = below64 x y a b f g (cc) (cc) h
eight_below kind.Fixed64 a b h (uint64 x) (uint64 y) f g e i = let p : x ≡ a = cc in let q : y ≡ b = cc in nat_less x y (rw (p, q) h)
eight_below kind.Sfixed64 a b h (int64 x) y f g e i = absurd g
eight_below kind.Sfixed64 a b h x y f g e i = absurd f
eight_below kind.Fixed64 a b h (uint64 x) y f g e i = absurd g
eight_below kind.Fixed64 a b h x y f g e i = absurd f
eight_below k a b h x y f g e i = absurd h

pub four_below : (k : Kind) (a b : ℕ) → FourBelow k a b → AreBelow k (fixed32 a) (fixed32 b)
four_below kind.Sfixed32 a b h (int32 x) (int32 y) f g e i = below32 x y a b f g (cc) (cc) h
four_below kind.Fixed32 a b h (uint32 x) (uint32 y) f g e i = let p : x ≡ a = cc in let q : y ≡ b = cc in nat_less x y (rw (p, q) h)
four_below kind.Sfixed32 a b h (int32 x) y f g e i = absurd g
four_below kind.Sfixed32 a b h x y f g e i = absurd f
four_below kind.Fixed32 a b h (uint32 x) y f g e i = absurd g
four_below kind.Fixed32 a b h x y f g e i = absurd f
four_below k a b h x y f g e i = absurd h

pub string_below : (s t : List ℕ) → bytes_cmp s t ≡ Less → AreBelow kind.Text (len s) (len t)
string_below s t h (text x) (text y) f g e i = let p : x ≡ s = cc in let q : y ≡ t = cc in rw (p, q) h
string_below s t h (text x) y f g e i = absurd g
string_below s t h x y f g e i = absurd f

-- KEYS THAT DO NOT RISE

int_less_back : (x y : ℤ) → int_cmp x y ≡ Less → x <ℤ y
int_less_back x y h = grind (arith, ints)

nat_less_back : (x y : ℕ) → nat_cmp x y ≡ Less → x < y
nat_less_back x y h = grind (arith, nat_tests)

back64 : (x y : ℤ) (a b : ℕ) → FitsSigned w64 x → FitsSigned w64 y → cast_unsigned w64 x ≡ a → cast_unsigned w64 y ≡ b → int_cmp x y ≡ Less → cast_signed w64 a <ℤ cast_signed w64 b
back64 x y a b f g p q h = rw (sym p, sym q) (rw (to_z-of_z w64 x f, to_z-of_z w64 y g) (int_less_back x y h))

back32 : (x y : ℤ) (a b : ℕ) → FitsSigned w32 x → FitsSigned w32 y → cast_unsigned w32 x ≡ a → cast_unsigned w32 y ≡ b → int_cmp x y ≡ Less → cast_signed w32 a <ℤ cast_signed w32 b
back32 x y a b f g p q h = rw (sym p, sym q) (rw (to_z-of_z w32 x f, to_z-of_z w32 y g) (int_less_back x y h))

turned_back : (x y : ℤ) (a b : ℕ) → zigzag x ≡ a → zigzag y ≡ b → int_cmp x y ≡ Less → unzigzag a <ℤ unzigzag b
turned_back x y a b p q h = rw (sym p, sym q) (rw (unzigzag-zigzag x, unzigzag-zigzag y) (int_less_back x y h))

bool_back : (x y : Bool) (a b : ℕ) → cond x 1 0 ≡ a → cond y 1 0 ≡ b → bool_cmp x y ≡ Less → a < b
bool_back false true a b p q h = omega (arith, p, q)
bool_back false false a b p q h = absurd (cc)
bool_back true true a b p q h = absurd (cc)
bool_back true false a b p q h = absurd (cc)

less_number : (k : Kind) (a b : ℕ) (x y : Scalar) → IsTrue (is_key_kind k) → IsOfKind k x → IsOfKind k y → written k x ≡ varint a → written k y ≡ varint b → wire_type_of k ≡ 0 → key_cmp x y ≡ Less → NumberBelow k a b
less_number kind.Int32 a b (int32 x) (int32 y) t f g e i w h = back64 x y a b (wide x f) (wide y g) (cc) (cc) h
less_number kind.Int64 a b (int64 x) (int64 y) t f g e i w h = back64 x y a b f g (cc) (cc) h
less_number kind.Sint32 a b (int32 x) (int32 y) t f g e i w h = turned_back x y a b (cc) (cc) h
less_number kind.Sint64 a b (int64 x) (int64 y) t f g e i w h = turned_back x y a b (cc) (cc) h
less_number kind.Uint32 a b (uint32 x) (uint32 y) t f g e i w h = let p : x ≡ a = cc in let q : y ≡ b = cc in rw (sym p, sym q) (nat_less_back x y h)
less_number kind.Uint64 a b (uint64 x) (uint64 y) t f g e i w h = let p : x ≡ a = cc in let q : y ≡ b = cc in rw (sym p, sym q) (nat_less_back x y h)
less_number kind.Bool a b (boolean x) (boolean y) t f g e i w h = bool_back x y a b (cc) (cc) h
less_number kind.Int32 a b (int32 x) y t f g e i w h = absurd g
less_number kind.Int32 a b x y t f g e i w h = absurd f
less_number kind.Int64 a b (int64 x) y t f g e i w h = absurd g
less_number kind.Int64 a b x y t f g e i w h = absurd f
less_number kind.Sint32 a b (int32 x) y t f g e i w h = absurd g
less_number kind.Sint32 a b x y t f g e i w h = absurd f
less_number kind.Sint64 a b (int64 x) y t f g e i w h = absurd g
less_number kind.Sint64 a b x y t f g e i w h = absurd f
less_number kind.Uint32 a b (uint32 x) y t f g e i w h = absurd g
less_number kind.Uint32 a b x y t f g e i w h = absurd f
less_number kind.Uint64 a b (uint64 x) y t f g e i w h = absurd g
less_number kind.Uint64 a b x y t f g e i w h = absurd f
less_number kind.Bool a b (boolean x) y t f g e i w h = absurd g
less_number kind.Bool a b x y t f g e i w h = absurd f
less_number (kind.Enum j) a b x y t f g e i w h = absurd (cc)
less_number (kind.ClosedEnum j) a b x y t f g e i w h = absurd (cc)
less_number k a b x y t f g e i w h = absurd (omega (arith, w))

pub none_number : (k : Kind) (a b : ℕ) → IsTrue (is_key_kind k) → ¬ NumberBelow k a b → NoneBelow k (varint a) (varint b)
none_number k a b t none = λ x y f g e i h. none (less_number k a b x y t f g e i (kind_type k x (varint a) f e) h)

less_eight : (k : Kind) (a b : ℕ) (x y : Scalar) → IsTrue (is_key_kind k) → IsOfKind k x → IsOfKind k y → written k x ≡ fixed64 a → written k y ≡ fixed64 b → wire_type_of k ≡ 1 → key_cmp x y ≡ Less → EightBelow k a b
less_eight kind.Sfixed64 a b (int64 x) (int64 y) t f g e i w h = back64 x y a b f g (cc) (cc) h
less_eight kind.Fixed64 a b (uint64 x) (uint64 y) t f g e i w h = let p : x ≡ a = cc in let q : y ≡ b = cc in rw (sym p, sym q) (nat_less_back x y h)
less_eight kind.Sfixed64 a b (int64 x) y t f g e i w h = absurd g
less_eight kind.Sfixed64 a b x y t f g e i w h = absurd f
less_eight kind.Fixed64 a b (uint64 x) y t f g e i w h = absurd g
less_eight kind.Fixed64 a b x y t f g e i w h = absurd f
less_eight kind.Double a b x y t f g e i w h = absurd (cc)
less_eight k a b x y t f g e i w h = absurd (omega (arith, w))

pub none_eight : (k : Kind) (a b : ℕ) → IsTrue (is_key_kind k) → ¬ EightBelow k a b → NoneBelow k (fixed64 a) (fixed64 b)
none_eight k a b t none = λ x y f g e i h. none (less_eight k a b x y t f g e i (kind_type k x (fixed64 a) f e) h)

less_four : (k : Kind) (a b : ℕ) (x y : Scalar) → IsTrue (is_key_kind k) → IsOfKind k x → IsOfKind k y → written k x ≡ fixed32 a → written k y ≡ fixed32 b → wire_type_of k ≡ 5 → key_cmp x y ≡ Less → FourBelow k a b
less_four kind.Sfixed32 a b (int32 x) (int32 y) t f g e i w h = back32 x y a b f g (cc) (cc) h
less_four kind.Fixed32 a b (uint32 x) (uint32 y) t f g e i w h = let p : x ≡ a = cc in let q : y ≡ b = cc in rw (sym p, sym q) (nat_less_back x y h)
less_four kind.Sfixed32 a b (int32 x) y t f g e i w h = absurd g
less_four kind.Sfixed32 a b x y t f g e i w h = absurd f
less_four kind.Fixed32 a b (uint32 x) y t f g e i w h = absurd g
less_four kind.Fixed32 a b x y t f g e i w h = absurd f
less_four kind.Float a b x y t f g e i w h = absurd (cc)
less_four k a b x y t f g e i w h = absurd (omega (arith, w))

pub none_four : (k : Kind) (a b : ℕ) → IsTrue (is_key_kind k) → ¬ FourBelow k a b → NoneBelow k (fixed32 a) (fixed32 b)
none_four k a b t none = λ x y f g e i h. none (less_four k a b x y t f g e i (kind_type k x (fixed32 a) f e) h)

less_string : (k : Kind) (s u : List ℕ) (x y : Scalar) → IsTrue (is_key_kind k) → IsOfKind k x → IsOfKind k y → written k x ≡ len s → written k y ≡ len u → wire_type_of k ≡ 2 → key_cmp x y ≡ Less → StringBelow k s u
less_string kind.Text s u (text x) (text y) t f g e i w h = let p : x ≡ s = cc in let q : y ≡ u = cc in rw (sym p, sym q) h
less_string kind.Text s u (text x) y t f g e i w h = absurd g
less_string kind.Text s u x y t f g e i w h = absurd f
less_string kind.Bytes s u x y t f g e i w h = absurd (cc)
less_string (kind.Message m) s u x y t f g e i w h = absurd f
less_string k s u x y t f g e i w h = absurd (omega (arith, w))

pub none_string : (k : Kind) (s u : List ℕ) → IsTrue (is_key_kind k) → ¬ StringBelow k s u → NoneBelow k (len s) (len u)
none_string k s u t none = λ x y f g e i h. none (less_string k s u x y t f g e i (kind_type k x (len s) f e) h)

-- keys of one kind are written alike
pub none_mixed : (k : Kind) (p q : Payload) → wire_type p ≢ wire_type q → NoneBelow k p q
none_mixed k p q differ = λ x y f g e i h. differ (sym (kind_type k x p f e) ∙ kind_type k y q g i)

pub strings_below : (k : Kind) (s u : List ℕ) → StringBelow k s u → AreBelow k (len s) (len u)
strings_below kind.Text s u h = string_below s u h
strings_below k s u h = λ x y f g e i. absurd h

pub bytes_no_less : (xs ys : List ℕ) → 0 < length xs → 0 < length ys → get_or ys 0 0 < get_or xs 0 0 → bytes_cmp xs ys ≢ Less
bytes_no_less [] ys a b e = absurd (omega (arith, a))
bytes_no_less (x ∷ xs) [] a b e = absurd (omega (arith, b))
bytes_no_less (x ∷ xs) (y ∷ ys) a b e = λ h.
    let other : nat_cmp x y ≡ Greater = grind (arith, nat_tests) in
    let is : bytes_cmp (x ∷ xs) (y ∷ ys) ≡ Greater = ap (λ (o : Ordering). match_ordering o Less (bytes_cmp xs ys) Greater) other in
    absurd (cc)

pub bytes_ended : (xs ys : List ℕ) → length ys ≡ 0 → bytes_cmp xs ys ≢ Less
bytes_ended [] [] e = λ h. absurd (cc)
bytes_ended (x ∷ xs) [] e = λ h. absurd (cc)
bytes_ended xs (y ∷ ys) e = absurd (omega (arith, e))

-- two strings of which the first bytes are equal, or not
pub bytes_step : (xs ys : List ℕ) → 0 < length xs → 0 < length ys → slice_index xs 0 ≡ slice_index ys 0 → bytes_cmp (drop 1 xs) (drop 1 ys) ≡ bytes_cmp xs ys
bytes_step [] ys a b e = absurd (omega (arith, a))
bytes_step (x ∷ xs) [] a b e = absurd (omega (arith, b))
bytes_step (x ∷ xs) (y ∷ ys) a b e =
    let same : nat_cmp x y ≡ Equal = grind (arith, nat_tests) in sym (ap (λ (o : Ordering). match_ordering o Less (bytes_cmp xs ys) Greater) same)

pub bytes_less : (xs ys : List ℕ) → 0 < length xs → 0 < length ys → slice_index xs 0 < slice_index ys 0 → bytes_cmp xs ys ≡ Less
bytes_less [] ys a b e = absurd (omega (arith, a))
bytes_less (x ∷ xs) [] a b e = absurd (omega (arith, b))
bytes_less (x ∷ xs) (y ∷ ys) a b e = ap (λ (o : Ordering). match_ordering o Less (bytes_cmp xs ys) Greater) (nat_less x y e)

pub bytes_shorter : (xs ys : List ℕ) → length xs ≡ 0 → 0 < length ys → bytes_cmp xs ys ≡ Less
bytes_shorter [] [] a b = absurd (omega (arith, b))
bytes_shorter [] (y ∷ ys) a b = refl
bytes_shorter (x ∷ xs) ys a b = absurd (omega (arith, a))
