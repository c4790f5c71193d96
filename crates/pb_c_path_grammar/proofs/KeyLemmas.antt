-- What is in brackets: what its bytes are read as, and what they spell.
use Rattle.std.proofs.Common.{◌≡◌, ◌≢◌, ℕ, ℤ, zero, suc, ◌+◌, ◌-◌, ◌*◌, ◌^◌, ◌<◌, ◌≤◌, Bool, true, false, cond, List, [], ◌∷◌, Option, Some, None, inl, inr, refl, sym, ap, ◌∙◌, subst, arith}
use Rattle.std.specs.Prelude.{pos, negsuc, FitsSigned, option_and_then, if◌then◌else◌, codes, ◌==◌}
use mir.Syntax.{Width}
use mir.Val.{hbits}
use Rattle.std.specs.Char.{digit_value}
use Rattle.std.specs.Str.Parse.{AllDigits, digits_value_after}
use Rattle.std.specs.Int.{cast_unsigned, w32, w64}
use Rattle.std.specs.Int.RustNames.{unsigned_abs}
use Rattle.std.proofs.lemmas.Int.{ints}
use Rattle.std.proofs.lemmas.Slice.Eq.{bytes_eq-Decides}
use Rattle.std.specs.Str.{bytes_eq}
use Rattle.pb_schema.specs.Scalar.{Scalar, int32, int64, uint32, uint64, boolean}
use Rattle.pb_schema.specs.declared.types.Kind.{Kind}
use Rattle.pb_schema.specs.declared.types.Kind.TheVariants as kind
use Rattle.pb_c_paths.specs.Brackets.{below, decimal, decimal_from, key_bits, key_kind, minus_bits, minus_option, signed_bits, truth, with_digit}
use Rattle.pb_c_path_grammar.specs.Grammar.{SpellsBool, SpellsInt32, SpellsInt64, SpellsInteger, SpellsKey, SpellsNumber, SpellsUint32, SpellsUint64, minus, unsigned, plain_key, string_of_key}
use Rattle.pb_c_paths.specs.Path.{plain}
use Rattle.pb_c_paths.specs.Reading.{is_string}

record IsDigitAfter (n c v : ℕ) : Type 0 where
  low : 48 ≤ c
  high : c ≤ 57
  value : v ≡ n * 10 + digit_value c
  small : v < 2 ^ 64

digit_read : (n c v : ℕ) → with_digit n c ≡ Some v → IsDigitAfter n c v
digit_read n c v e = record { low = grind arith; high = grind arith; value = grind arith; small = grind arith }

digit_back : (n c : ℕ) → digit_value c < 10 → n * 10 + digit_value c < 2 ^ 64 → with_digit n c ≡ Some (n * 10 + digit_value c)
digit_back n c is small = grind arith

-- ---- decimal numbers

record IsRead (n : ℕ) (s : List ℕ) (v : ℕ) : Type 0 where
  digits : AllDigits 10 s
  value : digits_value_after 10 n s ≡ v
  small : n < 2 ^ 64 → v < 2 ^ 64

from_read : (n : ℕ) (s : List ℕ) (v : ℕ) → decimal_from n s ≡ Some v → IsRead n s v
from_read n [] v e = let same : n ≡ v = cc in record { digits = tt; value = same; small = λ h. omega arith }
from_read n (c ∷ cs) v e = by_digit (with_digit n c) refl (λ m h. from_read m cs v h) e
  where
    by_digit : (o : Option ℕ) → with_digit n c ≡ o → ((m : ℕ) → decimal_from m cs ≡ Some v → IsRead m cs v)
        → option_and_then (λ m. decimal_from m cs) o ≡ Some v → IsRead n (c ∷ cs) v
    by_digit None is next e = absurd (cc)
    by_digit (Some m) is next e =
        let d = digit_read n c m is in let r = next m e in
        record { digits = (grind (arith, d.low, d.high), r.digits); value = ap (λ k. digits_value_after 10 k cs) (sym d.value) ∙ r.value; small = λ h. r.small d.small }

value_grows : (n : ℕ) (s : List ℕ) → n ≤ digits_value_after 10 n s
value_grows n [] = omega arith
value_grows n (c ∷ cs) = omega (arith, value_grows (n * 10 + digit_value c) cs)

from_back : (n : ℕ) (s : List ℕ) → AllDigits 10 s → digits_value_after 10 n s < 2 ^ 64 → decimal_from n s ≡ Some (digits_value_after 10 n s)
from_back n [] all small = refl
from_back n (c ∷ cs) all small =
    let m = n * 10 + digit_value c in
    ap (option_and_then (λ k. decimal_from k cs)) (digit_back n c all.0 (omega (arith, value_grows m cs))) ∙ from_back m cs all.1 small

pub number_read : (s : List ℕ) (n : ℕ) → decimal s ≡ Some n → SpellsNumber s n × (n < 2 ^ 64)
number_read [] n e = absurd (cc)
number_read (c ∷ cs) n e = let r = from_read 0 (c ∷ cs) n e in (((omega arith, r.digits), r.value), r.small (omega arith))

pub number_back : (s : List ℕ) (n : ℕ) → SpellsNumber s n → n < 2 ^ 64 → decimal s ≡ Some n
number_back [] n is small = absurd (omega (arith, is.0.0))
number_back (c ∷ cs) n is small = from_back 0 (c ∷ cs) is.0.1 (omega (arith, is.1)) ∙ ap (λ (k : ℕ). Some k) is.1

-- ---- integers

record IsSigned (limit n : ℕ) (s : List ℕ) : Type 0 where
  z : ℤ
  spelled : SpellsInteger s z
  bound : unsigned_abs z ≤ limit
  not_limit : z ≢ pos limit
  bits : cast_unsigned w64 z ≡ n

minus_is : (m : ℕ) → suc m ≤ 2 ^ 63 → minus_bits (suc m) ≡ 2 ^ 64 - suc m
minus_is m small = grind arith

minus_read : (limit m : ℕ) (s : List ℕ) → SpellsNumber s m → m < limit + 1 → 0 < limit → limit ≤ 2 ^ 63 → IsSigned limit (minus_bits m) (45 ∷ s)
minus_read limit zero s is small some top = record { z = pos 0; spelled = minus is; bound = omega arith; not_limit = λ e. omega (arith, ints); bits = refl }
minus_read limit (suc m) s is small some top =
    let bits : cast_unsigned w64 (negsuc m) ≡ 2 ^ 64 - suc m = refl in
    record { z = negsuc m; spelled = minus is; bound = omega arith; not_limit = λ e. absurd (cc); bits = bits ∙ sym (minus_is m (omega arith)) }

below_is : (limit : ℕ) (o : Option ℕ) (n : ℕ) → below limit o ≡ Some n → (o ≡ Some n) × (n < limit)
below_is limit None n e = absurd (cc)
below_is limit (Some m) n e = (grind arith, grind arith)

below_back : (limit : ℕ) (o : Option ℕ) (n : ℕ) → o ≡ Some n → n < limit → below limit o ≡ Some n
below_back limit o n e small = rw e (grind arith)

signed_read : (limit n : ℕ) (s : List ℕ) → 0 < limit → limit ≤ 2 ^ 63 → signed_bits limit s ≡ Some n → IsSigned limit n s
signed_read limit n [] some top e = let b = below_is limit None n e in absurd (cc)
signed_read limit n (c ∷ cs) some top e = by_sign (c == 45) refl e
  where
    after_minus : (o : Option ℕ) → below (limit + 1) (decimal cs) ≡ o → c ≡ 45 → minus_option o ≡ Some n → IsSigned limit n (c ∷ cs)
    after_minus None is sign e = absurd (cc)
    after_minus (Some m) is sign e =
        let b = below_is (limit + 1) (decimal cs) m is in let spelled = number_read cs m b.0 in
        let same : minus_bits m ≡ n = cc in
        subst (λ k. IsSigned limit k (c ∷ cs)) same (subst (λ d. IsSigned limit (minus_bits m) (d ∷ cs)) (sym sign) (minus_read limit m cs spelled.0 b.1 some top))

    by_sign : (b : Bool) → (c == 45) ≡ b → cond b (minus_option (below (limit + 1) (decimal cs))) (below limit (decimal (c ∷ cs))) ≡ Some n → IsSigned limit n (c ∷ cs)
    by_sign true is e = after_minus (below (limit + 1) (decimal cs)) refl (grind (arith, is)) e
    by_sign false is e =
        let b = below_is limit (decimal (c ∷ cs)) n e in let spelled = number_read (c ∷ cs) n b.0 in
        record { z = pos n; spelled = unsigned spelled.0; bound = omega (arith, b.1); not_limit = λ e. omega (arith, ints, b.1); bits = refl }

digit_is : (c : ℕ) → digit_value c < 10 → (c == 45) ≡ false
digit_is c h = grind arith

-- the number of an integer that is not below zero is not read as one with a minus
signed_back : (limit : ℕ) (s : List ℕ) (z : ℤ) → limit ≤ 2 ^ 63 → SpellsInteger s z → unsigned_abs z ≤ limit → z ≢ pos limit
    → signed_bits limit s ≡ Some (cast_unsigned w64 z)
signed_back limit [] z top (unsigned is) bound not = absurd (omega (arith, is.0.0))
signed_back limit (c ∷ cs) z top (unsigned {n = n} is) bound not =
    let small : n < limit = grind (arith, not, bound) in
    rw (digit_is c is.0.1.0) (below_back limit (decimal (c ∷ cs)) n (number_back (c ∷ cs) n is (omega arith)) small)
signed_back limit s z top (minus {n = zero} is) bound not =
    rw (below_back (limit + 1) _ zero (number_back _ zero is (omega arith)) (omega arith)) refl
signed_back limit s z top (minus {n = suc m} is) bound not =
    let bits : cast_unsigned w64 (negsuc m) ≡ 2 ^ 64 - suc m = refl in
    rw (below_back (limit + 1) _ (suc m) (number_back _ (suc m) is (omega arith)) (omega arith)) (ap (λ (k : ℕ). Some k) (minus_is m (omega arith) ∙ sym bits))

-- ---- keys

-- a key that is no string, by the kind and the number of its step
pub record IsPlain (P : Scalar → Type 0) (k n : ℕ) : Type 0 where
  pub scalar : Scalar
  pub spelled : P scalar
  pub no_string : string_of_key scalar ≡ []
  pub plain_is : (i : ℕ) → plain_key i scalar ≡ plain k n

fits32 : (z : ℤ) → unsigned_abs z ≤ 2 ^ 31 → z ≢ pos (2 ^ 31) → FitsSigned w32 z
fits32 (pos n) bound not = let small : n < 2 ^ 31 = grind (arith, not, bound) in record { sfits = small }
fits32 (negsuc n) bound not = let small : n < 2 ^ 31 = omega (arith, bound) in record { sfits = small }

fits64 : (z : ℤ) → unsigned_abs z ≤ 2 ^ 63 → z ≢ pos (2 ^ 63) → FitsSigned w64 z
fits64 (pos n) bound not = let small : n < 2 ^ 63 = grind (arith, not, bound) in record { sfits = small }
fits64 (negsuc n) bound not = let small : n < 2 ^ 63 = omega (arith, bound) in record { sfits = small }

record IsBounded (limit : ℕ) (z : ℤ) : Type 0 where
  bound : unsigned_abs z ≤ limit
  not_limit : z ≢ pos limit

bounded : (limit : ℕ) (w : Width) (z : ℤ) → 2 ^ hbits w ≡ limit → FitsSigned w z → IsBounded limit z
bounded limit w (pos n) e fits = let small : n < limit = omega (arith, fits.sfits, e) in record { bound = omega (arith, small); not_limit = λ s. omega (arith, ints, small) }
bounded limit w (negsuc n) e fits = let small : n < limit = omega (arith, fits.sfits, e) in record { bound = omega (arith, small); not_limit = λ s. absurd (cc) }

int32_read : (s : List ℕ) (n : ℕ) → signed_bits (2 ^ 31) s ≡ Some n → IsPlain (SpellsInt32 s) 5 n
int32_read s n e =
    let r = signed_read (2 ^ 31) n s (omega arith) (omega arith) e in
    record { scalar = int32 r.z; spelled = (r.z, refl, r.spelled, fits32 r.z r.bound r.not_limit); no_string = refl; plain_is = λ i. ap (plain 5) r.bits }

int64_read : (s : List ℕ) (n : ℕ) → signed_bits (2 ^ 63) s ≡ Some n → IsPlain (SpellsInt64 s) 3 n
int64_read s n e =
    let r = signed_read (2 ^ 63) n s (omega arith) (omega arith) e in
    record { scalar = int64 r.z; spelled = (r.z, refl, r.spelled, fits64 r.z r.bound r.not_limit); no_string = refl; plain_is = λ i. ap (plain 3) r.bits }

uint32_read : (s : List ℕ) (n : ℕ) → below (2 ^ 32) (decimal s) ≡ Some n → IsPlain (SpellsUint32 s) 13 n
uint32_read s n e =
    let b = below_is (2 ^ 32) (decimal s) n e in
    record { scalar = uint32 n; spelled = (n, refl, (number_read s n b.0).0, b.1); no_string = refl; plain_is = λ i. refl }

uint64_read : (s : List ℕ) (n : ℕ) → decimal s ≡ Some n → IsPlain (SpellsUint64 s) 4 n
uint64_read s n e =
    let r = number_read s n e in record { scalar = uint64 n; spelled = (n, refl, r.0, r.1); no_string = refl; plain_is = λ i. refl }

bool_read : (s : List ℕ) (n : ℕ) → truth s ≡ Some n → IsPlain (SpellsBool s) 8 n
bool_read s n e = by_true (bytes_eq s (codes "true")) refl e
  where
    by_false : (b : Bool) → bytes_eq s (codes "false") ≡ b → cond b (Some 0) None ≡ Some n → IsPlain (SpellsBool s) 8 n
    by_false true is e =
        let same : 0 ≡ n = cc in
        record { scalar = boolean false; spelled = inr ((bytes_eq-Decides s (codes "false")).0 is, refl); no_string = refl; plain_is = λ i. ap (plain 8) same }
    by_false false is e = absurd (cc)

    by_true : (b : Bool) → bytes_eq s (codes "true") ≡ b → cond b (Some 1) (if bytes_eq s (codes "false") then Some 0 else None) ≡ Some n
        → IsPlain (SpellsBool s) 8 n
    by_true true is e =
        let same : 1 ≡ n = cc in
        record { scalar = boolean true; spelled = inl ((bytes_eq-Decides s (codes "true")).0 is, refl); no_string = refl; plain_is = λ i. ap (plain 8) same }
    by_true false is e = by_false (bytes_eq s (codes "false")) refl e

pub key_read : (keys : Kind) (s : List ℕ) (n : ℕ) → key_bits keys s ≡ Some n → IsPlain (SpellsKey keys s) (key_kind keys) n
key_read kind.Int32 s n e = int32_read s n e
key_read kind.Sint32 s n e = int32_read s n e
key_read kind.Sfixed32 s n e = int32_read s n e
key_read kind.Int64 s n e = int64_read s n e
key_read kind.Sint64 s n e = int64_read s n e
key_read kind.Sfixed64 s n e = int64_read s n e
key_read kind.Uint32 s n e = uint32_read s n e
key_read kind.Fixed32 s n e = uint32_read s n e
key_read kind.Uint64 s n e = uint64_read s n e
key_read kind.Fixed64 s n e = uint64_read s n e
key_read kind.Bool s n e = bool_read s n e
key_read kind.Text s n e = absurd (cc)
key_read kind.Bytes s n e = absurd (cc)
key_read kind.Double s n e = absurd (cc)
key_read kind.Float s n e = absurd (cc)
key_read (kind.Enum x) s n e = absurd (cc)
key_read (kind.ClosedEnum x) s n e = absurd (cc)
key_read (kind.Message m) s n e = absurd (cc)
key_read (kind.Group m) s n e = absurd (cc)

-- no byte closes the bracket
abbrev pub IsOpen : List ℕ → Type 0
IsOpen [] = Unit {0}
IsOpen (c ∷ cs) = ((c == 93) ≡ false) × IsOpen cs

digits_open : (s : List ℕ) → AllDigits 10 s → IsOpen s
digits_open [] all = tt
digits_open (c ∷ cs) all = (grind (arith, all.0), digits_open cs all.1)

pub number_open : (s : List ℕ) (n : ℕ) → SpellsNumber s n → IsOpen s
number_open s n is = digits_open s is.0.1

integer_open : (s : List ℕ) (z : ℤ) → SpellsInteger s z → IsOpen s
integer_open s z (unsigned is) = number_open s _ is
integer_open s z (minus {s = ds} is) = (refl, number_open ds _ is)

pub record IsBack (bits : Option ℕ) (kind : ℕ) (s : List ℕ) (k : Scalar) : Type 0 where
  pub number : ℕ
  pub read : bits ≡ Some number
  pub plain_is : (i : ℕ) → plain_key i k ≡ plain kind number
  pub no_string : string_of_key k ≡ []
  pub is_open : IsOpen s

int32_back : (s : List ℕ) (k : Scalar) → SpellsInt32 s k → IsBack (signed_bits (2 ^ 31) s) 5 s k
int32_back s k is =
    let b = bounded (2 ^ 31) w32 is.0 refl is.3 in
    record {
      number = cast_unsigned w64 is.0;
      read = signed_back (2 ^ 31) s is.0 (omega arith) is.2 b.bound b.not_limit;
      plain_is = λ i. ap (plain_key i) is.1;
      no_string = ap string_of_key is.1;
      is_open = integer_open s is.0 is.2;
    }

int64_back : (s : List ℕ) (k : Scalar) → SpellsInt64 s k → IsBack (signed_bits (2 ^ 63) s) 3 s k
int64_back s k is =
    let b = bounded (2 ^ 63) w64 is.0 refl is.3 in
    record {
      number = cast_unsigned w64 is.0;
      read = signed_back (2 ^ 63) s is.0 (omega arith) is.2 b.bound b.not_limit;
      plain_is = λ i. ap (plain_key i) is.1;
      no_string = ap string_of_key is.1;
      is_open = integer_open s is.0 is.2;
    }

uint32_back : (s : List ℕ) (k : Scalar) → SpellsUint32 s k → IsBack (below (2 ^ 32) (decimal s)) 13 s k
uint32_back s k is = record {
  number = is.0;
  read = below_back (2 ^ 32) (decimal s) is.0 (number_back s is.0 is.2 (omega (arith, is.3))) is.3;
  plain_is = λ i. ap (plain_key i) is.1;
  no_string = ap string_of_key is.1;
  is_open = number_open s is.0 is.2;
}

uint64_back : (s : List ℕ) (k : Scalar) → SpellsUint64 s k → IsBack (decimal s) 4 s k
uint64_back s k is = record {
  number = is.0;
  read = number_back s is.0 is.2 is.3;
  plain_is = λ i. ap (plain_key i) is.1;
  no_string = ap string_of_key is.1;
  is_open = number_open s is.0 is.2;
}

bool_back : (s : List ℕ) (k : Scalar) → SpellsBool s k → IsBack (truth s) 8 s k
bool_back s k (inl (is, e)) = subst (λ (d : List ℕ). IsBack (truth d) 8 d k) (sym is) (record {
  number = 1;
  read = refl;
  plain_is = λ i. ap (plain_key i) e;
  no_string = ap string_of_key e;
  is_open = (refl, (refl, (refl, (refl, tt))));
})
bool_back s k (inr (is, e)) = subst (λ (d : List ℕ). IsBack (truth d) 8 d k) (sym is) (record {
  number = 0;
  read = refl;
  plain_is = λ i. ap (plain_key i) e;
  no_string = ap string_of_key e;
  is_open = (refl, (refl, (refl, (refl, (refl, tt)))));
})

pub key_back : (keys : Kind) (s : List ℕ) (k : Scalar) → is_string keys ≡ false → SpellsKey keys s k → IsBack (key_bits keys s) (key_kind keys) s k
key_back kind.Int32 s k not_text is = int32_back s k is
key_back kind.Sint32 s k not_text is = int32_back s k is
key_back kind.Sfixed32 s k not_text is = int32_back s k is
key_back kind.Int64 s k not_text is = int64_back s k is
key_back kind.Sint64 s k not_text is = int64_back s k is
key_back kind.Sfixed64 s k not_text is = int64_back s k is
key_back kind.Uint32 s k not_text is = uint32_back s k is
key_back kind.Fixed32 s k not_text is = uint32_back s k is
key_back kind.Uint64 s k not_text is = uint64_back s k is
key_back kind.Fixed64 s k not_text is = uint64_back s k is
key_back kind.Bool s k not_text is = bool_back s k is
key_back kind.Text s k not_text is = absurd (cc)
key_back kind.Bytes s k not_text is = absurd is
key_back kind.Double s k not_text is = absurd is
key_back kind.Float s k not_text is = absurd is
key_back (kind.Enum x) s k not_text is = absurd is
key_back (kind.ClosedEnum x) s k not_text is = absurd is
key_back (kind.Message m) s k not_text is = absurd is
key_back (kind.Group m) s k not_text is = absurd is
