-- A number that equals an integer, by its digits around the point that its exponent moved.
use Rattle.std.proofs.Common.{◌≡◌, ℕ, zero, suc, ◌+◌, ◌-◌, ◌*◌, ◌^◌, ◌<◌, ◌≤◌, ◌⊎◌, Bool, true, false, cond, List, [], ◌∷◌, ◌++◌, length, take, drop, inl, inr, refl, sym, ap, ◌∙◌, arith, length-append, length-drop, take-append-drop, mul-le-mul_left, mul-le-mul_right, subst, subst₂, ap₂, Option, Some, None, SomeIff, IfSome, FitsSigned, w64, ne_eqb}
use Rattle.std.specs.Prelude.{ℤ, pos}
use Rattle.std.proofs.Math.Nat.{eq_of_mul-eq-mul_right}
use Rattle.std.proofs.lemmas.Bool.{cases_lt}
use Rattle.std.proofs.lemmas.Nat.{pow-add}
use Rattle.std.proofs.lemmas.Int.Digits.{digits_value-lt}
use Rattle.std.specs.Str.Parse.{digits_value, AllDigits}
use Rattle.fast_float.specs.Text.{Parts, IsWhole, point_at, whole_of}
use Rattle.fast_float.proofs.DigitsLemmas.{digits_value-append}
use Rattle.fast_float.proofs.ExactLemmas.{ten_to_pos}
use Rattle.fast_float.proofs.Rows.{AllDigits-append, AllDigits-drop}
use Rattle.pb_json_scalars.specs.Numbers.{Number, IsNumber, Sign, none, plus, minus, digits, up_by, up, down_by, down, signed, Equals, IsIntegerText}
use Rattle.pb_json_scalars.specs.Scanned.{goes_down, parts_of, unsigned, IsScanned, ScannedAs}

-- the number before the point and what follows it
split : (ds : List ℕ) (k : ℕ) → digits_value 10 ds ≡ digits_value 10 (take k ds) * 10 ^ (length ds - k) + digits_value 10 (drop k ds)
split ds k =
    ap (digits_value 10) (sym (take-append-drop k ds)) ∙ digits_value-append (take k ds) (drop k ds)
    ∙ ap (λ (j : ℕ). digits_value 10 (take k ds) * 10 ^ j + digits_value 10 (drop k ds)) (length-drop k ds)

below : (ds : List ℕ) (k : ℕ) → AllDigits 10 ds → digits_value 10 (drop k ds) < 10 ^ (length ds - k)
below ds k all = let e = length-drop k ds in rw (sym e) (digits_value-lt 10 (drop k ds) (AllDigits-drop k ds all))

-- a multiple of a power that is a multiple and a little more
only_multiple : (n t r p : ℕ) → n * p ≡ t * p + r → r < p → (n ≡ t) × (r ≡ 0)
only_multiple n t r p e small =
    elim (cases_lt t n) [
      | inl more ↦ absurd (let m = mul-le-mul_right p more in omega (arith, m))
      | inr less ↦
          let m = mul-le-mul_right p less in
          let none : r ≡ 0 = omega (arith, m) in
          (eq_of_mul-eq-mul_right p (omega arith) n t (omega arith), none)
    ]

-- both sides by the same power
cancel : (a b p : ℕ) → 0 < p → a * p ≡ b * p → a ≡ b
cancel a b p some e = eq_of_mul-eq-mul_right p some a b e

-- The equation n * 10 ^ down = d * 10 ^ up has a solution just where r is 0, and this is t * 10 ^ z.
pub record Solved (d t r z up down : ℕ) : Type 0 where
  is : r ≡ 0 → t * 10 ^ z * 10 ^ down ≡ d * 10 ^ up
  only : (n : ℕ) → n * 10 ^ down ≡ d * 10 ^ up → (r ≡ 0) × (n ≡ t * 10 ^ z)

without_power : (n d j z c : ℕ) → n * 10 ^ (j + c) ≡ d * 10 ^ (z + c) → n * 10 ^ j ≡ d * 10 ^ z
without_power n d j z c e =
    let p = pow-add 10 j c in
    let q = pow-add 10 z c in
    let e' : n * (10 ^ j * 10 ^ c) ≡ d * (10 ^ z * 10 ^ c) = rw (p, q) at e in
    cancel (n * 10 ^ j) (d * 10 ^ z) (10 ^ c) (ten_to_pos c) (omega (arith, e'))

with_power : (n d j z c : ℕ) → n * 10 ^ j ≡ d * 10 ^ z → n * 10 ^ (j + c) ≡ d * 10 ^ (z + c)
with_power n d j z c e =
    let p = pow-add 10 j c in
    let q = pow-add 10 z c in
    let m : n * 10 ^ j * 10 ^ c ≡ d * 10 ^ z * 10 ^ c = ap (λ (x : ℕ). x * 10 ^ c) e in
    rw (p, q) (omega (arith, m))

-- the point moved within the digits, or past them
within : (d t r j z c : ℕ) → d ≡ t * 10 ^ j + r → r < 10 ^ j → (j ≡ 0) ⊎ (z ≡ 0) → Solved d t r z (z + c) (j + c)
within d t r j z c e small which = record {
  is = λ nothing. with_power (t * 10 ^ z) d j z c (omega (arith, ap (λ (x : ℕ). x * 10 ^ z) e, ap (λ (x : ℕ). x * 10 ^ z) nothing));
  only = λ n same.
      let plain = without_power n d j z c same in
      elim which [
        | inl at_end ↦
            let one : 10 ^ j ≡ 1 = ap (λ (k : ℕ). 10 ^ k) at_end in
            let nothing : r ≡ 0 = omega arith in
            let all : d ≡ t = omega (arith, rw one at e) in
            (nothing, omega (arith, rw one at plain, ap (λ (x : ℕ). x * 10 ^ z) all))
        | inr at_end ↦
            let one : 10 ^ z ≡ 1 = ap (λ (k : ℕ). 10 ^ k) at_end in
            let parts = only_multiple n t r (10 ^ j) (omega (arith, rw one at plain)) small in
            (parts.1, rw one (omega (arith, parts.0)))
      ];
}

-- the point moved before all digits
before : (d l x : ℕ) → d < 10 ^ l → Solved d 0 d 0 0 (l + x)
before d l x small = record {
  is = λ nothing. rw nothing (omega arith);
  only = elim [
    | zero ↦ λ same. (omega (arith, same), omega arith)
    | suc n ↦ λ same.
        absurd (
        let p = pow-add 10 l x in
        let m = mul-le-mul_left (10 ^ l) (ten_to_pos x) in
        let more : 10 ^ l ≤ 10 ^ (l + x) = rw p (omega (arith, m)) in
        omega (arith, same, more)
        )
  ];
}

at_powers : (d t r z u v up down : ℕ) → u ≡ up → v ≡ down → Solved d t r z u v → Solved d t r z up down
at_powers d t r z u v up down eu ev h = subst₂ (λ (a b : ℕ). Solved d t r z a b) eu ev h

-- which digits stand before the point
abbrev moved : Bool → ℕ → ℕ → ℕ
moved negative w e = cond negative (w - e) (w + e)

module _ (ds : List ℕ) (w f e : ℕ) (all : AllDigits 10 ds) (long : length ds ≡ w + f) where
  abbrev AtPoint : ℕ → ℕ → ℕ → Type 0
  AtPoint k up down = Solved (digits_value 10 ds) (digits_value 10 (take k ds)) (digits_value 10 (drop k ds)) (k - length ds) up down

  inside : (k c up down : ℕ) → (length ds - k ≡ 0) ⊎ (k - length ds ≡ 0) → k - length ds + c ≡ up → length ds - k + c ≡ down → AtPoint k up down
  inside k c up down which eu ed =
      at_powers _ _ _ _ _ _ up down eu ed
      (within (digits_value 10 ds) (digits_value 10 (take k ds)) (digits_value 10 (drop k ds)) (length ds - k) (k - length ds) c (split ds k) (below ds k all) which)

  outside : (k : ℕ) → k ≡ 0 → w < e → AtPoint k 0 (f + e)
  outside k first more =
      let small : digits_value 10 ds < 10 ^ length ds = digits_value-lt 10 ds all in
      let sum : length ds + (e - w) ≡ f + e = omega arith in
      let none_past : 0 - length ds ≡ 0 = omega arith in
      rw (first, none_past) (at_powers _ _ _ _ _ _ 0 (f + e) refl sum (before (digits_value 10 ds) (length ds) (e - w) small))

  solved : (negative : Bool) → AtPoint (moved negative w e) (cond negative 0 e) (f + cond negative e 0)
  solved false = elim (cases_lt e f) [
    | inl less ↦ inside (w + e) e e (f + 0) (inr (omega arith)) (omega arith) (omega arith)
    | inr more ↦ inside (w + e) f e (f + 0) (inl (omega arith)) (omega arith) (omega arith)
  ]
  solved true = elim (cases_lt w e) [
    | inl more ↦ outside (w - e) (omega arith) more
    | inr less ↦ inside (w - e) 0 0 (f + e) (inr (omega arith)) (omega arith) (omega arith)
  ]

pub signs : (sign : Sign) (ds : List ℕ)
    → (up_by sign ds ≡ cond (goes_down sign ds) 0 (digits_value 10 ds)) × (down_by sign ds ≡ cond (goes_down sign ds) (digits_value 10 ds) 0)
signs none ds = (refl, refl)
signs plus ds = (refl, refl)
signs minus [] = (refl, refl)
signs minus (d ∷ ds) = (refl, refl)

abbrev OfNumber : Number → Type 0
OfNumber n =
    Solved (digits n) (digits_value 10 (take (point_at (parts_of n)) (n.whole ++ n.fraction))) (digits_value 10 (drop (point_at (parts_of n)) (n.whole ++ n.fraction)))
    (point_at (parts_of n) - length (n.whole ++ n.fraction)) (up n) (down n)

number_solved : (n : Number) → AllDigits 10 n.whole → AllDigits 10 n.fraction → OfNumber n
number_solved n w f =
    let powers = signs n.sign n.exponent in
    at_powers _ _ _ _ _ _ (up n) (down n) (sym powers.0) (ap (λ (k : ℕ). length n.fraction + k) (sym powers.1))
    (solved (n.whole ++ n.fraction) (length n.whole) (length n.fraction) (digits_value 10 n.exponent) (AllDigits-append n.whole n.fraction w f)
    (length-append n.whole n.fraction) (goes_down n.sign n.exponent))

-- ---- what is answered

-- a whole number of a size is scanned
pub size_read : (s : List ℕ) (negative : Bool) (p : Parts) (z : ℤ) → IsScanned s negative p → IsWhole p → z ≡ signed negative (whole_of p) → IsIntegerText s z
size_read s negative p z (n, is, same) whole e =
    let h = number_solved n is.whole.0.1 is.fraction in
    let rest = subst IsWhole same.1 whole in
    let size : whole_of p ≡ whole_of (parts_of n) = ap whole_of same.1 in
    (n, is, (whole_of (parts_of n), e ∙ ap₂ (λ (b : Bool) (k : ℕ). signed b k) same.0 size, h.is rest))

-- the integer that a number equals is the one of its size
pub size_found : (negative : Bool) (p : Parts) (n : Number) (z : ℤ) (s : List ℕ) → IsNumber s n → ScannedAs n negative p → Equals n z
    → IsWhole p × (z ≡ signed negative (whole_of p))
size_found negative p n z s is same (k, sign, product) =
    let h = (number_solved n is.whole.0.1 is.fraction).only k product in
    let whole : IsWhole p = subst IsWhole (sym same.1) h.0 in
    (whole, sign ∙ ap₂ (λ (b : Bool) (m : ℕ). signed b m) (sym same.0) (h.1 ∙ ap whole_of (sym same.1)))

pub signed_read : (o : Option ℤ) (s : List ℕ) (negative : Bool) (p : Parts) → IsScanned s negative p
    → SomeIff o (IsWhole p × FitsSigned w64 (signed negative (whole_of p))) (signed negative (whole_of p)) → IfSome o (IsIntegerText s)
signed_read None s negative p is h = tt
signed_read (Some z) s negative p is h = size_read s negative p z is h.0.0 h.1

pub signed_found : (o : Option ℤ) (s : List ℕ) (negative : Bool) (p : Parts) (z : ℤ) → ((n : Number) → IsNumber s n → ScannedAs n negative p)
    → SomeIff o (IsWhole p × FitsSigned w64 (signed negative (whole_of p))) (signed negative (whole_of p)) → IsIntegerText s z → FitsSigned w64 z → o ≡ Some z
signed_found None s negative p z which h (n, is, equal) fits =
    let found = size_found negative p n z s is (which n is) equal in
    absurd (h (found.0, subst (λ (y : ℤ). FitsSigned w64 y) found.1 fits))
signed_found (Some x) s negative p z which h (n, is, equal) fits =
    let found = size_found negative p n z s is (which n is) equal in
    ap (λ (y : ℤ). Some y) (h.1 ∙ sym found.1)

zero_either : (negative : Bool) → pos 0 ≡ signed negative 0
zero_either true = refl
zero_either false = refl

pub natural_is : (negative : Bool) (k : ℕ) → IfSome (unsigned negative k) (λ n. pos n ≡ signed negative k)
natural_is false k = refl
natural_is true zero = refl
natural_is true (suc k) = rw (ne_eqb (suc k) 0 (λ e. omega arith)) tt

pub natural_found : (negative : Bool) (k n : ℕ) → pos n ≡ signed negative k → (n ≡ k) × (unsigned negative k ≡ Some n)
natural_found false k n e = let same : n ≡ k = cc in (same, ap (λ (x : ℕ). Some x) (sym same))
natural_found true zero n e = let same : n ≡ 0 = cc in (same, ap (λ (x : ℕ). Some x) (sym same))
natural_found true (suc k) n e = absurd (cc)

unsigned_by : (o : Option ℕ) (s : List ℕ) (negative : Bool) (p : Parts) → IsScanned s negative p → IsWhole p
    → IfSome o (λ n. pos n ≡ signed negative (whole_of p)) → IfSome o (λ n. IsIntegerText s (pos n))
unsigned_by None s negative p is whole h = tt
unsigned_by (Some n) s negative p is whole h = size_read s negative p (pos n) is whole h

pub unsigned_read : (o : Option ℕ) (k : ℕ) (s : List ℕ) (negative : Bool) (p : Parts) → IsScanned s negative p
    → (IsWhole p × (whole_of p < 2 ^ 64)) × (k ≡ whole_of p) → o ≡ unsigned negative k → IfSome o (λ n. IsIntegerText s (pos n))
unsigned_read o k s negative p is h e =
    unsigned_by o s negative p is h.0.0
    (subst (λ (x : Option ℕ). IfSome x (λ n. pos n ≡ signed negative (whole_of p))) (sym (e ∙ ap (unsigned negative) h.1)) (natural_is negative (whole_of p)))

-- a size that does not fit, or none, is no natural number that fits
pub unsigned_none : (s : List ℕ) (negative : Bool) (p : Parts) (n : ℕ) → ((m : Number) → IsNumber s m → ScannedAs m negative p)
    → ¬ (IsWhole p × (whole_of p < 2 ^ 64)) → IsIntegerText s (pos n) → n < 2 ^ 64 → ⊥
unsigned_none s negative p n which unfit (m, is, equal) fits =
    let found = size_found negative p m (pos n) s is (which m is) equal in
    let same = natural_found negative (whole_of p) n found.1 in
    unfit (found.0, rw (← same.0) fits)

pub unsigned_found : (o : Option ℕ) (k : ℕ) (s : List ℕ) (negative : Bool) (p : Parts) (n : ℕ) → ((m : Number) → IsNumber s m → ScannedAs m negative p)
    → k ≡ whole_of p → o ≡ unsigned negative k → IsIntegerText s (pos n) → o ≡ Some n
unsigned_found o k s negative p n which ek e (m, is, equal) =
    let found = size_found negative p m (pos n) s is (which m is) equal in
    let same = natural_found negative (whole_of p) n found.1 in
    e ∙ ap (unsigned negative) ek ∙ same.1

pub narrowed : (o : Option ℕ) (x n k : ℕ) → SomeIff o (x < k) x → Some x ≡ Some n → n < k → o ≡ Some n
narrowed None x n k h e small = let same : x ≡ n = cc in absurd (h (omega arith))
narrowed (Some y) x n k h e small = ap (λ (z : ℕ). Some z) h.1 ∙ e
