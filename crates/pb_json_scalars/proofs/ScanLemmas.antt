-- The scan of a number's characters gives its parts, and what is scanned whole is a number.
use Rattle.std.proofs.Common.{◌≡◌, ℕ, suc, ◌+◌, ◌-◌, ◌<◌, ◌≤◌, Bool, true, false, cond, not, eqb, ltb, ◌&&◌, ◌||◌, inl, inr, List, [], ◌∷◌, ◌++◌, length, get_or, take, drop, slice_range, refl, sym, ap, ap₂, ◌∙◌, subst, arith, add-zero, append-nil, append_assoc, length-append, length-drop, drop_at, take_at, take-append-drop, take_all, drop-drop, get_or-append-add, eq-eqb, ne_eqb, eqb-true, ltb-true, lt-ltb}
use Rattle.std.proofs.lemmas.Bool.{cases_Bool, or_cases, and_parts, not-true}
use Rattle.std.proofs.lemmas.List.{drop_more, drop_all}
use Rattle.std.proofs.lemmas.Str.Parse.{digit_from_value}
use Rattle.std.specs.Char.{is_ascii_digit}
use Rattle.std.specs.Str.Parse.{AllDigits, IsNumeral}
use Rattle.std.specs.Float.Numeral.{digits_len}
use Rattle.fast_float.specs.Text.{Parts, scan, digits_end, exponent_start, has_exponent}
use Rattle.fast_float.proofs.DigitsLemmas.{is_digit, digit_range, within_of_byte}
use Rattle.fast_float.proofs.Rows.{AllDigits-digits_len}
use Rattle.fast_float.proofs.Reading.{scan_numeral-AllDigits}
use Rattle.pb_json_scalars.specs.Numbers.{Number, IsNumber, IsInt, Sign, none, plus, minus, minus_text, fraction_text, e_text, sign_text, exponent_text, number_text}
use Rattle.pb_json_scalars.specs.Scanned.{unsigned_text, is_some, goes_down, parts_of, is_int, is_number, without_minus, IsScanned, ScannedAs}

-- ---- a number's characters are scanned as its parts

run_length : (ds rest : List ℕ) → AllDigits 10 ds → digits_len rest ≡ 0 → digits_len (ds ++ rest) ≡ length ds
run_length [] rest all ends = ends
run_length (d ∷ ds) rest all ends = let r = digit_from_value d all.0 in rw ((is_digit d r.0 r.1).0) (omega (arith, run_length ds rest all.1 ends))

-- where digits stand, and none after them
pub record Run (bs : List ℕ) (i : ℕ) (ds : List ℕ) : Type 0 where
  end : digits_end bs i ≡ i + length ds
  are : slice_range bs i (i + length ds) ≡ ds

run_at : (front ds rest : List ℕ) (i : ℕ) → length front ≡ i → AllDigits 10 ds → digits_len rest ≡ 0 → Run (front ++ (ds ++ rest)) i ds
run_at front ds rest i at all ends = record {
  end = rw (drop_at front (ds ++ rest) i at, run_length ds rest all ends);
  are = rw (drop_at front (ds ++ rest) i at) (take_at ds rest (i + length ds - i) (omega arith));
}

byte_at : (front rest : List ℕ) (i k : ℕ) → length front ≡ i → get_or (front ++ rest) (i + k) 0 ≡ get_or rest k 0
byte_at front rest i k at = rw (← at) (get_or-append-add front rest k 0)

first_at : (front rest : List ℕ) (i : ℕ) → length front ≡ i → get_or (front ++ rest) i 0 ≡ get_or rest 0 0
first_at front rest i at = rw add-zero at (byte_at front rest i 0 at)

-- an exponent at b, or none, up to the end
pub record Tail (bs : List ℕ) (b : ℕ) (negative : Bool) (ds : List ℕ) : Type 0 where
  sign : (has_exponent bs b && eqb (get_or bs (b + 1) 0) 45) ≡ negative
  are : cond (has_exponent bs b) (slice_range bs (exponent_start bs b) (digits_end bs (exponent_start bs b))) [] ≡ ds
  end : cond (has_exponent bs b) (digits_end bs (exponent_start bs b)) b ≡ length bs

tail_at : (bs front ds : List ℕ) (b c : ℕ) (negative : Bool) → bs ≡ front ++ (ds ++ []) → length front ≡ c → AllDigits 10 ds
    → has_exponent bs b ≡ true → exponent_start bs b ≡ c → eqb (get_or bs (b + 1) 0) 45 ≡ negative → Tail bs b negative ds
tail_at bs front ds b c negative e at all has start sign =
    let r = run_at front ds [] c at all refl in
    let end : digits_end bs c ≡ c + length ds = rw e r.end in
    let are : slice_range bs c (c + length ds) ≡ ds = rw e r.are in
    let whole : c + length ds ≡ length bs = omega (arith, ap length e, length-append front (ds ++ []), length-append ds []) in record {
      sign = rw has sign;
      are = rw (has, start, end) are;
      end = rw (has, start, end) whole;
    }

module _ (front : List ℕ) (b : ℕ) (at : length front ≡ b) where
  no_tail : Tail (front ++ []) b false []
  no_tail =
      let has : has_exponent (front ++ []) b ≡ false = rw (first_at front [] b at) in
      record { sign = rw has; are = rw has; end = rw (has, append-nil) (sym at) }

  no_sign : (e d : ℕ) (ds : List ℕ) → (eqb e 101 || eqb e 69) ≡ true → AllDigits 10 (d ∷ ds) → Tail (front ++ e ∷ d ∷ ds) b false (d ∷ ds)
  no_sign e d ds mark all =
      let r = digit_from_value d all.0 in
      let bs = front ++ e ∷ d ∷ ds in
      let next : get_or bs (b + 1) 0 ≡ d = byte_at front (e ∷ d ∷ ds) b 1 at in
      let start : exponent_start bs b ≡ b + 1 = rw (next, ne_eqb d 45 (λ h. omega arith), ne_eqb d 43 (λ h. omega arith)) in
      tail_at bs (front ++ e ∷ []) (d ∷ ds) b (b + 1) false (rw (append-nil, append_assoc)) (rw (length-append, at)) all
      (rw (start, next, first_at front (e ∷ d ∷ ds) b at, mark) (is_digit d r.0 r.1).0) start (rw next (ne_eqb d 45 (λ h. omega arith)))

  with_sign : (e x d : ℕ) (ds : List ℕ) → (eqb e 101 || eqb e 69) ≡ true → (eqb x 45 || eqb x 43) ≡ true → AllDigits 10 (d ∷ ds)
      → Tail (front ++ e ∷ x ∷ d ∷ ds) b (eqb x 45) (d ∷ ds)
  with_sign e x d ds mark sign all =
      let r = digit_from_value d all.0 in
      let bs = front ++ e ∷ x ∷ d ∷ ds in
      let next : get_or bs (b + 1) 0 ≡ x = byte_at front (e ∷ x ∷ d ∷ ds) b 1 at in
      let start : exponent_start bs b ≡ b + 2 = rw (next, sign) in
      tail_at bs (front ++ e ∷ x ∷ []) (d ∷ ds) b (b + 2) (eqb x 45) (rw (append-nil, append_assoc)) (rw (length-append, at)) all
      (rw (start, byte_at front (e ∷ x ∷ d ∷ ds) b 2 at, first_at front (e ∷ x ∷ d ∷ ds) b at, mark) (is_digit d r.0 r.1).0) start (rw next)

  mark_is : (upper : Bool) → (eqb (e_text upper) 101 || eqb (e_text upper) 69) ≡ true
  mark_is true = refl
  mark_is false = refl

  tail_of : (upper : Bool) (sign : Sign) (ds : List ℕ) → AllDigits 10 ds → Tail (front ++ exponent_text upper sign ds) b (goes_down sign ds) ds
  tail_of upper none [] all = no_tail
  tail_of upper plus [] all = no_tail
  tail_of upper minus [] all = no_tail
  tail_of upper none (d ∷ ds) all = no_sign (e_text upper) d ds (mark_is upper) all
  tail_of upper plus (d ∷ ds) all = with_sign (e_text upper) 43 d ds (mark_is upper) refl all
  tail_of upper minus (d ∷ ds) all = with_sign (e_text upper) 45 d ds (mark_is upper) refl all

-- an exponent begins with neither a digit nor a point
ends_at : (upper : Bool) (sign : Sign) (ds : List ℕ) → (digits_len (exponent_text upper sign ds) ≡ 0) × (eqb (get_or (exponent_text upper sign ds) 0 0) 46 ≡ false)
ends_at upper sign [] = (refl, refl)
ends_at true sign (d ∷ ds) = (refl, refl)
ends_at false sign (d ∷ ds) = (refl, refl)

scan_is : (bs whole fraction exponent : List ℕ) (point negative : Bool) (a b : ℕ) → digits_end bs 0 ≡ a → eqb (get_or bs a 0) 46 ≡ point
    → cond point (digits_end bs (a + 1)) a ≡ b → slice_range bs 0 a ≡ whole → cond point (slice_range bs (a + 1) b) [] ≡ fraction → Tail bs b negative exponent
    → scan bs ≡ record { whole = whole; point = point; fraction = fraction; exponent_negative = negative; exponent = exponent; len = length bs }
unfolding scan
scan_is bs whole fraction exponent point negative a b ea ep eb ew ef t =
    rw (ea, ep, eb) (λ i. record { whole = ew i; point = point; fraction = ef i; exponent_negative = t.sign i; exponent = t.are i; len = t.end i })

parts_scanned : (whole fraction : List ℕ) (upper : Bool) (sign : Sign) (exponent : List ℕ) → AllDigits 10 whole → AllDigits 10 fraction → AllDigits 10 exponent
    → let bs = whole ++ (fraction_text fraction ++ exponent_text upper sign exponent) in
    scan bs ≡ record { whole = whole; point = is_some fraction; fraction = fraction; exponent_negative = goes_down sign exponent; exponent = exponent; len = length bs }
parts_scanned whole [] upper sign exponent w f e =
    let x = exponent_text upper sign exponent in
    let ends = ends_at upper sign exponent in
    let a = 0 + length whole in
    let at : length whole ≡ a = omega arith in
    let first = run_at [] whole x 0 refl w ends.0 in
    scan_is (whole ++ x) whole [] exponent false (goes_down sign exponent) a a first.end (rw (first_at whole x a at) ends.1) refl first.are refl (tail_of whole a at upper sign exponent e)
parts_scanned whole (d ∷ ds) upper sign exponent w f e =
    let x = exponent_text upper sign exponent in
    let ends = ends_at upper sign exponent in
    let bs = whole ++ (46 ∷ ((d ∷ ds) ++ x)) in
    let a = 0 + length whole in
    let at : length whole ≡ a = omega arith in
    let first = run_at [] whole (46 ∷ ((d ∷ ds) ++ x)) 0 refl w refl in
    let long : length (whole ++ 46 ∷ []) ≡ a + 1 = omega (arith, length-append whole (46 ∷ [])) in
    let cut : (whole ++ 46 ∷ []) ++ ((d ∷ ds) ++ x) ≡ bs = append_assoc whole (46 ∷ []) ((d ∷ ds) ++ x) in
    let second : Run bs (a + 1) (d ∷ ds) = subst (λ (l : List ℕ). Run l (a + 1) (d ∷ ds)) cut (run_at (whole ++ 46 ∷ []) (d ∷ ds) x (a + 1) long f ends.0) in
    let b = a + 1 + length (d ∷ ds) in
    let joined : (whole ++ 46 ∷ d ∷ ds) ++ x ≡ bs = append_assoc whole (46 ∷ d ∷ ds) x in
    let tail : Tail bs b (goes_down sign exponent) exponent =
    subst (λ (l : List ℕ). Tail l b (goes_down sign exponent) exponent) joined
    (tail_of (whole ++ 46 ∷ d ∷ ds) b (omega (arith, length-append whole (46 ∷ d ∷ ds))) upper sign exponent e) in
    scan_is bs whole (d ∷ ds) exponent true (goes_down sign exponent) a b first.end (rw (first_at whole (46 ∷ ((d ∷ ds) ++ x)) a at)) second.end first.are second.are tail

pub scanned : (n : Number) → AllDigits 10 n.whole → AllDigits 10 n.fraction → AllDigits 10 n.exponent → scan (unsigned_text n) ≡ parts_of n
scanned n w f e = parts_scanned n.whole n.fraction n.upper n.sign n.exponent w f e

-- ---- what is scanned whole is a number

cut : (bs : List ℕ) (i j : ℕ) → i ≤ j → drop i bs ≡ slice_range bs i j ++ drop j bs
cut bs i j within =
    let e : i + (j - i) ≡ j = omega arith in
    sym (take-append-drop (j - i) (drop i bs)) ∙ ap (λ (l : List ℕ). slice_range bs i j ++ l) (drop-drop (j - i) i bs ∙ ap (λ (k : ℕ). drop k bs) e)

-- the exponent's digits, up to the end
digits_to_end : (bs : List ℕ) (c : ℕ) → is_ascii_digit (get_or bs c 0) ≡ true → digits_end bs c ≡ length bs
    → (drop c bs ≡ get_or bs c 0 ∷ drop (c + 1) bs) × AllDigits 10 (get_or bs c 0 ∷ drop (c + 1) bs)
digits_to_end bs c digit end =
    let r = digit_range (get_or bs c 0) digit in
    let within : c < length bs = within_of_byte bs c (omega arith) in
    let first = drop_more bs c 0 within in
    let long : length (drop c bs) ≤ digits_len (drop c bs) = omega (arith, length-drop c bs) in
    let all : AllDigits 10 (take (length (drop c bs)) (drop c bs)) = AllDigits-digits_len (drop c bs) (length (drop c bs)) long in
    let whole : take (length (drop c bs)) (drop c bs) ≡ drop c bs = take_all (length (drop c bs)) (drop c bs) (omega arith) in
    (first, subst (λ (l : List ℕ). AllDigits 10 l) (whole ∙ first) all)

-- what follows b is an exponent, or nothing
pub record TailBack (bs : List ℕ) (b : ℕ) : Type 0 where
  upper : Bool
  sign : Sign
  ds : List ℕ
  all : AllDigits 10 ds
  text : drop b bs ≡ exponent_text upper sign ds

mark_back : (x : ℕ) → (eqb x 101 || eqb x 69) ≡ true → (upper : Bool) × (x ≡ e_text upper)
mark_back x h = elim (or_cases (eqb x 101) (eqb x 69) h) [ inl e ↦ (false, eqb-true x 101 e) | inr e ↦ (true, eqb-true x 69 e) ]

mark_large : (upper : Bool) → 0 < e_text upper
mark_large true = omega arith
mark_large false = omega arith

sign_back : (x : ℕ) → (eqb x 45 || eqb x 43) ≡ true → (sign : Sign) × (sign_text sign ≡ x ∷ []) × (0 < x)
sign_back x h = elim (or_cases (eqb x 45) (eqb x 43) h) [
  | inl e ↦ (minus, ap (λ (y : ℕ). y ∷ []) (sym (eqb-true x 45 e)), omega (arith, eqb-true x 45 e))
  | inr e ↦ (plus, ap (λ (y : ℕ). y ∷ []) (sym (eqb-true x 43 e)), omega (arith, eqb-true x 43 e))
]

module _ (bs : List ℕ) (b : ℕ) where
  exponent_back : (upper : Bool) → get_or bs b 0 ≡ e_text upper → is_ascii_digit (get_or bs (exponent_start bs b) 0) ≡ true
      → digits_end bs (exponent_start bs b) ≡ length bs → TailBack bs b
  exponent_back upper mark digit end =
      let large = mark_large upper in
      let within : b < length bs = within_of_byte bs b (omega arith) in
      let first : drop b bs ≡ e_text upper ∷ drop (b + 1) bs = drop_more bs b 0 within ∙ ap (λ (x : ℕ). x ∷ drop (b + 1) bs) mark in
      elim (cases_Bool (eqb (get_or bs (b + 1) 0) 45 || eqb (get_or bs (b + 1) 0) 43)) [
        | inl s ↦
            let sign = sign_back (get_or bs (b + 1) 0) s in
            let start : exponent_start bs b ≡ b + 2 = rw s in
            let next : b + 1 < length bs = within_of_byte bs (b + 1) sign.2 in
            let two : b + 1 + 1 ≡ b + 2 = omega arith in
            let second : drop (b + 1) bs ≡ get_or bs (b + 1) 0 ∷ drop (b + 2) bs = rw two at (drop_more bs (b + 1) 0 next) in
            let rest = digits_to_end bs (b + 2) (rw start at digit) (rw start at end) in
            record {
              upper = upper;
              sign = sign.0;
              ds = get_or bs (b + 2) 0 ∷ drop (b + 2 + 1) bs;
              all = rest.1;
              text = first ∙ ap (λ (l : List ℕ). e_text upper ∷ l) (second ∙ ap (λ (l : List ℕ). get_or bs (b + 1) 0 ∷ l) rest.0 ∙ ap (λ (l : List ℕ). l ++ (get_or bs (b + 2) 0 ∷ drop (b + 2 + 1) bs)) (sym sign.1));
            }
        | inr s ↦
            let start : exponent_start bs b ≡ b + 1 = rw s in
            let rest = digits_to_end bs (b + 1) (rw start at digit) (rw start at end) in
            record {
              upper = upper;
              sign = none;
              ds = get_or bs (b + 1) 0 ∷ drop (b + 1 + 1) bs;
              all = rest.1;
              text = first ∙ ap (λ (l : List ℕ). e_text upper ∷ l) rest.0;
            }
      ]

  tail_back : cond (has_exponent bs b) (digits_end bs (exponent_start bs b)) b ≡ length bs → TailBack bs b
  tail_back end =
      elim (cases_Bool (has_exponent bs b)) [
        | inl has ↦
            let parts = and_parts (eqb (get_or bs b 0) 101 || eqb (get_or bs b 0) 69) (is_ascii_digit (get_or bs (exponent_start bs b) 0)) has in
            let mark = mark_back (get_or bs b 0) parts.0 in
            exponent_back mark.0 mark.1 parts.1 (rw has at end)
        | inr has ↦
            let at : b ≡ length bs = rw has at end in
            record { upper = false; sign = none; ds = []; all = tt; text = drop_all b bs (omega arith) }
      ]

-- the parts that the characters without a minus have
pub record Back (bs : List ℕ) (negative : Bool) : Type 0 where
  pub n : Number
  pub is_negative : n.negative ≡ negative
  pub whole : IsInt n.whole
  pub fraction : AllDigits 10 n.fraction
  pub exponent : AllDigits 10 n.exponent
  pub text : bs ≡ unsigned_text n

with_fraction : (f rest : List ℕ) → 0 < length f → fraction_text f ++ rest ≡ 46 ∷ (f ++ rest)
with_fraction [] rest some = absurd (omega arith)
with_fraction (d ∷ ds) rest some = refl

back_from : (bs whole fraction : List ℕ) (negative : Bool) (b : ℕ) → bs ≡ whole ++ (fraction_text fraction ++ drop b bs) → IsInt whole → AllDigits 10 fraction
    → TailBack bs b → Back bs negative
back_from bs whole fraction negative b text w f t = record {
  n = record { negative = negative; whole = whole; fraction = fraction; upper = t.upper; sign = t.sign; exponent = t.ds };
  is_negative = refl;
  whole = w;
  fraction = f;
  exponent = t.all;
  text = text ∙ ap (λ (l : List ℕ). whole ++ (fraction_text fraction ++ l)) t.text;
}

int_back : (ds : List ℕ) → AllDigits 10 ds → is_int ds ≡ true → IsInt ds
int_back ds all h =
    let parts = and_parts (ltb 0 (length ds)) (not (eqb (get_or ds 0 0) 48) || eqb (length ds) 1) h in
    let some = ltb-true 0 (length ds) parts.0 in (
      (some, all),
      λ zero. elim (or_cases (not (eqb (get_or ds 0 0) 48)) (eqb (length ds) 1) parts.1) [
        | inl other ↦ absurd (cc (not-true (eqb (get_or ds 0 0) 48) other, eq-eqb (get_or ds 0 0) 48 zero))
        | inr one ↦ eqb-true (length ds) 1 one
      ],
    )

int_test : (ds : List ℕ) → IsInt ds → is_int ds ≡ true
int_test ds h = elim (cases_Bool (eqb (get_or ds 0 0) 48)) [
  | inl e ↦ rw (lt-ltb 0 (length ds) h.0.0, e, eq-eqb (length ds) 1 (h.1 (eqb-true (get_or ds 0 0) 48 e)))
  | inr e ↦ rw (lt-ltb 0 (length ds) h.0.0, e)
]

by_point : (bs : List ℕ) (negative : Bool) (a : ℕ) (point : Bool) → eqb (get_or bs a 0) 46 ≡ point → bs ≡ slice_range bs 0 a ++ drop a bs → IsInt (slice_range bs 0 a)
    → AllDigits 10 (cond point (slice_range bs (a + 1) (cond point (digits_end bs (a + 1)) a)) [])
    → (not point || ltb 0 (length (cond point (slice_range bs (a + 1) (cond point (digits_end bs (a + 1)) a)) []))) ≡ true
    → TailBack bs (cond point (digits_end bs (a + 1)) a) → Back bs negative
by_point bs negative a false dot text w f some t = back_from bs (slice_range bs 0 a) [] negative a text w tt t
by_point bs negative a true dot text w f some t =
    let e = digits_end bs (a + 1) in
    let point : get_or bs a 0 ≡ 46 = eqb-true (get_or bs a 0) 46 dot in
    let within : a < length bs = within_of_byte bs a (omega arith) in
    let first : drop a bs ≡ 46 ∷ drop (a + 1) bs = drop_more bs a 0 within ∙ ap (λ (x : ℕ). x ∷ drop (a + 1) bs) point in
    let second : drop (a + 1) bs ≡ slice_range bs (a + 1) e ++ drop e bs = cut bs (a + 1) e (omega arith) in
    let joined = with_fraction (slice_range bs (a + 1) e) (drop e bs) (ltb-true 0 (length (slice_range bs (a + 1) e)) some) in
    back_from bs (slice_range bs 0 a) (slice_range bs (a + 1) e) negative e
    (text ∙ ap (λ (l : List ℕ). slice_range bs 0 a ++ l) (first ∙ ap (λ (l : List ℕ). 46 ∷ l) second ∙ sym joined)) w f t

pub number_back : (bs : List ℕ) (negative : Bool) → is_number (scan bs) (length bs) ≡ true → Back bs negative
unfolding scan
number_back bs negative h =
    let a = digits_end bs 0 in
    let point = eqb (get_or bs a 0) 46 in
    let b = cond point (digits_end bs (a + 1)) a in
    let digits = scan_numeral-AllDigits bs in
    let parts = and_parts (eqb (scan bs).len (length bs)) (is_int (scan bs).whole && (not (scan bs).point || ltb 0 (length (scan bs).fraction))) h in
    let inner = and_parts (is_int (scan bs).whole) (not (scan bs).point || ltb 0 (length (scan bs).fraction)) parts.1 in
    by_point bs negative a point refl (cut bs 0 a (omega arith)) (int_back (scan bs).whole digits.0 inner.0) digits.1 inner.1
    (tail_back bs b (eqb-true (scan bs).len (length bs) parts.0))

fraction_test : (ds : List ℕ) → (not (is_some ds) || ltb 0 (length ds)) ≡ true
fraction_test [] = refl
fraction_test (d ∷ ds) = lt-ltb 0 (suc (length ds)) (omega arith)

-- a number passes the test
pub number_test : (n : Number) → IsInt n.whole → is_number (parts_of n) (length (unsigned_text n)) ≡ true
number_test n w = rw (eq-eqb (length (unsigned_text n)) (length (unsigned_text n)) refl, int_test n.whole w, fraction_test n.fraction)

-- ---- the minus

pub split_minus : (s : List ℕ) → s ≡ minus_text (eqb (get_or s 0 0) 45) ++ without_minus s
split_minus [] = refl
split_minus (x ∷ xs) = elim (cases_Bool (eqb x 45)) [ inl e ↦ rw e (ap (λ (y : ℕ). y ∷ xs) (eqb-true x 45 e)) | inr e ↦ rw e refl ]

first_digit : (ds rest : List ℕ) → IsNumeral 10 ds → eqb (get_or (ds ++ rest) 0 0) 45 ≡ false
first_digit [] rest h = absurd (omega (arith, h.0))
first_digit (d ∷ ds) rest h = let r = digit_from_value d h.1.0 in ne_eqb d 45 (λ e. omega arith)

minus_is : (negative : Bool) (rest : List ℕ) → eqb (get_or rest 0 0) 45 ≡ false
    → (eqb (get_or (minus_text negative ++ rest) 0 0) 45 ≡ negative) × (without_minus (minus_text negative ++ rest) ≡ rest)
minus_is true rest h = (refl, refl)
minus_is false rest h = (h, rw h refl)

pub minus_of : (s : List ℕ) (n : Number) → IsNumber s n → (eqb (get_or s 0 0) 45 ≡ n.negative) × (without_minus s ≡ unsigned_text n)
minus_of s n h = rw h.text (minus_is n.negative (unsigned_text n) (first_digit n.whole (fraction_text n.fraction ++ exponent_text n.upper n.sign n.exponent) h.whole.0))

-- ---- what is answered

pub number_scanned : (s u : List ℕ) (negative : Bool) (p : Parts) → u ≡ without_minus s → p ≡ scan u → is_number p (length u) ≡ true
    → negative ≡ eqb (get_or s 0 0) 45 → IsScanned s negative p
number_scanned s u negative p eu ep test en =
    let at : is_number (scan (without_minus s)) (length (without_minus s)) ≡ true = rw (ep, eu) at test in
    let back = number_back (without_minus s) (eqb (get_or s 0 0) 45) at in
    let text : s ≡ number_text back.n = split_minus s ∙ ap₂ (λ (b : Bool) (l : List ℕ). minus_text b ++ l) (sym back.is_negative) back.text in
    let is : IsNumber s back.n = record { whole = back.whole; fraction = back.fraction; exponent = back.exponent; text = text } in
    let parts : p ≡ parts_of back.n = ep ∙ ap scan eu ∙ ap scan back.text ∙ scanned back.n back.whole.0.1 back.fraction back.exponent in
    (back.n, is, (en ∙ sym back.is_negative, parts))

pub number_found : (s u : List ℕ) (negative : Bool) (p : Parts) (n : Number) → u ≡ without_minus s → p ≡ scan u → negative ≡ eqb (get_or s 0 0) 45
    → IsNumber s n → ScannedAs n negative p
number_found s u negative p n eu ep en is =
    let m = minus_of s n is in
    (en ∙ m.0, ep ∙ ap scan (eu ∙ m.1) ∙ scanned n is.whole.0.1 is.fraction is.exponent)

pub number_passes : (s u : List ℕ) (p : Parts) (n : Number) → u ≡ without_minus s → p ≡ scan u → IsNumber s n → is_number p (length u) ≡ true
number_passes s u p n eu ep is =
    let m = minus_of s n is in
    let e : u ≡ unsigned_text n = eu ∙ m.1 in
    let parts : p ≡ parts_of n = ep ∙ ap scan e ∙ scanned n is.whole.0.1 is.fraction is.exponent in
    rw (parts, e) (number_test n is.whole)
