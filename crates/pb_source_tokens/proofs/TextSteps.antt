-- A step of each loop over texts.
use Rattle.std.proofs.Common.{◌≡◌, ◌≢◌, ℕ, zero, suc, ◌+◌, ◌*◌, ◌-◌, ◌^◌, ◌<◌, ◌≤◌, List, [], ◌∷◌, length, take, drop, get_or, false, Option, Some, None, refl, ap, sym, ◌∙◌, arith, lit≤, mul-le-mul_left, pow-suc, eq-eqb, ne_eqb, length-drop}
use Rattle.std.proofs.lemmas.List.{drop_more}
use Rattle.pb_source_tokens.specs.Tokens.{is_plain}
use Rattle.pb_source_tokens.specs.Texts.{digit_of, number_from, escape_len, units_from, units_len}

-- ---- numbers

small_power : (i : ℕ) → i < 8 → 16 ^ i ≤ 268435456
small_power zero l = lit≤ tt
small_power (suc zero) l = lit≤ tt
small_power (suc (suc zero)) l = lit≤ tt
small_power (suc (suc (suc zero))) l = lit≤ tt
small_power (suc (suc (suc (suc zero)))) l = lit≤ tt
small_power (suc (suc (suc (suc (suc zero))))) l = lit≤ tt
small_power (suc (suc (suc (suc (suc (suc zero)))))) l = lit≤ tt
small_power (suc (suc (suc (suc (suc (suc (suc zero))))))) l = lit≤ tt
small_power (suc (suc (suc (suc (suc (suc (suc (suc i)))))))) l = absurd (omega arith)

pub product_fits : (base limit i value : ℕ) → base ≤ 16 → limit ≤ 8 → i < limit → value < 16 ^ i → value * base < 4294967296
product_fits base limit i value b l k s = let p = small_power i (omega arith) in let m = mul-le-mul_left value b in omega arith

pub sum_fits : (base limit i value d : ℕ) → base ≤ 16 → limit ≤ 8 → i < limit → value < 16 ^ i → d < base → value * base + d < 4294967296
sum_fits base limit i value d b l k s h = let p = small_power i (omega arith) in let m = mul-le-mul_left value b in omega arith

pub next_power : (base i value d : ℕ) → base ≤ 16 → value < 16 ^ i → d < base → value * base + d < 16 ^ (i + 1)
next_power base i value d b s h =
    let m = mul-le-mul_left value b in
    rw (Rattle.std.proofs.Common.add-one) (rw (pow-suc 16 i) (omega arith))

less_one : (n i : ℕ) → i < n → n - i ≡ suc (n - (i + 1))
less_one n i l = omega arith

pub number_next : (base n limit i d : ℕ) (bs : List ℕ) → i < limit → i < length bs → digit_of base (get_or bs i 0) ≡ Some d
    → number_from base n (limit - i) (drop i bs) ≡ (suc (number_from base (n * base + d) (limit - (i + 1)) (drop (i + 1) bs)).0, (number_from base (n * base + d) (limit - (i + 1)) (drop (i + 1) bs)).1)
number_next base n limit i d bs k l h = rw (less_one limit i k, drop_more bs i 0 l, h) refl

pub number_ends : (base n limit i : ℕ) (bs : List ℕ) → i < length bs → digit_of base (get_or bs i 0) ≡ None → number_from base n (limit - i) (drop i bs) ≡ (0, n)
number_ends base n limit i bs l h = by_room (limit - i)
  where
    by_room : (k : ℕ) → number_from base n k (drop i bs) ≡ (0, n)
    by_room zero = refl
    by_room (suc k) = rw (drop_more bs i 0 l, h) refl

pub number_at_end : (base n k i : ℕ) (bs : List ℕ) → length bs ≤ i → number_from base n k (drop i bs) ≡ (0, n)
number_at_end base n k i bs l = rw (Rattle.std.proofs.Common.drop_of_length-le bs l) (by_room k)
  where
    by_room : (k : ℕ) → number_from base n k [] ≡ (0, n)
    by_room zero = refl
    by_room (suc k) = refl

-- what is read so far, and what is left
pub joins : (i m : ℕ) (all : ℕ × ℕ) (found rest : ℕ × ℕ) → all ≡ (i + found.0, found.1) → found ≡ (suc rest.0, rest.1) → all ≡ (i + 1 + rest.0, rest.1)
joins i m all found rest h e = h ∙ ap (λ f. (i + f.0, f.1)) e ∙ ap (λ k. (k, rest.1)) (next i rest.0)
  where
    next : (i k : ℕ) → i + suc k ≡ i + 1 + k
    next i k = omega arith

pub joins_end : (i n : ℕ) (all found : ℕ × ℕ) → all ≡ (i + found.0, found.1) → found ≡ (0, n) → (i, n) ≡ all
joins_end i n all found h e = sym (h ∙ ap (λ f. (i + f.0, f.1)) e ∙ ap (λ k. (k, n)) (none i))
  where
    none : (i : ℕ) → i + 0 ≡ i
    none i = omega arith

-- ---- lengths

pub number_within : (base n k : ℕ) (bs : List ℕ) → (number_from base n k bs).0 ≤ length bs
number_within base n zero bs = omega arith
number_within base n (suc k) [] = omega arith
number_within base n (suc k) (c ∷ cs) = by_digit (digit_of base c) refl (λ m. number_within base m k cs)
  where
    by_digit : (o : Option ℕ) → digit_of base c ≡ o → ((m : ℕ) → (number_from base m k cs).0 ≤ length cs) → (number_from base n (suc k) (c ∷ cs)).0 ≤ suc (length cs)
    by_digit None e f = rw e (omega arith)
    by_digit (Some d) e f = rw e (let m = f (n * base + d) in omega arith)

pub unicode_within : (base k n : ℕ) (bs : List ℕ) → (number_from base n k (drop 1 bs)).0 ≡ k → 0 < length bs → suc k ≤ length bs
unicode_within base k n [] e l = absurd (omega arith)
unicode_within base k n (c ∷ cs) e l = let m = number_within base n k cs in omega arith

-- ---- units

pub units_skip : (quote k : ℕ) (bs : List ℕ) → k ≤ length bs → units_from quote k bs ≡ k + units_from quote 0 (drop k bs)
units_skip quote zero bs l = sym (zero_first (units_from quote 0 bs))
  where
    zero_first : (n : ℕ) → 0 + n ≡ n
    zero_first n = omega arith
units_skip quote (suc k) [] l = absurd (omega arith)
units_skip quote (suc k) (c ∷ cs) l = ap suc (units_skip quote k cs (omega arith)) ∙ next k (units_from quote 0 (drop k cs))
  where
    next : (k n : ℕ) → suc (k + n) ≡ suc k + n
    next k n = omega arith

drop_on : (bs : List ℕ) (at n : ℕ) → drop n (drop at bs) ≡ drop (at + n) bs
drop_on bs at n = Rattle.std.proofs.Common.drop-drop n at bs

-- a unit of one byte and the escape after it
pub units_escape : (quote at n : ℕ) (bs : List ℕ) → at < length bs → is_plain quote (get_or bs at 0) ≡ false → get_or bs at 0 ≡ 92 → n ≢ 0 → n ≡ escape_len (drop (at + 1) bs) → n ≤ length (drop (at + 1) bs)
    → units_len quote (drop at bs) ≡ suc n + units_len quote (drop (at + 1 + n) bs)
units_escape quote at n bs l p e z h w =
    rw (drop_more bs at 0 l) (
    rw p (
    rw (eq-eqb (get_or bs at 0) 92 e, ← h, ne_eqb n 0 z)
    (ap suc (units_skip quote n (drop (at + 1) bs) w) ∙ ap (λ r. suc (n + units_len quote r)) (drop_on bs (at + 1) n) ∙ next n (units_len quote (drop (at + 1 + n) bs)))))
  where
    next : (k n : ℕ) → suc (k + n) ≡ suc k + n
    next k n = omega arith

-- what `&bs[at + 1..]` is
pub tail_from : (bs : List ℕ) (at : ℕ) → take (length bs - (at + 1)) (drop (at + 1) bs) ≡ drop (at + 1) bs
tail_from bs at = Rattle.std.proofs.Common.take_all (length bs - (at + 1)) (drop (at + 1) bs) (let e = length-drop (at + 1) bs in omega arith)

pub room_after : (bs : List ℕ) (at n : ℕ) → at < length bs → n ≤ length (drop (at + 1) bs) → at + (1 + n) ≤ length bs
room_after bs at n l h = let e = length-drop (at + 1) bs in omega arith

pub units_on : (quote at n : ℕ) (bs : List ℕ) (all : ℕ) → all ≡ at + units_len quote (drop at bs) → units_len quote (drop at bs) ≡ suc n + units_len quote (drop (at + 1 + n) bs)
    → all ≡ at + (1 + n) + units_len quote (drop (at + (1 + n)) bs)
units_on quote at n bs all h e = h ∙ ap (λ k. at + k) e ∙ next at n (units_len quote (drop (at + 1 + n) bs)) ∙ ap (λ k. at + (1 + n) + units_len quote (drop k bs)) (same at n)
  where
    next : (at n k : ℕ) → at + (suc n + k) ≡ at + (1 + n) + k
    next at n k = omega arith

    same : (at n : ℕ) → at + 1 + n ≡ at + (1 + n)
    same at n = omega arith
