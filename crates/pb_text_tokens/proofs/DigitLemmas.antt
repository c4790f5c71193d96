-- Digits, one after another.
use Rattle.std.proofs.Common.{◌≡◌, ℕ, zero, suc, ◌+◌, ◌*◌, ◌-◌, ◌^◌, ◌<◌, ◌≤◌, List, [], ◌∷◌, length, drop, get_or, Bool, true, false, Option, Some, None, ltb, ltb-true, refl, ap, sym, ◌∙◌, arith, lit≤, mul-le-mul_left, pow-suc}
use Rattle.std.proofs.lemmas.List.{drop_more}
use Rattle.std.specs.Char.{digit_value}
use Rattle.pb_text_tokens.specs.Digits.{digit_of, number_from}

pub digit_below : (base c v : ℕ) → digit_of base c ≡ Some v → v < base
digit_below base c v h = by_test (ltb (digit_value c) base) refl h
  where
    by_test : (b : Bool) → ltb (digit_value c) base ≡ b → (Rattle.std.specs.Prelude.if◌then◌else◌ b (Some (digit_value c)) None) ≡ Some v → v < base
    by_test true e h = let s : digit_value c ≡ v = cc h in let l = ltb-true (digit_value c) base e in omega arith
    by_test false e h = absurd (cc h)

small_power : (i : ℕ) → i < 8 → 16 ^ i ≤ 268435456
small_power zero l = lit≤ tt
small_power (suc zero) l = lit≤ tt
small_power (suc (suc zero)) l = lit≤ tt
small_power (suc (suc (suc zero))) l = lit≤ tt
small_power (suc (suc (suc (suc zero)))) l = lit≤ tt
small_power (suc (suc (suc (suc (suc zero))))) l = lit≤ tt
small_power (suc (suc (suc (suc (suc (suc zero)))))) l = lit≤ tt
small_power (suc (suc (suc (suc (suc (suc (suc zero))))))) l = lit≤ tt
small_power (suc (suc (suc (suc (suc (suc (suc (suc i)))))))) l = absurd (omega arith)

pub product_fits : (base limit i value : ℕ) → base ≤ 16 → limit ≤ 8 → i < limit → value < 16 ^ i → value * base < 4294967296
product_fits base limit i value b l k s = let p = small_power i (omega arith) in let m = mul-le-mul_left value b in omega arith

pub sum_fits : (base limit i value d : ℕ) → base ≤ 16 → limit ≤ 8 → i < limit → value < 16 ^ i → d < base → value * base + d < 4294967296
sum_fits base limit i value d b l k s h = let p = small_power i (omega arith) in let m = mul-le-mul_left value b in omega arith

pub next_power : (base i value d : ℕ) → base ≤ 16 → value < 16 ^ i → d < base → value * base + d < 16 ^ (i + 1)
next_power base i value d b s h =
    let m = mul-le-mul_left value b in
    rw (Rattle.std.proofs.Common.add-one) (rw (pow-suc 16 i) (omega arith))

less_one : (n i : ℕ) → i < n → n - i ≡ suc (n - (i + 1))
less_one n i l = omega arith

pub number_next : (base n limit i d : ℕ) (bs : List ℕ) → i < limit → i < length bs → digit_of base (get_or bs i 0) ≡ Some d
    → number_from base n (limit - i) (drop i bs) ≡ (suc (number_from base (n * base + d) (limit - (i + 1)) (drop (i + 1) bs)).0, (number_from base (n * base + d) (limit - (i + 1)) (drop (i + 1) bs)).1)
number_next base n limit i d bs k l h = rw (less_one limit i k, drop_more bs i 0 l, h) refl

pub number_ends : (base n limit i : ℕ) (bs : List ℕ) → i < length bs → digit_of base (get_or bs i 0) ≡ None → number_from base n (limit - i) (drop i bs) ≡ (0, n)
number_ends base n limit i bs l h = by_room (limit - i)
  where
    by_room : (k : ℕ) → number_from base n k (drop i bs) ≡ (0, n)
    by_room zero = refl
    by_room (suc k) = rw (drop_more bs i 0 l, h) refl

pub number_at_end : (base n k i : ℕ) (bs : List ℕ) → length bs ≤ i → number_from base n k (drop i bs) ≡ (0, n)
number_at_end base n k i bs l = rw (Rattle.std.proofs.Common.drop_of_length-le bs l) (by_room k)
  where
    by_room : (k : ℕ) → number_from base n k [] ≡ (0, n)
    by_room zero = refl
    by_room (suc k) = refl

-- what is read so far, and what is left
pub joins : (i m : ℕ) (all : ℕ × ℕ) (found rest : ℕ × ℕ) → all ≡ (i + found.0, found.1) → found ≡ (suc rest.0, rest.1) → all ≡ (i + 1 + rest.0, rest.1)
joins i m all found rest h e = h ∙ ap (λ f. (i + f.0, f.1)) e ∙ ap (λ k. (k, rest.1)) (next i rest.0)
  where
    next : (i k : ℕ) → i + suc k ≡ i + 1 + k
    next i k = omega arith

pub joins_end : (i n : ℕ) (all found : ℕ × ℕ) → all ≡ (i + found.0, found.1) → found ≡ (0, n) → (i, n) ≡ all
joins_end i n all found h e = sym (h ∙ ap (λ f. (i + f.0, f.1)) e ∙ ap (λ k. (k, n)) (none i))
  where
    none : (i : ℕ) → i + 0 ≡ i
    none i = omega arith

pub number_within : (base n k : ℕ) (bs : List ℕ) → (number_from base n k bs).0 ≤ length bs
number_within base n zero bs = omega arith
number_within base n (suc k) [] = omega arith
number_within base n (suc k) (c ∷ cs) = by_digit (digit_of base c) refl (λ m. number_within base m k cs)
  where
    by_digit : (o : Option ℕ) → digit_of base c ≡ o → ((m : ℕ) → (number_from base m k cs).0 ≤ length cs) → (number_from base n (suc k) (c ∷ cs)).0 ≤ suc (length cs)
    by_digit None e f = rw e (omega arith)
    by_digit (Some d) e f = rw e (let m = f (n * base + d) in omega arith)
