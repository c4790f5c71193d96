-- Varints that are the shortest of their number, by their last byte.
use Rattle.std.proofs.Common.{◌≡◌, ℕ, zero, suc, ◌+◌, ◌-◌, ◌*◌, ◌/◌, ◌%◌, ◌^◌, ◌<◌, ◌≤◌, List, [], ◌∷◌, length, take, refl, ap, sym, subst, ◌∙◌, arith}
use Rattle.std.specs.Prelude.{◌≢◌, slice_index, drop, ◌++◌}
use Rattle.std.proofs.lemmas.List.{get_or-take, length-take-le, take-append-drop, take_all}
use Rattle.std.proofs.Common.{inl, inr, ◌⊎◌}
use Rattle.std.proofs.lemmas.Bool.{cases_lt}
use Rattle.std.proofs.lemmas.Nat.{pow-add}
use Rattle.std.proofs.Math.Nat.{mod-eq_of_lt, pow-le-pow_right}
use Rattle.pb_canonical.proofs.SplitLemmas.{left_part}
use Rattle.pb_wire.specs.Varint.{IsVarint, EndsOnce, groups_value, shortest}
use Rattle.pb_wire.specs.Ranges.{AreBytes}
use Rattle.pb_wire.proofs.VarintLemmas.{shortest-last, shortest-more, groups_value_below}
use Rattle.pb_wire.proofs.ShortestLemmas.{groups_value-shortest, length-shortest-le}

-- the last byte
abbrev last_byte : List ℕ → ℕ
last_byte [] = 0
last_byte (x ∷ []) = x
last_byte (x ∷ y ∷ ys) = last_byte (y ∷ ys)

-- how many bytes follow the first
abbrev further : List ℕ → ℕ
further [] = 0
further (x ∷ xs) = length xs

further_is : (s : List ℕ) → further s ≡ length s - 1
further_is [] = omega arith
further_is (x ∷ xs) = omega arith

last_at : (s : List ℕ) (n : ℕ) → length s ≡ suc n → last_byte s ≡ slice_index s n
last_at [] n e = absurd (omega (arith, e))
last_at (x ∷ []) zero e = refl
last_at (x ∷ []) (suc n) e = absurd (omega (arith, e))
last_at (x ∷ y ∷ ys) zero e = absurd (omega (arith, e))
last_at (x ∷ y ∷ ys) (suc n) e = last_at (y ∷ ys) n (omega (arith, e))

pow_next : (n : ℕ) → 2 ^ (7 * suc n) ≡ 128 * 2 ^ (7 * n)
pow_next n = let e : 7 * suc n ≡ 7 + 7 * n = omega arith in rw e (pow-add 2 7 (7 * n))

pow_after : (n : ℕ) → 2 ^ (7 * suc n + 1) ≡ 128 * 2 ^ (7 * n + 1)
pow_after n = let e : 7 * suc n + 1 ≡ 7 + (7 * n + 1) = omega arith in rw e (pow-add 2 7 (7 * n + 1))

-- a last byte of zero adds nothing
below_zero : (s : List ℕ) → EndsOnce s → last_byte s ≡ 0 → groups_value s < 2 ^ (7 * further s)
below_zero [] e z = absurd e
below_zero (x ∷ []) e z = omega (arith, z)
below_zero (x ∷ y ∷ ys) e z = let rest = below_zero (y ∷ ys) e.1 z in rw (pow_next (length ys)) (omega (arith, rest))

-- a last byte of one adds one bit
below_one : (s : List ℕ) → EndsOnce s → last_byte s ≤ 1 → groups_value s < 2 ^ (7 * further s + 1)
below_one [] e z = absurd e
below_one (x ∷ []) e z = omega (arith, z)
below_one (x ∷ y ∷ ys) e z = let rest = below_one (y ∷ ys) e.1 z in rw (pow_after (length ys)) (omega (arith, rest))

-- a greater one adds more
from_two : (s : List ℕ) → EndsOnce s → 1 < last_byte s → 2 ^ (7 * further s + 1) ≤ groups_value s
from_two [] e z = absurd e
from_two (x ∷ []) e z = omega (arith, z, e)
from_two (x ∷ y ∷ ys) e z = let rest = from_two (y ∷ ys) e.1 z in rw (pow_after (length ys)) (omega (arith, rest))

not_zero : (s : List ℕ) → EndsOnce s → last_byte s ≢ 0 → 0 < groups_value s
not_zero [] e z = absurd e
not_zero (x ∷ []) e z = omega (arith, z, e)
not_zero (x ∷ y ∷ ys) e z = let rest = not_zero (y ∷ ys) e.1 z in omega (arith, rest)

-- where the last byte is not zero the bytes are the shortest of what they hold
is_shortest : (s : List ℕ) → EndsOnce s → AreBytes s → last_byte s ≢ 0 → s ≡ shortest (groups_value s)
is_shortest [] e r z = absurd e
is_shortest (x ∷ []) e r z =
    let n : groups_value (x ∷ []) ≡ x = omega (arith, e) in rw n (sym (shortest-last x e))
is_shortest (x ∷ y ∷ ys) e r z =
    let rest = is_shortest (y ∷ ys) e.1 r.1 z in
    let some = not_zero (y ∷ ys) e.1 z in
    let n : ℕ = groups_value (y ∷ ys) in
    let low : (x % 128 + 128 * n) % 128 + 128 ≡ x = omega (arith, e.0, r.0) in
    let high : (x % 128 + 128 * n) / 128 ≡ n = omega arith in
    sym (shortest-more (x % 128 + 128 * n) (omega (arith, some)) ∙ ap (λ (l : List ℕ). ((x % 128 + 128 * n) % 128 + 128) ∷ l) (ap shortest high ∙ sym rest)
    ∙ ap (λ (b : ℕ). b ∷ y ∷ ys) low)

-- ---- varints of 64 bits

fits : (k : ℕ) → k ≤ 8 → 2 ^ (7 * suc k) ≤ 2 ^ 64
fits k h = pow-le-pow_right {n = 2} (omega arith) {i = 7 * suc k} {j = 64} (omega (arith, h))

whole : (n : ℕ) (s : List ℕ) → IsVarint n s → groups_value s < 2 ^ 64 → groups_value s ≡ n
whole n s v small = sym (mod-eq_of_lt small) ∙ v.value

pub one_byte : (n : ℕ) (s : List ℕ) → IsVarint n s → length s ≡ 1 → s ≡ shortest n
one_byte n [] v e = absurd v.ends
one_byte n (x ∷ []) v e =
    let low = v.ends in
    let small : groups_value (x ∷ []) ≡ x = omega (arith, low) in
    let same = whole n (x ∷ []) v (omega (arith, low)) in
    sym (shortest-last x low) ∙ ap shortest (sym small ∙ same)
one_byte n (x ∷ y ∷ ys) v e = absurd (omega (arith, e))

few_bytes : (s : List ℕ) → length s < 10 → groups_value s < 2 ^ 64
few_bytes s few =
    let below = groups_value_below s in
    let fit = pow-le-pow_right {n = 2} (omega arith) {i = 7 * length s} {j = 64} (omega (arith, few)) in
    omega (arith, below, fit)

ten_bytes : (s : List ℕ) → EndsOnce s → length s ≡ 10 → last_byte s ≤ 1 → groups_value s < 2 ^ 64
ten_bytes s e size low =
    let below = below_one s e low in
    let power : 7 * further s + 1 ≡ 64 = omega (arith, further_is s, size) in
    rw power at below

pub few_are_shortest : (n : ℕ) (s : List ℕ) → IsVarint n s → AreBytes s → last_byte s ≢ 0 → length s < 10 → s ≡ shortest n
few_are_shortest n s v r z few = is_shortest s v.ends r z ∙ ap shortest (whole n s v (few_bytes s few))

pub ten_are_shortest : (n : ℕ) (s : List ℕ) → IsVarint n s → AreBytes s → length s ≡ 10 → last_byte s ≡ 1 → s ≡ shortest n
ten_are_shortest n s v r size one =
    is_shortest s v.ends r (λ z. omega (arith, z, one)) ∙ ap shortest (whole n s v (ten_bytes s v.ends size (omega (arith, one))))

pub overlong : (n : ℕ) (s : List ℕ) → IsVarint n s → 1 < length s → last_byte s ≡ 0 → s ≡ shortest n → ⊥
overlong n s v more z e =
    let j : ℕ = length s - 2 in
    let below = below_zero s v.ends z in
    let power : 7 * further s ≡ 7 * suc j = omega (arith, further_is s, more) in
    let value : groups_value s ≡ n = ap groups_value e ∙ groups_value-shortest n in
    let small : n < 2 ^ (7 * suc j) = subst (λ (m : ℕ). m < 2 ^ (7 * suc j)) value (subst (λ (m : ℕ). groups_value s < 2 ^ m) power below) in
    let few = length-shortest-le j n small in
    let same : length s ≡ length (shortest n) = ap length e in
    omega (arith, few, same, more)

pub too_many_bits : (n : ℕ) (s : List ℕ) → IsVarint n s → length s ≡ 10 → 1 < last_byte s → s ≡ shortest n → ⊥
too_many_bits n s v size high e =
    let power : 7 * further s + 1 ≡ 64 = omega (arith, further_is s, size) in
    let from = subst (λ (m : ℕ). 2 ^ m ≤ groups_value s) power (from_two s v.ends high) in
    let value : groups_value s ≡ n = ap groups_value e ∙ groups_value-shortest n in
    omega (arith, from, value, v.value)

-- ---- the same of the first bytes of some

taken_bytes : (b : List ℕ) (size : ℕ) → AreBytes b → AreBytes (take size b)
taken_bytes b size h = left_part (take size b) (drop size b) (subst AreBytes (sym (take-append-drop size b)) h)

last_taken : (b : List ℕ) (size : ℕ) → 0 < size → size ≤ length b → last_byte (take size b) ≡ slice_index b (size - 1)
last_taken b size some within =
    let n : length (take size b) ≡ size = length-take-le size b within in
    last_at (take size b) (size - 1) (omega (arith, n, some)) ∙ get_or-take size b (size - 1) 0 (omega (arith, some))

pub one_taken : (b : List ℕ) (size n : ℕ) → size ≤ length b → IsVarint n (take size b) → size ≡ 1 → take size b ≡ shortest n
one_taken b size n within v one = one_byte n (take size b) v (length-take-le size b within ∙ one)

pub overlong_taken :
    (b : List ℕ) (size n : ℕ) → 0 < size → size ≤ length b → IsVarint n (take size b) → size ≢ 1 → slice_index b (size - 1) ≡ 0
    → take size b ≡ shortest n → ⊥
overlong_taken b size n some within v more none e =
    let size_is = length-take-le size b within in
    overlong n (take size b) v (omega (arith, size_is, some, more)) (last_taken b size some within ∙ none) e

pub few_taken :
    (b : List ℕ) (size n : ℕ) → AreBytes b → 0 < size → size ≤ length b → IsVarint n (take size b) → slice_index b (size - 1) ≢ 0 → size < 10
    → take size b ≡ shortest n
few_taken b size n bytes some within v high few =
    let size_is = length-take-le size b within in
    few_are_shortest n (take size b) v (taken_bytes b size bytes) (λ z. high (sym (last_taken b size some within) ∙ z)) (omega (arith, size_is, few))

pub ten_taken :
    (b : List ℕ) (size n : ℕ) → AreBytes b → 0 < size → size ≤ length b → IsVarint n (take size b) → 10 ≤ size → slice_index b (size - 1) ≡ 1
    → take size b ≡ shortest n
ten_taken b size n bytes some within v ten one =
    let size_is = length-take-le size b within in
    let most = v.size in
    ten_are_shortest n (take size b) v (taken_bytes b size bytes) (omega (arith, size_is, most, ten)) (last_taken b size some within ∙ one)

pub ten_bits :
    (b : List ℕ) (size n : ℕ) → 0 < size → size ≤ length b → IsVarint n (take size b) → 10 ≤ size → slice_index b (size - 1) ≢ 0
    → take size b ≡ shortest n → slice_index b (size - 1) ≡ 1
ten_bits b size n some within v ten high e =
    by (cases_lt 1 (last_byte (take size b)))
  where
    by : (1 < last_byte (take size b)) ⊎ (last_byte (take size b) ≤ 1) → slice_index b (size - 1) ≡ 1
    by (inl more) = absurd (too_many_bits n (take size b) v (let size_is = length-take-le size b within in let most = v.size in omega (arith, size_is, most, ten)) more e)
    by (inr low) = let last = last_taken b size some within in omega (arith, last, low, high)

-- ---- two bytes

pub two_bytes :
    (b : List ℕ) (n : ℕ) → 2 ≤ length b → slice_index b 0 < 256 → 128 ≤ slice_index b 0 → slice_index b 1 < 128 → slice_index b 1 ≢ 0
    → n ≡ slice_index b 0 - 128 + 128 * slice_index b 1 → b ≡ shortest n ++ take (length b - 2) (drop 2 b)
two_bytes [] n more byte high low some e = absurd (omega (arith, more))
two_bytes (x ∷ []) n more byte high low some e = absurd (omega (arith, more))
two_bytes (x ∷ y ∷ ys) n more byte high low some e =
    let first : n % 128 + 128 ≡ x = omega (arith, e, byte, high) in
    let second : n / 128 ≡ y = omega (arith, e, byte, high) in
    let spelled : shortest n ≡ x ∷ y ∷ [] =
    shortest-more n (omega (arith, e, some)) ∙ ap (λ (l : List ℕ). (n % 128 + 128) ∷ l) (ap shortest second ∙ shortest-last y low) ∙ ap (λ (z : ℕ). z ∷ y ∷ []) first in
    sym
    (ap (λ (l : List ℕ). l ++ take (length (x ∷ y ∷ ys) - 2) ys) spelled
    ∙ ap (λ (l : List ℕ). x ∷ y ∷ l) (take_all (length (x ∷ y ∷ ys) - 2) ys (omega arith)))
