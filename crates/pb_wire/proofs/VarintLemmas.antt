-- Laws of varints.
use Rattle.std.proofs.Common.{◌≡◌, ℕ, zero, suc, ◌+◌, ◌-◌, ◌*◌, ◌/◌, ◌%◌, ◌^◌, ◌<◌, ◌≤◌, List, [], ◌∷◌, ◌++◌, length, take, refl, sym, ◌∙◌, ap, subst, arith, get_or, ⊎_elim, slice_set, append_assoc}
use Rattle.std.specs.Prelude.{bit_or, bit_and}
use Rattle.std.specs.List.{AllByRecursion}
use Rattle.std.proofs.lemmas.Bool.{cases_lt, lt-ltb, le-ltb}
use Rattle.std.proofs.lemmas.Nat.{or_comm, or_shifted, mod-pow-add, shl-shr, shr_high, mod_low, pow_pos, pow-add, mul-le, and_mask}
use Rattle.std.proofs.Math.Nat.{mod-eq_of_lt, pow-le-pow_right}
use Rattle.std.proofs.lemmas.List.{length-take-le, length-take, take_more, take_more_set}
use Rattle.pb_wire.specs.Varint.{groups_value, EndsOnce, IsVarint, shortest, shortest_within}
use Rattle.pb_wire.specs.Fault.{IsHigh}

pow_more : (n : ℕ) → 2 ^ (7 * suc n) ≡ 128 * 2 ^ (7 * n)
pow_more n = let e : 7 * suc n ≡ 7 + 7 * n = omega arith in rw e (pow-add 2 7 (7 * n))

pub groups_value-push : (xs : List ℕ) (b : ℕ) → groups_value (xs ++ b ∷ []) ≡ groups_value xs + b % 128 * 2 ^ (7 * length xs)
groups_value-push [] b = omega arith
groups_value-push (x ∷ xs) b = rw (pow_more (length xs), groups_value-push xs b) (omega arith)

pub groups_value_below : (xs : List ℕ) → groups_value xs < 2 ^ (7 * length xs)
groups_value_below [] = omega arith
groups_value_below (x ∷ xs) = rw (pow_more (length xs)) (omega (arith, groups_value_below xs))

pub or_step : (v x j k : ℕ) → v < 2 ^ k → bit_or v ((x * 2 ^ k) % 2 ^ (j + k)) ≡ (x * 2 ^ k + v) % 2 ^ (j + k)
or_step v x j k h =
    let zero_low : (x * 2 ^ k) % 2 ^ k ≡ 0 = ap (λ m. m % 2 ^ k) (let e : x * 2 ^ k ≡ x * 2 ^ k + 0 = omega arith in e) ∙ mod_low x k 0 (pow_pos k) in
    let left : (x * 2 ^ k) % 2 ^ (j + k) ≡ x % 2 ^ j * 2 ^ k =
    mod-pow-add (x * 2 ^ k) j k ∙ rw (shl-shr, zero_low) (omega arith) in
    let right : (x * 2 ^ k + v) % 2 ^ (j + k) ≡ x % 2 ^ j * 2 ^ k + v =
    mod-pow-add (x * 2 ^ k + v) j k ∙ rw (shr_high x k v h, mod_low x k v h) refl in
    rw (left, right) (or_comm v (x % 2 ^ j * 2 ^ k) ∙ or_shifted (x % 2 ^ j) k v h)

pub EndsOnce-push : (xs : List ℕ) (b : ℕ) → AllByRecursion IsHigh xs → b < 128 → EndsOnce (xs ++ b ∷ [])
EndsOnce-push [] b a h = h
EndsOnce-push (x ∷ []) b a h = (a.0, h)
EndsOnce-push (x ∷ y ∷ xs) b a h = (a.0, EndsOnce-push (y ∷ xs) b a.1 h)

pub high-push : (xs : List ℕ) (b : ℕ) → AllByRecursion IsHigh xs → 128 ≤ b → AllByRecursion IsHigh (xs ++ b ∷ [])
high-push [] b a h = (h, tt)
high-push (x ∷ xs) b a h = (a.0, high-push xs b a.1 h)

-- no varint is a front of high bytes
pub not_high : (bs : List ℕ) (size k : ℕ) → size ≤ k → size ≤ length bs → EndsOnce (take size bs) → AllByRecursion IsHigh (take k bs) → ⊥
not_high bs zero k le in' ends high = ends
not_high [] (suc size) k le in' ends high = ends
not_high (b ∷ bs) (suc size) zero le in' ends high = omega arith
not_high (b ∷ []) (suc zero) (suc k) le in' ends high = omega (arith, ends, high.0)
not_high (b ∷ c ∷ bs) (suc zero) (suc k) le in' ends high = omega (arith, ends, high.0)
not_high (b ∷ []) (suc (suc size)) (suc k) le in' ends high = omega arith
not_high (b ∷ c ∷ bs) (suc (suc size)) (suc k) le in' ends high =
    not_high (c ∷ bs) (suc size) k (omega arith) (omega arith) ends.1 high.1

-- two varints at one place are one
pub same_size : (bs : List ℕ) (i j : ℕ) → i ≤ length bs → j ≤ length bs → EndsOnce (take i bs) → EndsOnce (take j bs) → i ≡ j
same_size bs zero j hi hj ei ej = absurd ei
same_size bs (suc i) zero hi hj ei ej = absurd ej
same_size [] (suc i) (suc j) hi hj ei ej = absurd ei
same_size (b ∷ bs) (suc zero) (suc zero) hi hj ei ej = refl
same_size (b ∷ []) (suc (suc i)) (suc j) hi hj ei ej = omega arith
same_size (b ∷ []) (suc i) (suc (suc j)) hi hj ei ej = omega arith
same_size (b ∷ c ∷ bs) (suc zero) (suc (suc j)) hi hj ei ej = omega (arith, ei, ej.0)
same_size (b ∷ c ∷ bs) (suc (suc i)) (suc zero) hi hj ei ej = omega (arith, ej, ei.0)
same_size (b ∷ c ∷ bs) (suc (suc i)) (suc (suc j)) hi hj ei ej =
    ap suc (same_size (c ∷ bs) (suc i) (suc j) (omega arith) (omega arith) ei.1 ej.1)

pub one_varint :
    (bs : List ℕ) (m n i j : ℕ) → i ≤ length bs → j ≤ length bs → IsVarint m (take i bs) → IsVarint n (take j bs) → (m ≡ n) × (i ≡ j)
one_varint bs m n i j hi hj a b =
    let e : i ≡ j = same_size bs i j hi hj a.ends b.ends in
    (sym a.value ∙ ap (λ (k : ℕ). groups_value (take k bs) % 2 ^ 64) e ∙ b.value, e)

-- one more byte, lowest groups first
pub value_more :
    (bs : List ℕ) (v i x : ℕ) → i < length bs → i < 10 → v ≡ groups_value (take i bs) % 2 ^ 64 → x ≡ bit_and (get_or bs i 0) 127
    → bit_or v ((x * 2 ^ (7 * i)) % 2 ^ 64) ≡ groups_value (take (i + 1) bs) % 2 ^ 64
value_more bs v i x in' small is_value is_low =
    let taken : length (take i bs) ≡ i = length-take-le i bs (omega arith) in
    let low : x ≡ get_or bs i 0 % 128 = is_low ∙ and_mask (get_or bs i 0) 7 in
    let below : groups_value (take i bs) < 2 ^ (7 * i) = rw taken at (groups_value_below (take i bs)) in
    let fits : 2 ^ (7 * i) ≤ 2 ^ 64 = pow-le-pow_right {n = 2} (omega arith) {i = 7 * i} {j = 64} (omega arith) in
    let whole : v ≡ groups_value (take i bs) = is_value ∙ mod-eq_of_lt (omega arith) in
    let sum : 64 - 7 * i + 7 * i ≡ 64 = omega arith in
    let step : bit_or v ((x * 2 ^ (7 * i)) % 2 ^ (64 - 7 * i + 7 * i)) ≡ (x * 2 ^ (7 * i) + v) % 2 ^ (64 - 7 * i + 7 * i) =
    or_step v x (64 - 7 * i) (7 * i) (omega arith) in
    (rw sum at step) ∙ rw (take_more bs i 0 in', groups_value-push (take i bs) (get_or bs i 0), taken, whole, low)
    (ap (λ m. m % 2 ^ 64) (omega arith))

-- the varint that ends here
pub varint_ends :
    (bs : List ℕ) (v i x : ℕ) → i < length bs → i < 10 → v ≡ groups_value (take i bs) % 2 ^ 64 → x ≡ bit_and (get_or bs i 0) 127
    → AllByRecursion IsHigh (take i bs) → get_or bs i 0 < 128 → IsVarint (bit_or v ((x * 2 ^ (7 * i)) % 2 ^ 64)) (take (i + 1) bs)
varint_ends bs v i x in' small is_value is_low high last = record {
  size = simp length-take (omega arith);
  ends = rw (take_more bs i 0 in') (EndsOnce-push (take i bs) (get_or bs i 0) high last);
  value = sym (value_more bs v i x in' small is_value is_low);
}

-- ten groups of seven bits hold 64 bits
pub group_left : (rest len : ℕ) → len ≤ 9 → rest * 2 ^ (7 * len) < 2 ^ 64 → 128 ≤ rest → len < 9
group_left rest len le small high =
    ⊎_elim (λ h. h)
    (λ h. let e : len ≡ 9 = omega arith in let at_nine : rest * 2 ^ (7 * 9) < 2 ^ 64 = subst (λ (m : ℕ). rest * 2 ^ (7 * m) < 2 ^ 64) e small in absurd (omega (arith, at_nine)))
    (cases_lt len 9)

pub next_group : (rest len : ℕ) → rest * 2 ^ (7 * len) < 2 ^ 64 → rest / 128 * 2 ^ (7 * suc len) < 2 ^ 64
next_group rest len small =
    rw (pow_more len) (omega (arith, mul-le (rest / 128 * 128) (2 ^ (7 * len)) rest (2 ^ (7 * len)) (omega arith) (omega arith)))

shortest_within-last : (k n : ℕ) → n < 128 → shortest_within k n ≡ n ∷ []
unfolding shortest_within
shortest_within-last zero n h = refl
shortest_within-last (suc k) n h = rw (lt-ltb n 128 h) refl

shortest_within-more : (k n : ℕ) → 128 ≤ n → shortest_within (suc k) n ≡ (n % 128 + 128) ∷ shortest_within k (n / 128)
unfolding shortest_within
shortest_within-more k n h = rw (le-ltb n 128 h) refl

-- the shortest encoding takes no more fuel than it needs
shortest_within_enough : (j k n : ℕ) → n ≤ j → n ≤ k → shortest_within j n ≡ shortest_within k n
shortest_within_enough zero k n hj hk = shortest_within-last zero n (omega arith) ∙ sym (shortest_within-last k n (omega arith))
shortest_within_enough (suc j) zero n hj hk = shortest_within-last (suc j) n (omega arith) ∙ sym (shortest_within-last zero n (omega arith))
shortest_within_enough (suc j) (suc k) n hj hk =
    ⊎_elim (λ h. shortest_within-last (suc j) n h ∙ sym (shortest_within-last (suc k) n h))
    (λ h. shortest_within-more j n h ∙ ap (λ (xs : List ℕ). (n % 128 + 128) ∷ xs) (shortest_within_enough j k (n / 128) (omega arith) (omega arith)) ∙ sym (shortest_within-more k n h))
    (cases_lt n 128)

pub shortest-last : (n : ℕ) → n < 128 → shortest n ≡ n ∷ []
unfolding shortest
shortest-last n h = shortest_within-last n n h

pub shortest-more : (n : ℕ) → 128 ≤ n → shortest n ≡ (n % 128 + 128) ∷ shortest (n / 128)
unfolding shortest
shortest-more n h =
    shortest_within_enough n (suc n) n (omega arith) (omega arith) ∙ shortest_within-more n n h
    ∙ ap (λ (xs : List ℕ). (n % 128 + 128) ∷ xs) (shortest_within_enough n (n / 128) (n / 128) (omega arith) (omega arith))

pub high_byte : (n : ℕ) → bit_or (bit_and n 127) 128 ≡ n % 128 + 128
high_byte n = rw (and_mask n 7) (or_comm (n % 128) 128 ∙ or_shifted 1 7 (n % 128) (omega arith) ∙ omega arith)

-- one more byte is written
pub push_group :
    (bytes : List ℕ) (len rest : ℕ) → len < length bytes → 128 ≤ rest
    → take (len + 1) (slice_set bytes len (bit_or (bit_and rest 127) 128)) ++ shortest (rest / 128) ≡ take len bytes ++ shortest rest
push_group bytes len rest in' high =
    rw (take_more_set bytes len (bit_or (bit_and rest 127) 128) in', high_byte rest, shortest-more rest high)
    (append_assoc (take len bytes) ((rest % 128 + 128) ∷ []) (shortest (rest / 128)))
