-- Eight bytes as a number: of which of them the high bit is set.
use Rattle.std.proofs.Common.{◌≡◌, ℕ, zero, suc, ◌+◌, ◌-◌, ◌*◌, ◌/◌, ◌%◌, ◌^◌, ◌<◌, ◌≤◌, List, refl, sym, ap, ◌∙◌, arith, Bool, true, false, cond, min}
use Rattle.std.specs.Prelude.{slice_index, nat_eq, bit_and, bit_xor}
use Rattle.std.specs.Int.{w64, bit_at, trailing_zeros, leading_zeros}
use Rattle.std.specs.Slice.Scan.{little_endian, Flags}
use Rattle.std.proofs.lemmas.Bool.{eqb-true, lt-ltb, le-ltb, agree_below_at}
use Rattle.std.proofs.lemmas.Nat.{xor_lt, and_le_r, leading_top}
use Rattle.std.proofs.lemmas.Nat.Bits.{bit_at_and, bit_at_xor, bit_at-lt, bit_at-zero, bit_at_above, bit_at-trailing_zeros}
use Rattle.std.proofs.Math.Nat.{div-eq_of_lt-le, pow-suc}
use Rattle.pb_validate.specs.Whole.{ends_varint}

abbrev high_bits : ℕ
high_bits = 0x8080_8080_8080_8080

-- the high bit of each byte that is below 128
abbrev pub turned : ℕ → ℕ
turned w = bit_xor (bit_and w high_bits) high_bits

high_bits_at : (t : ℕ) → t < 64 → bit_at high_bits t ≡ cond (nat_eq (t % 8) 7) 1 0
high_bits_at t l = eqb-true _ _ (agree_below_at (λ x. nat_eq (bit_at high_bits x) (cond (nat_eq (x % 8) 7) 1 0)) (λ _. true) 64 t refl l)

turned_at : (w t : ℕ) → bit_at (turned w) t ≡ (min (bit_at w t) (bit_at high_bits t) + bit_at high_bits t) % 2
turned_at w t = bit_at_xor (bit_and w high_bits) high_bits t ∙ ap (λ (z : ℕ). (z + bit_at high_bits t) % 2) (bit_at_and w high_bits t)

-- it has other bits nowhere
turned_high : (w t : ℕ) → t < 64 → bit_at (turned w) t ≡ 1 → t % 8 ≡ 7
turned_high w t l e = by (nat_eq (t % 8) 7) refl
  where
    by : (b : Bool) → nat_eq (t % 8) 7 ≡ b → t % 8 ≡ 7
    by true p = eqb-true _ _ p
    by false p =
        let none : bit_at high_bits t ≡ 0 = high_bits_at t l ∙ ap (λ (z : Bool). cond z 1 0) p in
        let is = turned_at w t in absurd (omega (arith, none, is, e))

turned_of : (w k : ℕ) → k < 8 → bit_at (turned w) (8 * k + 7) ≡ 1 - bit_at w (8 * k + 7)
turned_of w k l =
    let t : ℕ = 8 * k + 7 in
    let seven : t % 8 ≡ 7 = omega arith in
    let some : bit_at high_bits t ≡ 1 = high_bits_at t (omega (arith, l)) ∙ ap (λ (z : ℕ). cond (nat_eq z 7) 1 0) seven in
    let is = turned_at w t in
    let small = bit_at-lt w t in
    omega (arith, some, is, small)

turned_small : (w : ℕ) → turned w < 2 ^ 64
turned_small w = xor_lt 64 (bit_and w high_bits) high_bits (let h = and_le_r w high_bits in omega (arith, h)) (omega arith)

-- a number between two powers
top_one : (m j : ℕ) → 2 ^ j ≤ m → m < 2 ^ suc j → m / 2 ^ j ≡ 1
top_one m j low high = div-eq_of_lt-le {k = 1} (2 ^ j) {m = m} (omega (arith, low)) (let e = pow-suc 2 j in omega (arith, high, e))

by_power : (w t p x : ℕ) → 2 ^ t ≡ p → w / p % 2 ≡ x → bit_at w t ≡ x
by_power w t p x e is = ap (λ (z : ℕ). w / z % 2) e ∙ is

module _ (b : List ℕ) (at : ℕ) (small : (k : ℕ) → slice_index b k < 256) where
  abbrev word : ℕ
  word = little_endian b at

  byte : (k : ℕ) → slice_index b (at + k) < 256
  byte k = small (at + k)

  here : slice_index b (at + 0) ≡ slice_index b at
  here = let e : at + 0 ≡ at = omega arith in ap (slice_index b) e

  abbrev IsHighBit : ℕ → Type 0
  IsHighBit k = bit_at word (8 * k + 7) ≡ slice_index b (at + k) / 128

  high_bit : (k : ℕ) → k < 8 → IsHighBit k
  high_bit zero l = by_power word 7 128 _ refl (omega (arith, here, small at, byte 1, byte 2, byte 3, byte 4, byte 5, byte 6, byte 7))
  high_bit (suc zero) l = by_power word 15 32768 _ refl (omega (arith, here, small at, byte 1, byte 2, byte 3, byte 4, byte 5, byte 6, byte 7))
  high_bit (suc (suc zero)) l = by_power word 23 8388608 _ refl (omega (arith, here, small at, byte 1, byte 2, byte 3, byte 4, byte 5, byte 6, byte 7))
  high_bit (suc (suc (suc zero))) l = by_power word 31 2147483648 _ refl (omega (arith, here, small at, byte 1, byte 2, byte 3, byte 4, byte 5, byte 6, byte 7))
  high_bit (suc (suc (suc (suc zero)))) l = by_power word 39 549755813888 _ refl (omega (arith, here, small at, byte 1, byte 2, byte 3, byte 4, byte 5, byte 6, byte 7))
  high_bit (suc (suc (suc (suc (suc zero))))) l = by_power word 47 140737488355328 _ refl (omega (arith, here, small at, byte 1, byte 2, byte 3, byte 4, byte 5, byte 6, byte 7))
  high_bit (suc (suc (suc (suc (suc (suc zero)))))) l = by_power word 55 36028797018963968 _ refl (omega (arith, here, small at, byte 1, byte 2, byte 3, byte 4, byte 5, byte 6, byte 7))
  high_bit (suc (suc (suc (suc (suc (suc (suc zero))))))) l = by_power word 63 9223372036854775808 _ refl (omega (arith, here, small at, byte 1, byte 2, byte 3, byte 4, byte 5, byte 6, byte 7))
  high_bit (suc (suc (suc (suc (suc (suc (suc (suc k)))))))) l = absurd (omega (arith, l))

  off : (k : ℕ) → k < 8 → bit_at (turned word) (8 * k + 7) ≡ 0 → ends_varint b (at + k) ≡ false
  off k l e =
      let is = turned_of word k l in
      let bit = high_bit k l in
      le-ltb _ _ (omega (arith, e, is, bit, byte k))

  on : (t : ℕ) → t < 64 → bit_at (turned word) t ≡ 1 → ends_varint b (at + t / 8) ≡ true
  on t l e =
      let seven = turned_high word t l e in
      let back : t ≡ 8 * (t / 8) + 7 = omega (arith, seven) in
      let k : ℕ = t / 8 in
      let near : k < 8 = omega (arith, l) in
      let set : bit_at (turned word) (8 * k + 7) ≡ 1 = ap (bit_at (turned word)) (sym back) ∙ e in
      let is = turned_of word k near in
      let bit = high_bit k near in
      lt-ltb _ _ (omega (arith, set, is, bit))

  -- at the byte of a place, counted from where the eight begin
  off_from : (i : ℕ) → at ≤ i → i < at + 8 → bit_at (turned word) (8 * (i - at) + 7) ≡ 0 → ends_varint b i ≡ false
  off_from i from to e = let back : at + (i - at) ≡ i = omega (arith, from) in ap (ends_varint b) (sym back) ∙ off (i - at) (omega (arith, from, to)) e

  pub last_flags : Flags (ends_varint b) at (turned word)
  last_flags = record {
    none = λ e i from to. off_from i from to (ap (λ (z : ℕ). bit_at z (8 * (i - at) + 7)) e ∙ bit_at-zero (8 * (i - at) + 7));
    lowest = λ some.
        let t : ℕ = trailing_zeros w64 (turned word) in
        let h = bit_at-trailing_zeros w64 (turned word) some (turned_small word) in
        let within : t < 64 = h.0 in
        let seven = turned_high word t within h.1 in (
          omega (arith, within),
          record {
            low = omega arith;
            high = omega (arith, within);
            before = λ i from to. off_from i from (omega (arith, to, within)) (h.2 (8 * (i - at) + 7) (omega (arith, from, to, seven)));
            hit = λ _. on t within h.1;
          },
        );
    highest = λ some.
        let h = leading_top 64 (turned word) some (turned_small word) in
        let j : ℕ = h.0 in
        let sum = h.1 in
        let top : turned word / 2 ^ j ≡ 1 = top_one (turned word) j h.2 h.3 in
        let set : bit_at (turned word) j ≡ 1 = ap (λ (z : ℕ). z % 2) top in
        let within : j < 64 = omega (arith, sum) in
        let seven = turned_high word j within set in (
          omega (arith, sum),
          record {
            low = omega arith;
            high = omega arith;
            after = λ i from to. off_from i (omega (arith, from, sum)) to (bit_at_above (turned word) (suc j) (8 * (i - at) + 7) h.3 (omega (arith, from, to, sum, seven)));
            hit = λ _. let e : at + j / 8 ≡ at + (8 - leading_zeros w64 (turned word) / 8) - 1 = omega (arith, sum, seven) in ap (ends_varint b) (sym e) ∙ on j within set;
          },
        );
  }
