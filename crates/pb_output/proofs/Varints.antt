-- The shortest varints of short numbers, byte by byte.
use Rattle.std.proofs.Common.{◌≡◌, ℕ, ◌+◌, ◌/◌, ◌%◌, ◌<◌, ◌≤◌, [], ◌∷◌, arith, refl}
use Rattle.pb_wire.proofs.VarintLemmas.{shortest-last, shortest-more}
use Rattle.pb_wire.specs.Varint.{shortest}

pub shortest_two : (n : ℕ) → 128 ≤ n → n < 16384 → shortest n ≡ (n % 128 + 128) ∷ (n / 128) ∷ []
shortest_two n low high = rw (shortest-more n low, shortest-last (n / 128) (omega arith))

pub shortest_three : (n : ℕ) → 16384 ≤ n → n < 2097152 → shortest n ≡ (n % 128 + 128) ∷ (n / 128 % 128 + 128) ∷ (n / 16384) ∷ []
shortest_three n low high =
    let same : n / 128 / 128 ≡ n / 16384 = omega arith in
    rw (shortest-more n (omega arith), shortest_two (n / 128) (omega arith) (omega arith), same) refl
