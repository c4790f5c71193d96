-- Numbers as varints: seven bits a byte, lowest first (encoding guide, "Base 128 Varints").
use Rattle.std.specs.Prelude.{◌≡◌, ℕ, zero, suc, ◌+◌, ◌*◌, ◌/◌, ◌%◌, ◌^◌, ◌<◌, ◌≤◌, List, [], ◌∷◌, length, if◌then◌else◌, nat_lt}

-- the number whose seven-bit groups these are, the lowest first
abbrev pub groups_value : List ℕ → ℕ
groups_value [] = 0
groups_value (b ∷ bs) = b % 128 + 128 * groups_value bs

-- there is a byte, and only the last is below 128
abbrev pub EndsOnce : List ℕ → Type 0
EndsOnce [] = ⊥
EndsOnce (b ∷ []) = b < 128
EndsOnce (b ∷ c ∷ bs) = (128 ≤ b) × EndsOnce (c ∷ bs)

-- b is an encoding of n. Overlong ones are accepted, and the value is the sum modulo 2 ^ 64.
pub record IsVarint (n : ℕ) (b : List ℕ) : Type 0 where
  pub size : length b ≤ 10
  pub ends : EndsOnce b
  pub value : groups_value b % 2 ^ 64 ≡ n

-- the shortest encoding, of at most this many bytes and one
unfoldable pub shortest_within : ℕ → ℕ → List ℕ
shortest_within zero n = n ∷ []
shortest_within (suc k) n = let longer = (n % 128 + 128) ∷ shortest_within k (n / 128) in if nat_lt n 128 then n ∷ [] else longer

-- the shortest encoding
unfoldable pub shortest : ℕ → List ℕ
shortest n = shortest_within n n
