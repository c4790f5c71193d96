-- Digits in escapes (Text Format Language Specification, "String Literals").
use Rattle.std.specs.Prelude.{ℕ, zero, suc, ◌+◌, ◌*◌, List, [], ◌∷◌, if◌then◌else◌, Option, Some, None}
use Rattle.std.specs.Char.{digit_value, is_digit}

-- what a digit of the base counts
abbrev pub digit_of : ℕ → ℕ → Option ℕ
digit_of base c = if is_digit c base then Some (digit_value c) else None

-- the digits at the start, at most this many: how many they are, and their number after the digits of n
abbrev pub number_from : ℕ → ℕ → ℕ → List ℕ → ℕ × ℕ
number_from base n zero bs = (0, n)
number_from base n (suc k) [] = (0, n)
number_from base n (suc k) (c ∷ cs) = on_digit base n (digit_of base c) (λ m. number_from base m k cs)
  where
    on_digit : ℕ → ℕ → Option ℕ → (ℕ → ℕ × ℕ) → ℕ × ℕ
    on_digit base n None f = (0, n)
    on_digit base n (Some d) f = (suc (f (n * base + d)).0, (f (n * base + d)).1)
