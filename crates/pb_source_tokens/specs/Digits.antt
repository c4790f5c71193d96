-- Integers as the code counts them.
use Rattle.std.specs.Prelude.{ℕ, ◌^◌, min, List, if◌then◌else◌, Option, Some, None}
use Rattle.std.specs.List.{list_all}
use Rattle.std.specs.Char.{is_digit}
use Rattle.std.specs.Str.Parse.{digits_value}

-- 2^32 where the number is above it
abbrev pub capped : ℕ → ℕ
capped n = min n (2 ^ 32)

-- the number of digits of the base, and nothing else
abbrev pub digits_of : ℕ → List ℕ → Option ℕ
digits_of base ds = if list_all (λ c. is_digit c base) ds then Some (digits_value base ds) else None
