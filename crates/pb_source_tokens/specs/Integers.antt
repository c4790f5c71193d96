-- The integers that number words spell (Protocol Buffers Language Specification (Proto3), "Integer literals").
use Rattle.std.specs.Prelude.{ℕ, List, [], ◌∷◌, ◌||◌, ◌==◌, if◌then◌else◌, Option, Some, None}
use Rattle.std.specs.List.{list_all}
use Rattle.std.specs.Char.{is_digit}
use Rattle.std.specs.Str.Parse.{digits_value}

-- the number of one or more digits of the base, and nothing else
abbrev pub number_in : ℕ → List ℕ → Option ℕ
number_in base [] = None
number_in base (d ∷ ds) = if list_all (λ c. is_digit c base) (d ∷ ds) then Some (digits_value base (d ∷ ds)) else None

-- the integer of a number word: `0`, or decimal digits without a leading 0, or octal ones after a 0, or hexadecimal ones after `0x` or `0X`
abbrev pub integer_of : List ℕ → Option ℕ
integer_of [] = None
integer_of (c ∷ []) = number_in 10 (c ∷ [])
integer_of (c ∷ d ∷ cs) =
    if c == 48
    then (if d == 120 || d == 88 then number_in 16 cs else number_in 8 (d ∷ cs))
    else number_in 10 (c ∷ d ∷ cs)
