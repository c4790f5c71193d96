-- How texts are cut into words, and the numbers that they write.
use Prim.Native.String.{String}
use Rattle.std.specs.Prelude.{ℕ, ℤ, pos, negsuc, ◌-◌, ◌^◌, ◌==◌, ◌&&◌, nat_lt, Bool, if◌then◌else◌, Option, Some, None}
use Rattle.std.specs.Prelude.{List, [], ◌∷◌, length, slice_index, codes}
use Rattle.std.specs.Option.{option_and_then}
use Rattle.std.specs.List.{position_or_len, before_first, after_first, slice_split}
use Rattle.std.specs.Str.{all_ascii_digits}
use Rattle.std.specs.Str.Parse.{digits_value, signed_digits_value, without_leading_plus, without_leading_sign}

-- one step, and another of what it gave
infixl 10 ◌>>=◌
abbrev pub ◌>>=◌ : {A B : Type 0} → Option A → (A → Option B) → Option B
o >>= f = option_and_then f o

-- a step by each word in turn, from s on
abbrev pub in_turn : {S : Type 0} → (S → List ℕ → Option S) → S → List (List ℕ) → Option S
in_turn step s [] = Some s
in_turn step s (w ∷ ws) = step s w >>= (λ t. in_turn step t ws)

-- the code of a text's first letter
abbrev pub letter : String → ℕ
letter s = slice_index (codes s) 0

-- the ASCII character that a string begins with, and what follows it
abbrev pub lettered : List ℕ → Option (ℕ × List ℕ)
lettered [] = None
lettered (c ∷ rest) = if nat_lt c 128 then Some (c, rest) else None

-- the parts before and after the first c
abbrev pub halves : ℕ → List ℕ → Option (List ℕ × List ℕ)
halves c t = if nat_lt (position_or_len (λ b. b == c) t) (length t) then Some (before_first (λ b. b == c) t, after_first (λ b. b == c) t) else None

-- the parts between one c and the next
abbrev pub parts : ℕ → List ℕ → List (List ℕ)
parts c t = slice_split (λ b. b == c) t

abbrev pub is_numeral : List ℕ → Bool
is_numeral ds = nat_lt 0 (length ds) && all_ascii_digits ds

-- the number below 2 ^ bits that a string gives in decimal, maybe after a plus
abbrev pub natural : ℕ → List ℕ → Option ℕ
natural bits t =
    if is_numeral (without_leading_plus t) && nat_lt (digits_value 10 (without_leading_plus t)) (2 ^ bits)
    then Some (digits_value 10 (without_leading_plus t))
    else None

-- this number of bits holds the number in two's complement
abbrev pub fits_signed : ℕ → ℤ → Bool
fits_signed bits (pos n) = nat_lt n (2 ^ (bits - 1))
fits_signed bits (negsuc n) = nat_lt n (2 ^ (bits - 1))

-- the number in two's complement of this many bits that a string gives in decimal, maybe after a sign
abbrev pub integer : ℕ → List ℕ → Option ℤ
integer bits t =
    if is_numeral (without_leading_sign t) && fits_signed bits (signed_digits_value 10 t) then Some (signed_digits_value 10 t) else None

-- the words of a row that is left, if there is one
abbrev pub rest_parts : ℕ → Option (List ℕ) → List (List ℕ)
rest_parts c None = []
rest_parts c (Some t) = parts c t
