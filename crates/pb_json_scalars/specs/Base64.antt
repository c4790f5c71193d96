-- Bytes as base64 (RFC 4648, sections 4 and 5), in either alphabet, with padding or without it (ProtoJSON format, "JSON representation").
use Rattle.std.specs.Prelude.{ℕ, ◌+◌, ◌-◌, ◌*◌, ◌/◌, ◌%◌, Bool, ◌&&◌, ◌||◌, ◌==◌, List, [], ◌∷◌, ◌++◌, length, take, slice_index, Option, Some, None, option_map, option_and_then, if◌then◌else◌}
use Rattle.std.specs.Char.{is_ascii_digit, is_ascii_lowercase, is_ascii_uppercase}

-- The number of a character: A to Z, a to z, 0 to 9, and two more, which are + and /, or - and _ in the alphabet for URLs.
abbrev pub symbol : ℕ → Option ℕ
symbol c =
    if is_ascii_uppercase c then Some (c - 65) else if is_ascii_lowercase c then Some (c - 71) else if is_ascii_digit c then Some (c + 4)
    else if (c == 43) || (c == 45) then Some 62 else if (c == 47) || (c == 95) then Some 63 else None

-- what two, three and four numbers of six bits are as bytes; bits that are left over are not read
abbrev pub one_byte : ℕ → ℕ → List ℕ
one_byte a b = (a * 4 + b / 16) ∷ []

abbrev pub two_bytes : ℕ → ℕ → ℕ → List ℕ
two_bytes a b c = (a * 4 + b / 16) ∷ (b % 16 * 16 + c / 4) ∷ []

abbrev pub three_bytes : ℕ → ℕ → ℕ → ℕ → List ℕ
three_bytes a b c d = (a * 4 + b / 16) ∷ (b % 16 * 16 + c / 4) ∷ (c % 4 * 64 + d) ∷ []

-- the same, where each is the number of a character
abbrev pub of_two : Option ℕ → Option ℕ → Option (List ℕ)
of_two (Some a) (Some b) = Some (one_byte a b)
of_two a b = None

abbrev pub of_three : Option ℕ → Option ℕ → Option ℕ → Option (List ℕ)
of_three (Some a) (Some b) (Some c) = Some (two_bytes a b c)
of_three a b c = None

abbrev pub of_four : Option ℕ → Option ℕ → Option ℕ → Option ℕ → Option (List ℕ)
of_four (Some a) (Some b) (Some c) (Some d) = Some (three_bytes a b c d)
of_four a b c d = None

abbrev pub joined : Option (List ℕ) → Option (List ℕ) → Option (List ℕ)
joined first rest = option_and_then (λ x. option_map (λ y. x ++ y) rest) first

-- characters without padding, four at a time; one alone at the end is no base64
abbrev pub bytes_of : List ℕ → Option (List ℕ)
bytes_of [] = Some []
bytes_of (a ∷ []) = None
bytes_of (a ∷ b ∷ []) = of_two (symbol a) (symbol b)
bytes_of (a ∷ b ∷ c ∷ []) = of_three (symbol a) (symbol b) (symbol c)
bytes_of (a ∷ b ∷ c ∷ d ∷ rest) = joined (of_four (symbol a) (symbol b) (symbol c) (symbol d)) (bytes_of rest)

-- whether the character so far from the end is =
abbrev pub pads_at : ℕ → List ℕ → Bool
pads_at k s = slice_index s (length s - k) == 61

-- one or two = at the end, where they make the length a multiple of four
abbrev pub padding : List ℕ → ℕ
padding s = if (length s % 4 == 0) && pads_at 1 s then (if pads_at 2 s then 2 else 1) else 0

abbrev pub without_padding : List ℕ → List ℕ
without_padding s = take (length s - padding s) s

-- the bytes that characters encode
abbrev pub base64_bytes : List ℕ → Option (List ℕ)
base64_bytes s = bytes_of (without_padding s)
