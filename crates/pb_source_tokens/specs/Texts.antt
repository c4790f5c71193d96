-- How far texts and their escapes go, and what they mean: what the rules of `Tokens` leave no choice about.
use Rattle.std.specs.Prelude.{ℕ, zero, suc, ◌+◌, ◌*◌, ◌%◌, List, [], ◌∷◌, ◌++◌, Bool, not, ◌&&◌, ◌||◌}
use Rattle.std.specs.Prelude.{◌==◌, if◌then◌else◌, Option, Some, None, nat_lt, is_some, encode_utf8}
use Rattle.std.specs.Char.{digit_value, is_digit}
use Rattle.pb_source_tokens.specs.Tokens.{short_escape, is_plain}

-- what a digit of the base counts
abbrev pub digit_of : ℕ → ℕ → Option ℕ
digit_of base c = if is_digit c base then Some (digit_value c) else None

-- the digits at the front, at most this many: how many they are, and their number after the digits of n
abbrev pub number_from : ℕ → ℕ → ℕ → List ℕ → ℕ × ℕ
number_from base n zero bs = (0, n)
number_from base n (suc k) [] = (0, n)
number_from base n (suc k) (c ∷ cs) = on_digit base n (digit_of base c) (λ m. number_from base m k cs)
  where
    on_digit : ℕ → ℕ → Option ℕ → (ℕ → ℕ × ℕ) → ℕ × ℕ
    on_digit base n None f = (0, n)
    on_digit base n (Some d) f = (suc (f (n * base + d)).0, (f (n * base + d)).1)

abbrev pub is_scalar : ℕ → Bool
is_scalar n = nat_lt n 55296 || (nat_lt 57343 n && nat_lt n 1114112)

-- one more than n, where n is some
abbrev pub one_more : ℕ → ℕ
one_more n = if n == 0 then 0 else suc n

abbrev pub unicode_len : ℕ → ℕ × ℕ → ℕ
unicode_len k found = if found.0 == k && is_scalar found.1 then suc k else 0

-- how many bytes after a `\` make an escape with it; 0 where there is none
abbrev pub escape_len : List ℕ → ℕ
escape_len [] = 0
escape_len (c ∷ cs) =
    if is_some (short_escape c) then 1
    else (if c == 120 || c == 88 then one_more (number_from 16 0 2 cs).0
    else (if c == 117 then unicode_len 4 (number_from 16 0 4 cs)
    else (if c == 85 then unicode_len 8 (number_from 16 0 8 cs)
    else (number_from 8 0 3 (c ∷ cs)).0)))

-- how many bytes at the front are whole units of a text, where this many of them go on one that has begun
abbrev pub units_from : ℕ → ℕ → List ℕ → ℕ
units_from quote k [] = 0
units_from quote (suc k) (c ∷ cs) = suc (units_from quote k cs)
units_from quote zero (c ∷ cs) =
    if is_plain quote c then suc (units_from quote 0 cs) else (if c == 92 && not (escape_len cs == 0) then suc (units_from quote (escape_len cs) cs) else 0)

abbrev pub units_len : ℕ → List ℕ → ℕ
units_len quote bs = units_from quote 0 bs

abbrev pub or_nothing : Option ℕ → List ℕ
or_nothing None = []
or_nothing (Some v) = v ∷ []

-- the bytes that an escape means, by those after its `\`
abbrev pub escape_meaning : List ℕ → List ℕ
escape_meaning [] = []
escape_meaning (c ∷ cs) =
    if is_some (short_escape c) then or_nothing (short_escape c)
    else (if c == 120 || c == 88 then (number_from 16 0 2 cs).1 ∷ []
    else (if c == 117 then encode_utf8 (number_from 16 0 4 cs).1
    else (if c == 85 then encode_utf8 (number_from 16 0 8 cs).1
    else (number_from 8 0 3 (c ∷ cs)).1 % 256 ∷ [])))

-- the bytes that the units at the front mean, where this many bytes go on one that has been counted
abbrev pub meant_from : ℕ → ℕ → List ℕ → List ℕ
meant_from quote k [] = []
meant_from quote (suc k) (c ∷ cs) = meant_from quote k cs
meant_from quote zero (c ∷ cs) =
    if is_plain quote c then c ∷ meant_from quote 0 cs
    else if c == 92 && not (escape_len cs == 0) then escape_meaning cs ++ meant_from quote (escape_len cs) cs
    else []

-- the bytes that a text means, by those that it has
abbrev pub text_meaning : List ℕ → List ℕ
text_meaning [] = []
text_meaning (quote ∷ cs) = meant_from quote 0 cs
