-- Strings and their escapes (Text Format Language Specification, "String Literals").
use Rattle.std.specs.Prelude.{◌≡◌, ℕ, zero, suc, ◌+◌, ◌-◌, ◌*◌, ◌%◌, ◌<◌, ◌≤◌, List, [], ◌∷◌, ◌++◌, length, drop, Bool, ◌&&◌, ◌||◌}
use Rattle.std.specs.Prelude.{◌==◌, if◌then◌else◌, nat_lt, Option, Some, None, Result, Ok, Err, encode_utf8}
use Rattle.pb_text_tokens.specs.Digits.{number_from}
use Rattle.pb_text_tokens.specs.declared.escape.Escape.{Escape}
use Rattle.pb_text_tokens.specs.declared.escape.Meant.{Meant}
use Rattle.pb_text_tokens.specs.declared.escape.Meant.TheVariants.{Byte, Character}
use Rattle.pb_text_tokens.specs.declared.fault.TokenCause.{TokenCause}
use Rattle.pb_text_tokens.specs.declared.fault.TokenCause.TheVariants as cause
use Rattle.pb_text_tokens.specs.declared.lexing.PieceFault.{PieceFault}
use Rattle.pb_text_tokens.specs.declared.strings.Step.{Step}
use Rattle.pb_text_tokens.specs.declared.strings.Step.TheVariants.{Close, Pass, Stop}

-- ESCAPES, by what follows their `\`

-- "\a" | "\b" | "\f" | "\n" | "\r" | "\t" | "\v" | "\?" | "\\" | "\'" | "\""
abbrev pub short_escape : ℕ → Option ℕ
short_escape c =
    if c == 97 then Some 7 else if c == 98 then Some 8 else if c == 102 then Some 12 else if c == 110 then Some 10 else if c == 114 then Some 13
    else if c == 116 then Some 9 else if c == 118 then Some 11 else if c == 92 || c == 39 || c == 34 || c == 63 then Some c else None

abbrev pub is_scalar : ℕ → Bool
is_scalar n = nat_lt n 55296 || (nat_lt 57343 n && nat_lt n 1114112)

abbrev pub escape : ℕ → Meant → Escape
escape n m = record { len = n; meant = m }

-- "\x", hex, [ hex ]
abbrev pub hexadecimal_by : ℕ × ℕ → Option Escape
hexadecimal_by found = if found.0 == 0 then None else Some (escape (1 + found.0) (Byte (found.1 % 256)))

abbrev pub hexadecimal_of : List ℕ → Option Escape
hexadecimal_of cs = hexadecimal_by (number_from 16 0 2 cs)

-- "\", oct, [ oct, [ oct ] ]: of a number above 255 the low eight bits
abbrev pub octal_by : ℕ × ℕ → Option Escape
octal_by found = if found.0 == 0 then None else Some (escape found.0 (Byte (found.1 % 256)))

abbrev pub octal_of : List ℕ → Option Escape
octal_of cs = octal_by (number_from 8 0 3 cs)

-- A character beyond 16 bits may be two surrogates, the second as "\u", hex, hex, hex, hex.
abbrev pub low_by : ℕ × ℕ → Option ℕ
low_by found = if found.0 == 4 && (nat_lt 56319 found.1 && nat_lt found.1 57344) then Some found.1 else None

abbrev pub low_at : List ℕ → Option ℕ
low_at [] = None
low_at (a ∷ []) = None
low_at (a ∷ b ∷ cs) = if a == 92 && b == 117 then low_by (number_from 16 0 4 cs) else None

abbrev pub surrogates : ℕ → ℕ → ℕ
surrogates high low = 65536 + (high - 55296) * 1024 + (low - 56320)

abbrev pub pair_by : ℕ → ℕ → Option ℕ → Option Escape
pair_by n high None = None
pair_by n high (Some low) = Some (escape (n + 6) (Character (surrogates high low)))

abbrev pub pair_of : ℕ → ℕ → List ℕ → Option Escape
pair_of n high rest = if nat_lt high 55296 || nat_lt 56319 high then None else pair_by n high (low_at rest)

-- "\u", hex, hex, hex, hex, and "\U" with eight: a scalar value of Unicode, or the first of two surrogates
abbrev pub unicode_by : ℕ → List ℕ → ℕ × ℕ → Option Escape
unicode_by k cs found =
    if found.0 == k
    then (if is_scalar found.1 then Some (escape (1 + k) (Character found.1)) else pair_of (1 + k) found.1 (drop k cs))
    else None

abbrev pub unicode_of : ℕ → List ℕ → Option Escape
unicode_of k cs = unicode_by k cs (number_from 16 0 k cs)

abbrev pub letter_escape : Option ℕ → Option Escape → Option Escape
letter_escape (Some v) other = Some (escape 1 (Byte v))
letter_escape None other = other

-- the escape at the start of the bytes after a `\`
abbrev pub escape_of : List ℕ → Option Escape
escape_of [] = None
escape_of (c ∷ cs) =
    letter_escape (short_escape c)
    (if c == 120 then hexadecimal_of cs
    else if c == 117 then unicode_of 4 cs
    else if c == 85 then unicode_of 8 cs
    else octal_of (c ∷ cs))

-- what an escape means, in bytes
abbrev pub bytes_of : Meant → List ℕ
bytes_of (Byte b) = b ∷ []
bytes_of (Character n) = if is_scalar n then encode_utf8 n else []

-- STRINGS

abbrev pub escape_step : Option Escape → Step
escape_step (Some e) = Pass (1 + e.len)
escape_step None = Stop cause.BadEscape

-- What a string with this quote has at the start of the bytes: any byte but its quote, `\`, a line feed and NUL is itself.
abbrev pub step_at : ℕ → List ℕ → Step
step_at quote [] = Stop cause.OpenString
step_at quote (c ∷ cs) =
    if c == quote then Close
    else if c == 92 then escape_step (escape_of cs)
    else if c == 10 then Stop cause.OpenString
    else if c == 0 then Stop cause.UnexpectedByte
    else Pass 1

-- a step is within the bytes
abbrev pub IsWithin : List ℕ → Step → Type 0
IsWithin bs Close = 0 < length bs
IsWithin bs (Pass n) = (0 < n) × (n ≤ length bs)
IsWithin bs (Stop c) = Unit {0}

-- the same from this many bytes before
abbrev pub later : ℕ → Result ℕ PieceFault → Result ℕ PieceFault
later n (Ok m) = Ok (n + m)
later n (Err e) = Err (record { offset = n + e.offset; cause = e.cause })

abbrev pub stopped : TokenCause → Result ℕ PieceFault
stopped c = Err (record { offset = 0; cause = c })

-- after the first quote: how many bytes go on the string up to its closing quote, or how many before its fault, and the cause
pub data Inside (quote : ℕ) : List ℕ → Result ℕ PieceFault → Type 0 where
  closes : {bs : List ℕ} → step_at quote bs ≡ Close → Inside quote bs (Ok 1)
  passes : {n : ℕ} {bs : List ℕ} {o r : Result ℕ PieceFault} → step_at quote bs ≡ Pass n → Inside quote (drop n bs) o → r ≡ later n o → Inside quote bs r
  stops : {c : TokenCause} {bs : List ℕ} {r : Result ℕ PieceFault} → step_at quote bs ≡ Stop c → r ≡ stopped c → Inside quote bs r

-- WHAT STRINGS MEAN

abbrev pub escaped_meaning : Option Escape → List ℕ
escaped_meaning None = []
escaped_meaning (Some e) = bytes_of e.meant

-- what the character or the escape at the start means
abbrev pub unit_meaning : List ℕ → List ℕ
unit_meaning [] = []
unit_meaning (c ∷ cs) = if c == 92 then escaped_meaning (escape_of cs) else c ∷ []

-- what the characters and escapes mean up to the closing quote, where this many bytes go on one that is counted
abbrev pub meant_from : ℕ → ℕ → List ℕ → List ℕ
meant_from quote k [] = []
meant_from quote (suc k) (c ∷ cs) = meant_from quote k cs
meant_from quote zero (c ∷ cs) = on_step (step_at quote (c ∷ cs)) (unit_meaning (c ∷ cs)) (λ n. meant_from quote n cs)
  where
    on_step : Step → List ℕ → (ℕ → List ℕ) → List ℕ
    on_step Close unit f = []
    on_step (Stop c) unit f = []
    on_step (Pass n) unit f = unit ++ f (n - 1)

-- the bytes that a string means, by those that it has
abbrev pub string_meaning : List ℕ → List ℕ
string_meaning [] = []
string_meaning (quote ∷ cs) = meant_from quote 0 cs
