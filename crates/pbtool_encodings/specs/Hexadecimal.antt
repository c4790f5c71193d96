-- Bytes as hexadecimal: two digits for each byte (RFC 4648, section 8, in capitals or not), and blanks before, between and after them.
use Rattle.std.specs.Prelude.{ℕ, ◌≡◌, ⊤, ◌+◌, ◌*◌, List, [], ◌∷◌, ◌++◌, Option, Some, None, Result, Ok, Err, Vec, if◌then◌else◌}
use Rattle.std.specs.declared.alloc.Global.{Global}
use Rattle.hex.specs.Hex.{hex_digit_value}
use Rattle.pbtool_encodings.specs.Blanks.{is_blank}
use Rattle.pbtool_encodings.specs.declared.encoding.DecodeError.{DecodeError}
use Rattle.pbtool_encodings.specs.declared.encoding.DecodeError.TheVariants.{At, Memory}

-- bytes after others, or the number of the byte of the text where they end, after others that were passed
abbrev pub after : List ℕ → ℕ → Result (List ℕ) ℕ → Result (List ℕ) ℕ
after bytes passed (Ok more) = Ok (bytes ++ more)
after bytes passed (Err byte) = Err (passed + byte)

-- a text that begins with two bytes, by their values as digits and by what the rest is
abbrev pub with_pair : Option ℕ → Option ℕ → Result (List ℕ) ℕ → Result (List ℕ) ℕ
with_pair (Some high) (Some low) rest = after ((high * 16 + low) ∷ []) 2 rest
with_pair (Some high) None rest = Err 1
with_pair None low rest = Err 0

-- the last byte of a text
abbrev pub alone : Option ℕ → Result (List ℕ) ℕ
alone (Some high) = Err 1
alone None = Err 0

-- the bytes of a text; or which byte of the text is none of their digits, where the first has the number 0 and the end that of the length
abbrev pub hexadecimal : List ℕ → Result (List ℕ) ℕ
hexadecimal [] = Ok []
hexadecimal (c ∷ []) = if is_blank c then Ok [] else alone (hex_digit_value c)
hexadecimal (c ∷ d ∷ text) =
    let skipped = after [] 1 (hexadecimal (d ∷ text)) in
    let paired = with_pair (hex_digit_value c) (hex_digit_value d) (hexadecimal text) in
    if is_blank c then skipped else paired

-- what a text is, is what was read, unless memory ran out
abbrev pub IsReadAs : Result (List ℕ) ℕ → Result (Vec ℕ Global) DecodeError → Type 0
IsReadAs text (Ok v) = text ≡ Ok v.items
IsReadAs text (Err (At byte)) = text ≡ Err byte
IsReadAs text (Err Memory) = ⊤
