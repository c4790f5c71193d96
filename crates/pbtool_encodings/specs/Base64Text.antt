-- Bytes as base64 (RFC 4648), with blanks, as line ends are, that are passed over.
use Rattle.std.specs.Prelude.{ℕ, ◌||◌, Bool, List, Option, Some, None, Result, Ok, Err, not, is_some}
use Rattle.std.specs.List.{filter, prefix_len}
use Rattle.pb_json_scalars.specs.Base64.{base64_bytes, symbol}
use Rattle.pbtool_encodings.specs.Blanks.{is_blank}

-- a digit of either alphabet, or a blank
abbrev pub fits : ℕ → Bool
fits c = is_blank c || is_some (symbol c)

-- bytes, or else a number
abbrev pub or_at : ℕ → Option (List ℕ) → Result (List ℕ) ℕ
or_at byte (Some bytes) = Ok bytes
or_at byte None = Err byte

-- The bytes that a text encodes; or the number of its first byte that is no digit and no blank, from 0, as also that of padding in a wrong place. It is
-- the length where all are digits and blanks, and the text ends within a group.
abbrev pub base64_text : List ℕ → Result (List ℕ) ℕ
base64_text text = or_at (prefix_len fits text) (base64_bytes (filter (λ c. not (is_blank c)) text))
