-- Texts that have the bytes of a message.
use Rattle.std.specs.Prelude.{ℕ, ◌≡◌, ◌⊎◌, ◌<◌, ◌≤◌, ⊤, List, length, Option, Some, None, Result, Ok, Err}
use Rattle.pb_wire.specs.Limits.{full}
use Rattle.pbtool_encodings.specs.Base64Text.{base64_text}
use Rattle.pbtool_encodings.specs.Hexadecimal.{hexadecimal}
use Rattle.pbtool_encodings.specs.declared.encoding.BadText.{BadText}
use Rattle.pbtool_encodings.specs.declared.encoding.Encoding.{Encoding}
use Rattle.pbtool_encodings.specs.declared.encoding.Encoding.TheVariants.{Base64, Hexadecimal}
use Rattle.pbtool_encodings.specs.declared.encoding.TextCause.TheVariants.{BadDigit, InputTooLarge}

-- the bytes whose digits a text has, or where it has none
abbrev pub digits_of : Encoding → List ℕ → Result (List ℕ) ℕ
digits_of Hexadecimal text = hexadecimal text
digits_of Base64 text = base64_text text

-- the text has these bytes
abbrev pub HasBytes : Encoding → List ℕ → List ℕ → Type 0
HasBytes encoding text bytes = (length text ≤ full.bytes) × (digits_of encoding text ≡ Ok bytes)

-- the text is refused so: it is longer than an input may be, or has a byte that is no digit
abbrev pub IsRefusedText : Encoding → List ℕ → BadText → Type 0
IsRefusedText encoding text bad =
    ((full.bytes < length text) × (bad ≡ record { byte = full.bytes; cause = InputTooLarge }))
    ⊎ ((length text ≤ full.bytes) × (digits_of encoding text ≡ Err bad.byte) × (bad.cause ≡ BadDigit))

-- the same, unless memory ran out
abbrev pub IsNoText : Encoding → List ℕ → Option BadText → Type 0
IsNoText encoding text (Some bad) = IsRefusedText encoding text bad
IsNoText encoding text None = ⊤
