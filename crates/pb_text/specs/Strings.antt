-- Strings of the text format ("String Values"): bytes between quotes, some after a backslash, by a letter or by three octal digits.
use Rattle.std.specs.Prelude.{ℕ, ◌+◌, ◌/◌, ◌%◌, List, [], ◌∷◌, ◌++◌, Bool, ◌==◌, ◌||◌, ◌&&◌, not, nat_lt, Option, Some, None, codes, if◌then◌else◌}
use Rattle.std.specs.List.{flat_map}
use Rattle.pb_text.specs.declared.form.Characters.{Characters}
use Rattle.pb_text.specs.declared.form.Characters.TheVariants.{Escaped, Utf8}

-- the letter after the backslash: of a line feed, a carriage return, a tab, the quotes and the backslash
abbrev pub escape_letter : ℕ → Option ℕ
escape_letter b =
    if b == 10 then Some 110 else if b == 13 then Some 114 else if b == 9 then Some 116 else if b == 34 || b == 39 || b == 92 then Some b else None

-- of the other bytes, those that are written as they are: printed ASCII, and all from 128 on if strings are written in UTF-8
abbrev pub is_plain : Characters → ℕ → Bool
is_plain Escaped b = not (nat_lt b 32) && nat_lt b 127
is_plain Utf8 b = not (nat_lt b 32) && not (b == 127)

abbrev pub octal : ℕ → List ℕ
octal b = 92 ∷ (48 + b / 64) ∷ (48 + b / 8 % 8) ∷ (48 + b % 8) ∷ []

abbrev pub escaped_or : Option ℕ → List ℕ → List ℕ
escaped_or None other = other
escaped_or (Some letter) other = 92 ∷ letter ∷ []

abbrev pub string_byte : Characters → ℕ → List ℕ
string_byte characters b = escaped_or (escape_letter b) (if is_plain characters b then b ∷ [] else octal b)

abbrev pub quoted : Characters → List ℕ → List ℕ
quoted characters s = codes "\"" ++ flat_map (string_byte characters) s ++ codes "\""

abbrev pub escaped : List ℕ → List ℕ
escaped s = quoted Escaped s
