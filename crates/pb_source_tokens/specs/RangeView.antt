-- Ranges by where they are declared.
use Rattle.std.specs.Prelude.{◌≡◌, ℕ, ℤ, pos, codes}
use Rattle.pb_source_tokens.specs.Phrases.{end_behind}
use Rattle.pb_source_tokens.specs.Readers.Forms.{Reader, choice, mapped, is_keyword, keyword_reader}
use Rattle.pb_source_tokens.specs.Readers.Phrases.{counted_reader, signed_reader, range_reader}
use Rattle.pb_source_tokens.specs.declared.parsing.ranges.Within.{Within}
use Rattle.pb_source_tokens.specs.declared.parsing.ranges.Within.TheVariants.{Message, Enum}

abbrev pub bound_within : Within → Reader ℤ
bound_within Message = mapped pos counted_reader
bound_within Enum = signed_reader

abbrev pub end_within : Within → ℤ → ℤ
end_within Message z = end_behind z
end_within Enum z = z

abbrev pub greatest_within : Within → ℤ
greatest_within Message = pos 536870912
greatest_within Enum = pos 2147483647

-- what follows `to`
abbrev pub last_reader : Within → Reader ℤ
last_reader within =
    choice (is_keyword (codes "max"))
    (mapped (λ _. greatest_within within) (keyword_reader (codes "max")))
    (mapped (end_within within) (bound_within within))

abbrev pub range_within : Within → Reader (ℤ × ℤ)
range_within within = range_reader (bound_within within) (end_within within) (greatest_within within)

-- a bound of a message is not negative
abbrev pub HasSign : Within → ℤ → Type 0
HasSign Message z = (n : ℕ) × (z ≡ pos n)
HasSign Enum z = Unit {0}
