-- What is between the braces of an aggregate: any symbols, with balanced brackets (Protocol Buffers Text Format Language Specification, "Fields").
use Rattle.std.specs.Prelude.{◌≡◌, ℕ, List, [], ◌∷◌, ◌++◌, codes, Bool, true, false, if◌then◌else◌}
use Rattle.std.specs.Str.{bytes_eq}
use Rattle.pb_source_tokens.specs.declared.bracket.Bracket.{Bracket}
use Rattle.pb_source_tokens.specs.declared.bracket.Bracket.TheVariants.{Curly, Square, Angle}
use Rattle.pb_source_tokens.specs.declared.bracket.Role.{Role}
use Rattle.pb_source_tokens.specs.declared.bracket.Role.TheVariants.{Plain, Opens, Closes}
use Rattle.pb_source_tokens.specs.Symbols.{Symbol, word, number, text, sign}
use Rattle.pb_source_tokens.specs.Language.{Language, ◌▸◌, one}

abbrev pub role_in : List (List ℕ × Role) → List ℕ → Role
role_in [] c = Plain
role_in (e ∷ es) c = if bytes_eq c e.0 then e.1 else role_in es c

abbrev pub brackets : List (List ℕ × Role)
brackets =
    (codes "{", Opens Curly) ∷ (codes "}", Closes Curly) ∷ (codes "[", Opens Square) ∷ (codes "]", Closes Square)
    ∷ (codes "<", Opens Angle) ∷ (codes ">", Closes Angle) ∷ []

-- what a symbol does: only signs are brackets
abbrev pub role_of : Symbol → Role
role_of (sign c) = role_in brackets c
role_of (word w) = Plain
role_of (number w) = Plain
role_of (text b) = Plain

abbrev pub same_bracket : Bracket → Bracket → Bool
same_bracket Curly Curly = true
same_bracket Curly Square = false
same_bracket Curly Angle = false
same_bracket Square Curly = false
same_bracket Square Square = true
same_bracket Square Angle = false
same_bracket Angle Curly = false
same_bracket Angle Square = false
same_bracket Angle Angle = true

-- the sign that closes a bracket
abbrev pub closing : Bracket → Language
closing b ts = (s : Symbol) × (role_of s ≡ Closes b) × one s ts

-- symbols of which each bracket is closed, by a sign of its kind, before those around it are
pub data Balanced : List Symbol → Type 0 where
  none : Balanced []
  plain : {s : Symbol} {ts : List Symbol} → role_of s ≡ Plain → Balanced ts → Balanced (s ∷ ts)
  nested :
      {s : Symbol} {b : Bracket} {inside close ts all : List Symbol} → role_of s ≡ Opens b → Balanced inside → closing b close → Balanced ts
      → all ≡ s ∷ (inside ++ (close ++ ts)) → Balanced all
