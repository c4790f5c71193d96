-- Where a byte of a source is, by line and column.
use Rattle.std.specs.Prelude.{◌≡◌, ◌≢◌, ◌⊎◌, ℕ, ◌+◌, ◌≤◌, ◌==◌, ◌||◌, nat_lt, nat_le}
use Rattle.std.specs.Prelude.{List, [], ◌∷◌, ◌++◌, Bool, true, false, codes, decimal, drop, filter, flat_map, length, take, if◌then◌else◌}
use Rattle.std.specs.List.{AllByRecursion}

-- how many line feeds there are
abbrev pub feeds : List ℕ → ℕ
feeds bytes = length (filter (λ b. b == 10) bytes)

-- the last line of these bytes begins at the index: after a line feed, or first, and none is after it
pub record IsLineStart (bytes : List ℕ) (start : ℕ) : Type 0 where
  pub within : start ≤ length bytes
  pub begins : (start ≡ 0) ⊎ ((front : List ℕ) × (take start bytes ≡ front ++ 10 ∷ []))
  pub last : AllByRecursion (λ b. b ≢ 10) (drop start bytes)

-- a byte of UTF-8 is the first of a character
abbrev pub begins_character : ℕ → Bool
begins_character b = nat_lt b 128 || nat_le 192 b

abbrev pub position_text : ℕ → ℕ → List ℕ
position_text line column = codes "  line " ++ decimal line ++ codes " column " ++ decimal column ++ codes "\n"

-- a tab stays, and other characters are a space
abbrev pub blank : ℕ → List ℕ
blank b = if b == 9 then codes "\t" else (if begins_character b then codes " " else [])

abbrev pub mark_of : List ℕ → List ℕ
mark_of before = flat_map blank before ++ codes "^\n"

-- a line feed or a carriage return
abbrev pub ends_line : ℕ → Bool
ends_line b = b == 10 || b == 13

-- these bytes begin with the rest of a line, which goes up to the first byte that ends it, or to the end of all
pub record IsLineRest (bytes rest : List ℕ) : Type 0 where
  pub more : List ℕ
  pub joined : bytes ≡ rest ++ more
  pub within : AllByRecursion (λ b. ends_line b ≡ false) rest
  pub ends : (more ≡ []) ⊎ ((b : ℕ) × (after : List ℕ) × (more ≡ b ∷ after) × (ends_line b ≡ true))

-- the line and the column of the index, the line, and a mark under the character at the index
abbrev pub IsShownAt : List ℕ → ℕ → List ℕ → Type 0
IsShownAt source at lines =
    (start : ℕ) × (rest : List ℕ) × IsLineStart (take at source) start × IsLineRest (drop at source) rest
    × (lines ≡ position_text (feeds (take at source) + 1) (length (filter begins_character (drop start (take at source))) + 1)
    ++ codes "  " ++ drop start (take at source) ++ rest ++ codes "\n  " ++ mark_of (drop start (take at source)))
