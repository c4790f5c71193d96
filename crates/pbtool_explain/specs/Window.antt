-- The bytes around a position, in hexadecimal, with a mark under the one at the position.
use Rattle.std.specs.Prelude.{ℕ, ◌-◌, ◌*◌, List, [], ◌∷◌, ◌++◌, codes, take, drop, length, flat_map}
use Rattle.hex.specs.Hex.{encode_lower}

-- at most sixteen bytes before the position
abbrev pub window_before : List ℕ → ℕ → List ℕ
window_before bytes at = drop (at - 16) (take at bytes)

-- the byte at the position, and at most sixteen after it
abbrev pub window_after : List ℕ → ℕ → List ℕ
window_after bytes at = take 17 (drop at bytes)

-- each byte after a space
abbrev pub hex_words : List ℕ → List ℕ
hex_words = flat_map (λ b. codes " " ++ encode_lower (b ∷ []))

-- as many spaces as the bytes take, three for each, of at most sixteen
abbrev pub mark_before : List ℕ → List ℕ
mark_before bytes = take (3 * length bytes) (codes "                                                ")

abbrev pub mark_end : List ℕ → List ℕ
mark_end [] = codes " ^^ the end\n"
mark_end (b ∷ bs) = codes " ^^\n"

abbrev pub window_lines : List ℕ → ℕ → List ℕ
window_lines bytes at =
    codes " " ++ hex_words (window_before bytes at) ++ hex_words (window_after bytes at) ++ codes "\n " ++ mark_before (window_before bytes at)
    ++ mark_end (window_after bytes at)
