-- Names without underscores, letter by letter, and beside other names.
use Rattle.std.proofs.Common.{◌≡◌, ℕ, ◌+◌, ◌<◌, List, [], ◌∷◌, ◌++◌, length, drop, get_or, refl, sym, ap, ◌∙◌, append_assoc, append-nil}
use Rattle.std.specs.Prelude.{Bool, true, false, ◌==◌, if◌then◌else◌}
use Rattle.std.specs.List.{flat_map}
use Rattle.std.specs.Str.{bytes_eq}
use Rattle.std.proofs.lemmas.Grind.{flat_map-append}
use Rattle.std.proofs.lemmas.List.{drop_more}
use Rattle.pb_json.specs.JsonNames.{camel_bytes, camel_from, camel_letter, cased}
use Rattle.pb_json.specs.JsonText.{string_byte}

-- the letters of a name from an index on
abbrev pub letters_from : Bool → ℕ → List ℕ → List ℕ
letters_from raised i name = flat_map string_byte (camel_from raised (drop i name))

letter_written : (raised : Bool) (c : ℕ) → flat_map string_byte (camel_letter raised c) ≡ camel_bytes raised c
letter_written raised c = by (c == 95)
  where
    by : (is : Bool) → flat_map string_byte (if is then [] else cased raised c ∷ []) ≡ (if is then [] else string_byte (cased raised c))
    by true = refl
    by false = append-nil (string_byte (cased raised c))

-- the next byte, and the rest
pub letter_next :
    (raised : Bool) (name : List ℕ) (i : ℕ) → i < length name
    → letters_from raised i name ≡ camel_bytes raised (get_or name i 0) ++ letters_from (get_or name i 0 == 95) (i + 1) name
letter_next raised name i below =
    ap (λ (cs : List ℕ). flat_map string_byte (camel_from raised cs)) (drop_more name i 0 below)
    ∙ flat_map-append string_byte (camel_letter raised (get_or name i 0)) (camel_from (get_or name i 0 == 95) (drop (i + 1) name))
    ∙ ap (λ (l : List ℕ). l ++ letters_from (get_or name i 0 == 95) (i + 1) name) (letter_written raised (get_or name i 0))

-- a prefix of the letters, and the letters that are left
pub letters_joined : (prefix part rest whole before : List ℕ) → prefix ++ before ≡ whole → before ≡ part ++ rest → (prefix ++ part) ++ rest ≡ whole
letters_joined prefix part rest whole before joined e = append_assoc prefix part rest ∙ ap (λ (l : List ℕ). prefix ++ l) (sym e) ∙ joined

-- whether what is left of a declared name is what is left of the other
abbrev pub is_rest : Bool → ℕ → ℕ → List ℕ → List ℕ → Bool
is_rest raised i at d n = bytes_eq (camel_from raised (drop i d)) (drop at n)
