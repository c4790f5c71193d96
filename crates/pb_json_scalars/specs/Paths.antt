-- Field masks, as strings are read (ProtoJSON format, "JSON representation"; field_mask.proto, "JSON Encoding of Field Masks"): names in
-- lowerCamelCase, joined by commas.
use Rattle.std.specs.Prelude.{ℕ, ◌+◌, Bool, not, ◌&&◌, ◌==◌, nat_lt, List, [], ◌∷◌, length, Option, Some, None, option_map, option_and_then, if◌then◌else◌}
use Rattle.std.specs.Char.{is_ascii_uppercase}
use Rattle.std.specs.List.{flat_map, list_all}
use Rattle.std.specs.Str.{is_utf8}

-- an upper-case letter is an underscore and the letter in lower case
abbrev pub snake_letter : ℕ → List ℕ
snake_letter c = if is_ascii_uppercase c then 95 ∷ (c + 32) ∷ [] else c ∷ []

abbrev pub snake_case : List ℕ → List ℕ
snake_case name = flat_map snake_letter name

abbrev pub has_no_underscore : List ℕ → Bool
has_no_underscore name = list_all (λ c. not (c == 95)) name

abbrev pub as_text : List ℕ → Option (List ℕ)
as_text s = if is_utf8 s then Some s else None

-- the path of a name, which is not empty and has no underscore
abbrev pub path_of : List ℕ → Option (List ℕ)
path_of name = if nat_lt 0 (length name) && has_no_underscore name then as_text (snake_case name) else None

abbrev pub onto_first : ℕ → List (List ℕ) → List (List ℕ)
onto_first c [] = (c ∷ []) ∷ []
onto_first c (name ∷ names) = (c ∷ name) ∷ names

-- what is between commas
abbrev pub between_commas : List ℕ → List (List ℕ)
between_commas [] = [] ∷ []
between_commas (c ∷ cs) = if c == 44 then [] ∷ between_commas cs else onto_first c (between_commas cs)

abbrev pub paths_of : List (List ℕ) → Option (List (List ℕ))
paths_of [] = Some []
paths_of (name ∷ names) = option_and_then (λ path. option_map (λ paths. path ∷ paths) (paths_of names)) (path_of name)

-- the paths of a string; an empty one has none
abbrev pub mask_paths : List ℕ → Option (List (List ℕ))
mask_paths s = if length s == 0 then Some [] else paths_of (between_commas s)
