-- The folder that is built in, among the words of the command line.
use Rattle.std.specs.Prelude.{ℕ, Bool, false, not, List, [], ◌∷◌, ◌++◌, codes, take, drop, if◌then◌else◌}
use Rattle.std.specs.List.{prefix_len}
use Rattle.std.specs.Str.{bytes_eq}

-- the words name `compile`
abbrev pub is_compile : List (List ℕ) → Bool
is_compile [] = false
is_compile (program ∷ []) = false
is_compile (program ∷ word ∷ words) = bytes_eq word (codes "compile")

-- how many words come before the first `--`
abbrev pub end_of : List (List ℕ) → ℕ
end_of = prefix_len (λ w. not (bytes_eq w (codes "--")))

-- the words with those that name the folder, after all other options
abbrev pub with_folder : List (List ℕ) → List (List ℕ)
with_folder words = take (end_of words) words ++ codes "-I" ∷ codes "<built-in>" ∷ drop (end_of words) words

abbrev pub with_built_in : List (List ℕ) → List (List ℕ)
with_built_in words = if is_compile words then with_folder words else words
