-- Field masks as strings (ProtoJSON format, "JSON representation"; field_mask.proto, "JSON Encoding of Field Masks").
use Rattle.std.specs.Prelude.{ℕ, List, [], ◌∷◌, length, Bool, true, false, not, ◌&&◌, ◌||◌, ◌==◌, codes}
use Rattle.std.specs.Char.{is_ascii_lowercase, is_ascii_uppercase}
use Rattle.std.specs.List.{join_by, list_all}
use Rattle.pb_json.specs.JsonNames.{lower_camel}

-- a byte of a path, after an underscore or not
abbrev pub may_follow : Bool → ℕ → Bool
may_follow true c = is_ascii_lowercase c
may_follow false c = not (is_ascii_uppercase c || c == 44)

abbrev pub is_path_from : Bool → List ℕ → Bool
is_path_from after [] = not after
is_path_from after (c ∷ cs) = may_follow after c && is_path_from (c == 95) cs

-- A path that a reader gets back from its name in lower camel case: it has no upper-case letter, no comma, and a lower-case letter after each
-- underscore. An empty one is not read back.
abbrev pub is_path : List ℕ → Bool
is_path p = not (length p == 0) && is_path_from false p

abbrev pub are_paths : List (List ℕ) → Bool
are_paths = list_all is_path

-- the paths, joined by commas
abbrev pub mask_text : List (List ℕ) → List ℕ
mask_text = join_by lower_camel (codes ",")
