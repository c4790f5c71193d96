-- The paths of a field mask, one by one, and their bytes.
use Rattle.std.proofs.Common.{◌≡◌, ℕ, ◌+◌, ◌<◌, List, ◌∷◌, ◌++◌, length, drop, get_or, sym, ap, ◌∙◌, codes}
use Rattle.std.specs.Prelude.{Bool, true, false, ◌==◌, ◌&&◌}
use Rattle.std.specs.List.{flat_map}
use Rattle.std.proofs.lemmas.Grind.{flat_map-append}
use Rattle.std.proofs.lemmas.List.{drop_more}
use Rattle.pb_value.specs.View.{value_view, values_view}
use Rattle.pb_value.specs.declared.body.Value.{Value}
use Rattle.pb_json.specs.Held.{string_of, strings_of}
use Rattle.pb_json.specs.JsonNames.{lower_camel}
use Rattle.pb_json.specs.JsonText.{separator, string_byte}
use Rattle.pb_json.specs.Masks.{are_paths, is_path, is_path_from, mask_text, may_follow}

-- BYTES

first_or_not : (b : Bool) (rest : Bool) → b ≡ true → (b && rest) ≡ rest
first_or_not b rest e = ap (λ (x : Bool). x && rest) e

first_is_not : (b : Bool) (rest : Bool) → b ≡ false → (b && rest) ≡ false
first_is_not b rest e = ap (λ (x : Bool). x && rest) e

-- a byte that may come
pub path_more :
    (after : Bool) (path : List ℕ) (i : ℕ) → i < length path → may_follow after (get_or path i 0) ≡ true
    → is_path_from after (drop i path) ≡ is_path_from (get_or path i 0 == 95) (drop (i + 1) path)
path_more after path i below may = ap (is_path_from after) (drop_more path i 0 below) ∙ first_or_not _ _ may

-- and one that may not
pub path_stops :
    (after : Bool) (path : List ℕ) (i : ℕ) → i < length path → may_follow after (get_or path i 0) ≡ false → is_path_from after (drop i path) ≡ false
path_stops after path i below not_so = ap (is_path_from after) (drop_more path i 0 below) ∙ first_is_not _ _ not_so

-- PATHS

item_first : (vs : List Value) (i : ℕ) (v : Value) → i < length vs → v ≡ get_or vs i v → drop i vs ≡ v ∷ drop (i + 1) vs
item_first vs i v below is = drop_more vs i v below ∙ ap (λ (y : Value). y ∷ drop (i + 1) vs) (sym is)

-- a value that is a path
pub paths_more :
    (vs : List Value) (i : ℕ) (v : Value) → i < length vs → v ≡ get_or vs i v → is_path (string_of (value_view v)) ≡ true
    → are_paths (strings_of (values_view (drop i vs))) ≡ are_paths (strings_of (values_view (drop (i + 1) vs)))
paths_more vs i v below is good = ap (λ (ws : List Value). are_paths (strings_of (values_view ws))) (item_first vs i v below is) ∙ first_or_not _ _ good

-- and one that is none
pub paths_stop :
    (vs : List Value) (i : ℕ) (v : Value) → i < length vs → v ≡ get_or vs i v → is_path (string_of (value_view v)) ≡ false
    → are_paths (strings_of (values_view (drop i vs))) ≡ false
paths_stop vs i v below is bad = ap (λ (ws : List Value). are_paths (strings_of (values_view ws))) (item_first vs i v below is) ∙ first_is_not _ _ bad

-- the paths from one on, as bytes of a string
abbrev pub paths_left : Bool → List (List ℕ) → List ℕ
paths_left true ps = flat_map string_byte (mask_text ps)
paths_left false ps = flat_map string_byte (flat_map (λ p. codes "," ++ lower_camel p) ps)

path_written :
    (is_first : Bool) (p : List ℕ) (ps : List (List ℕ))
    → paths_left is_first (p ∷ ps) ≡ (separator is_first ++ flat_map string_byte (lower_camel p)) ++ paths_left false ps
path_written true p ps = flat_map-append string_byte (lower_camel p) (flat_map (λ q. codes "," ++ lower_camel q) ps)
path_written false p ps = flat_map-append string_byte (codes "," ++ lower_camel p) (flat_map (λ q. codes "," ++ lower_camel q) ps)

pub next_path :
    (is_first : Bool) (vs : List Value) (i : ℕ) (v : Value) → i < length vs → v ≡ get_or vs i v
    → paths_left is_first (strings_of (values_view (drop i vs)))
    ≡ (separator is_first ++ flat_map string_byte (lower_camel (string_of (value_view v)))) ++ paths_left false (strings_of (values_view (drop (i + 1) vs)))
next_path is_first vs i v below is =
    ap (λ (ws : List Value). paths_left is_first (strings_of (values_view ws))) (item_first vs i v below is)
    ∙ path_written is_first (string_of (value_view v)) (strings_of (values_view (drop (i + 1) vs)))
