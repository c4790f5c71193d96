-- Bytes of base64, group by group.
use Rattle.std.proofs.Common.{◌≡◌, ℕ, ◌+◌, ◌≤◌, List, [], ◌∷◌, ◌++◌, length, get_or, drop, Option, Some, None, option_map, refl, sym, ap, ◌∙◌, append_assoc, arith}
use Rattle.std.proofs.lemmas.List.{drop_more}
use Rattle.pb_json_scalars.specs.Base64.{bytes_of, joined, of_four, symbol}

pub none_yet : (o : Option (List ℕ)) → option_map (λ rest. [] ++ rest) o ≡ o
none_yet None = refl
none_yet (Some x) = refl

drop_four : (s : List ℕ) (i : ℕ) → i + 4 ≤ length s
    → drop i s ≡ get_or s i 0 ∷ get_or s (i + 1) 0 ∷ get_or s (i + 2) 0 ∷ get_or s (i + 3) 0 ∷ drop (i + 4) s
drop_four s i long =
    let two : i + 1 + 1 ≡ i + 2 = omega arith in
    let three : i + 2 + 1 ≡ i + 3 = omega arith in
    let four : i + 3 + 1 ≡ i + 4 = omega arith in
    let first = drop_more s i 0 (omega arith) in
    let second = rw two at (drop_more s (i + 1) 0 (omega arith)) in
    let third = rw three at (drop_more s (i + 2) 0 (omega arith)) in
    let fourth = rw four at (drop_more s (i + 3) 0 (omega arith)) in
    first
    ∙ ap (λ (l : List ℕ). get_or s i 0 ∷ l)
    (second ∙ ap (λ (l : List ℕ). get_or s (i + 1) 0 ∷ l) (third ∙ ap (λ (l : List ℕ). get_or s (i + 2) 0 ∷ l) fourth))

appended : (bytes group : List ℕ) (o : Option (List ℕ))
    → option_map (λ rest. bytes ++ rest) (joined (Some group) o) ≡ option_map (λ rest. (bytes ++ group) ++ rest) o
appended bytes group None = refl
appended bytes group (Some x) = ap (λ (l : List ℕ). Some l) (sym (append_assoc bytes group x))

module _ (bytes s : List ℕ) (i : ℕ) (long : i + 4 ≤ length s) where
  abbrev Group : Option (List ℕ) → Type 0
  Group g = g ≡ of_four (symbol (get_or s i 0)) (symbol (get_or s (i + 1) 0)) (symbol (get_or s (i + 2) 0)) (symbol (get_or s (i + 3) 0))

  pub group_more : (group : List ℕ) → Group (Some group)
      → option_map (λ rest. bytes ++ rest) (bytes_of (drop i s)) ≡ option_map (λ rest. (bytes ++ group) ++ rest) (bytes_of (drop (i + 4) s))
  group_more group e =
      ap (λ (l : List ℕ). option_map (λ rest. bytes ++ rest) (bytes_of l)) (drop_four s i long)
      ∙ ap (λ (g : Option (List ℕ)). option_map (λ rest. bytes ++ rest) (joined g (bytes_of (drop (i + 4) s)))) (sym e)
      ∙ appended bytes group (bytes_of (drop (i + 4) s))

  pub group_stops : Group None → option_map (λ rest. bytes ++ rest) (bytes_of (drop i s)) ≡ None
  group_stops e =
      ap (λ (l : List ℕ). option_map (λ rest. bytes ++ rest) (bytes_of l)) (drop_four s i long)
      ∙ ap (λ (g : Option (List ℕ)). option_map (λ rest. bytes ++ rest) (joined g (bytes_of (drop (i + 4) s)))) (sym e)
