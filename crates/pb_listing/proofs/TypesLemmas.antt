-- The lines of the first things of a list, one more at a time.
use Rattle.std.proofs.Common.{◌≡◌, ◌<◌, ℕ, ◌+◌, List, [], ◌∷◌, ◌++◌, take, length, get_or, refl, sym, ap, ◌∙◌, append-nil}
use Rattle.std.proofs.lemmas.List.{take_more}
use Rattle.std.proofs.lemmas.Grind.{flat_map-append}
use Rattle.std.specs.List.{flat_map}
use native.Mathlib.Numerals.{unary_clauses}
use Rattle.pb_listing.specs.TypesListing.{lines_below}

pub below_next : (n : ℕ) (f : ℕ → List ℕ) → lines_below (n + 1) f ≡ lines_below n f ++ f n
below_next n f = simp unary_clauses refl

pub flat_map_next :
    {X : Type 0} (f : X → List ℕ) (xs : List X) (i : ℕ) (x : X) → i < length xs → x ≡ get_or xs i x
    → flat_map f (take (i + 1) xs) ≡ flat_map f (take i xs) ++ f x
flat_map_next {X} f xs i x below is =
    ap (flat_map f) (take_more xs i x below ∙ ap (λ (y : X). take i xs ++ y ∷ []) (sym is)) ∙ flat_map-append f (take i xs) (x ∷ [])
    ∙ ap (λ (l : List ℕ). flat_map f (take i xs) ++ l) (append-nil (f x))
