-- Lists that are mapped, joined and taken.
use Rattle.std.proofs.Common.{◌≡◌, ℕ, zero, suc, ◌<◌, ◌≤◌, arith, List, [], ◌∷◌, ◌++◌, map, length, get_or, take, refl, sym, ◌∙◌, ap}
use Rattle.std.specs.List.{flat_map}

pub flat_map-map : {X Y Z : Type 0} (f : Y → List Z) (g : X → Y) (xs : List X) → flat_map f (map g xs) ≡ flat_map (λ x. f (g x)) xs
flat_map-map f g [] = refl
flat_map-map f g (x ∷ xs) = ap (λ l. f (g x) ++ l) (flat_map-map f g xs)

pub flat_map-one : {X Y : Type 0} (g : X → Y) (xs : List X) → flat_map (λ x. g x ∷ []) xs ≡ map g xs
flat_map-one g [] = refl
flat_map-one g (x ∷ xs) = ap (λ l. g x ∷ l) (flat_map-one g xs)

pub map-map : {X Y Z : Type 0} (f : Y → Z) (g : X → Y) (xs : List X) → map f (map g xs) ≡ map (λ x. f (g x)) xs
map-map f g [] = refl
map-map f g (x ∷ xs) = ap (λ l. f (g x) ∷ l) (map-map f g xs)

pub take_past : {X : Type 0} (xs : List X) (i : ℕ) → length xs ≤ i → take i xs ≡ xs
take_past [] zero h = refl
take_past [] (suc i) h = refl
take_past (x ∷ xs) zero h = absurd (omega (arith, h))
take_past (x ∷ xs) (suc i) h = ap (λ l. x ∷ l) (take_past xs i (omega (arith, h)))

pub added_all : {X Y : Type 0} (f : Y → List (List ℕ)) (g : X → Y) (xs : List X) (i : ℕ) → length xs ≤ i → flat_map (λ x. f (g x)) (take i xs) ≡ flat_map f (map g xs)
added_all f g xs i h = ap (flat_map (λ x. f (g x))) (take_past xs i h) ∙ sym (flat_map-map f g xs)

pub get_or-map : {X Y : Type 0} (g : X → Y) (xs : List X) (i : ℕ) (d : X) (e : Y) → i < length xs → get_or (map g xs) i e ≡ g (get_or xs i d)
get_or-map g [] i d e h = absurd (omega (arith, h))
get_or-map g (x ∷ xs) zero d e h = refl
get_or-map g (x ∷ xs) (suc i) d e h = get_or-map g xs i d e (omega (arith, h))
