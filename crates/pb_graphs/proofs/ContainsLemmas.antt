-- Lists that contain an element.
use Rattle.std.proofs.Common.{◌≡◌, List, [], ◌∷◌, ◌⊎◌, inl, inr, ⊎_elim, arith, Contains}
use Rattle.std.proofs.lemmas.List.Elements.{Contains-push, Contains-push_cases, Contains-append_left, Contains-append_right, Contains-append_cases}

pub Contains-none : {X : Type 0} {P : Type 0} (x : X) → Contains {X = X} [] x → P
Contains-none x h = absurd (omega (arith, h.1))

pub Contains-one : {X : Type 0} (y x : X) → Contains (y ∷ []) x → y ≡ x
Contains-one y x h = ⊎_elim (λ e. Contains-none x e) (λ e. e) (Contains-push_cases [] y x h)

pub Contains-first : {X : Type 0} (x : X) (xs : List X) → Contains (x ∷ xs) x
Contains-first x xs = Contains-append_left (x ∷ []) xs x (Contains-push [] x)

pub Contains-later : {X : Type 0} (x y : X) (xs : List X) → Contains xs x → Contains (y ∷ xs) x
Contains-later x y xs h = Contains-append_right (y ∷ []) xs x h

pub Contains-cases : {X : Type 0} (x y : X) (xs : List X) → Contains (y ∷ xs) x → (y ≡ x) ⊎ Contains xs x
Contains-cases x y xs h = ⊎_elim (λ e. inl (Contains-one y x e)) inr (Contains-append_cases (y ∷ []) xs x h)
