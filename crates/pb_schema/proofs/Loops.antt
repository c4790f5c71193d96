-- The step of a loop that tests each element: it stops at one that fails, and goes on past one that passes.
use Rattle.std.proofs.Common.{◌≡◌, ℕ, ◌+◌, ◌<◌, List, ◌∷◌, Bool, true, false, IsTrue, ◌↔◌, map, length, get_or, drop, sym, ◌∙◌, ap, subst}
use Rattle.std.specs.List.{AllByRecursion}
use Rattle.std.proofs.lemmas.List.{drop_more}
use Rattle.std.proofs.lemmas.Bool.{false≢true}

module _ {X Y : Type 0} (P : Y → Type 0) (f : X → Y) (Whole : Type 0) (xs : List X) (i : ℕ) (x : X) where
  here : i < length xs → x ≡ get_or xs i x → drop i xs ≡ x ∷ drop (i + 1) xs
  here h is = drop_more xs i x h ∙ ap (λ y. y ∷ drop (i + 1) xs) (sym is)

  split : i < length xs → x ≡ get_or xs i x → AllByRecursion P (map f (drop i xs)) ≡ (P (f x) × AllByRecursion P (map f (drop (i + 1) xs)))
  split h is = ap (λ ys. AllByRecursion P (map f ys)) (here h is)

  module _ (b : Bool) (test : IsTrue b ↔ P (f x)) (so_far : Whole ↔ AllByRecursion P (map f (drop i xs))) where
    pub stops : i < length xs → x ≡ get_or xs i x → b ≡ false → IsTrue false ↔ Whole
    stops h is fails = (λ e. absurd (false≢true e), λ w. absurd (false≢true (sym fails ∙ test.1 ((subst (λ T. T) (split h is) (so_far.0 w)).0))))

    pub goes_on : i < length xs → x ≡ get_or xs i x → b ≡ true → Whole ↔ AllByRecursion P (map f (drop (i + 1) xs))
    goes_on h is passes = (λ w. (subst (λ T. T) (split h is) (so_far.0 w)).1, λ rest. so_far.1 (subst (λ T. T) (sym (split h is)) (test.0 passes, rest)))
