-- Shapes of fields that are gathered one by one.
use Rattle.std.proofs.Common.{◌≡◌, ◌<◌, ◌+◌, ℕ, Bool, List, [], ◌∷◌, ◌++◌, length, Option, Some, None, ⊎_elim, sym, ◌∙◌, ap, subst, arith}
use Rattle.std.specs.Prelude.{slice_get}
use Rattle.std.specs.List.{list_all}
use Rattle.std.proofs.lemmas.Bool.{cases_lt}
use Rattle.pb_compat.proofs.Lists.{get_front, get_pushed}
use Rattle.pb_schema.specs.declared.types.Shape.{Shape}
use Rattle.pb_compat.specs.Oneofs.{share_oneof, at_most_one}

-- the first shape, if there was one, and these may not be set together
abbrev pub gathers : Option Shape → List Shape → Bool
gathers None ss = at_most_one ss
gathers (Some s) ss = list_all (share_oneof s) ss

-- one more entry of a table
pub more_crowds : (f : ℕ → Bool) (most : ℕ) (xs ys : List Bool) (i : ℕ) (b : Bool) → length xs ≡ i → ys ≡ xs ++ b ∷ [] → ((o : ℕ) → o < i → o < most → slice_get xs o ≡ Some (f o)) → (i < most → b ≡ f i) → (o : ℕ) → o < i + 1 → o < most → slice_get ys o ≡ Some (f o)
more_crowds f most xs ys i b size is exact here o h small =
    ⊎_elim (λ less. subst (λ zs. slice_get zs o ≡ Some (f o)) (sym is) (get_front xs (b ∷ []) o (f o) (exact o less small)))
    (λ more. let same : o ≡ i = omega (arith, h, more) in
    subst (λ (j : ℕ). slice_get ys j ≡ Some (f j)) (sym same)
    (subst (λ zs. slice_get zs i ≡ Some (f i)) (sym is)
    (subst (λ (j : ℕ). slice_get (xs ++ b ∷ []) j ≡ Some (f i)) size (get_pushed xs b ∙ ap Some (here (subst (λ (j : ℕ). j < most) same small))))))
    (cases_lt o i)
