-- A walk over the declarations, from one on to the end.
use Rattle.std.proofs.Common.{◌≡◌, ℕ, ◌+◌, ◌<◌, List, map, drop, get_or, length, sym, ap, ◌∙◌, Option, Some, None}
use Rattle.std.proofs.lemmas.List.{drop_more}
use Rattle.pb_link_rules.specs.declared.cause.LinkCause.{LinkCause}
use Rattle.pb_link_names.specs.Declarations.{Declaration}
use Rattle.pb_link_rules.specs.Link.{or_later, first_told}

-- what the declarations from index i on tell is what the one there tells, or else what those after it tell
pub told_more : {X : Type 0} (judge : ℕ → Declaration → Option LinkCause) (view : X → Declaration) (xs : List X) (i : ℕ) (x : X) → i < length xs → x ≡ get_or xs i x → first_told judge i (map view (drop i xs)) ≡ or_later i (judge i (view x)) (first_told judge (i + 1) (map view (drop (i + 1) xs)))
told_more judge view xs i x h there =
    ap (λ l. first_told judge i (map view l)) (drop_more xs i x h) ∙ ap (λ y. or_later i (judge i (view y)) (first_told judge (i + 1) (map view (drop (i + 1) xs)))) (sym there)

pub told_none : {X : Type 0} (judge : ℕ → Declaration → Option LinkCause) (view : X → Declaration) (xs : List X) (i : ℕ) (x : X) (told : Option (ℕ × LinkCause)) → i < length xs → x ≡ get_or xs i x → told ≡ first_told judge i (map view (drop i xs)) → judge i (view x) ≡ None → told ≡ first_told judge (i + 1) (map view (drop (i + 1) xs))
told_none judge view xs i x told h there held none = held ∙ told_more judge view xs i x h there ∙ ap (λ o. or_later i o (first_told judge (i + 1) (map view (drop (i + 1) xs)))) none

pub told_some : {X : Type 0} (judge : ℕ → Declaration → Option LinkCause) (view : X → Declaration) (xs : List X) (i : ℕ) (x : X) (c : LinkCause) (told : Option (ℕ × LinkCause)) → i < length xs → x ≡ get_or xs i x → told ≡ first_told judge i (map view (drop i xs)) → judge i (view x) ≡ Some c → told ≡ Some (i, c)
told_some judge view xs i x c told h there held some = held ∙ told_more judge view xs i x h there ∙ ap (λ o. or_later i o (first_told judge (i + 1) (map view (drop (i + 1) xs)))) some
