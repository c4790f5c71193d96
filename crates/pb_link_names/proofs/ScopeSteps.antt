-- Scopes that pass a test, and the first part of a name.
use Rattle.std.proofs.Common.{◌≡◌, ℕ, ◌<◌, List, [], ◌∷◌, length, take, get_or, Bool, true, false, not, ◌||◌, ◌==◌, cond, refl, sym, ap, ◌∙◌, arith, Option, Some}
use Rattle.std.specs.Prelude.{find, take_while, is_some}
use Rattle.std.specs.List.{list_any}
use Rattle.std.proofs.lemmas.List.{take_all}
use Rattle.std.proofs.lemmas.List.Sums.{position_or_len_is}

any_step : (b : Bool) (o : Option (List ℕ)) (any : Bool) (y : List ℕ) → any ≡ is_some o → (b || any) ≡ is_some (cond b (Some y) o)
any_step true o any y h = refl
any_step false o any y h = h

pub any_found : (t : List ℕ → Bool) (xs : List (List ℕ)) → list_any t xs ≡ is_some (find t xs)
any_found t [] = refl
any_found t (x ∷ xs) = any_step (t x) (find t xs) (list_any t xs) x (any_found t xs)

-- what stands before the first dot
pub first_dot : (name : List ℕ) (i : ℕ) → i < length name → ((k : ℕ) → k < i → (get_or name k 0 == 46) ≡ false) → get_or name i 0 ≡ 46 → take i name ≡ take_while (λ c. not (c == 46)) name
first_dot name i less none dot = ap (λ n. take n name) (sym (position_or_len_is (λ c. c == 46) name i 0 (omega (arith, less)) none (λ h. ap (λ c. c == 46) dot)))

pub no_dot : (name : List ℕ) (i : ℕ) → i ≡ length name → ((k : ℕ) → k < i → (get_or name k 0 == 46) ≡ false) → name ≡ take_while (λ c. not (c == 46)) name
no_dot name i all none = sym (take_all i name (omega (arith, all))) ∙ ap (λ n. take n name) (sym (position_or_len_is (λ c. c == 46) name i 0 (omega (arith, all)) none (λ h. absurd (omega (arith, all, h)))))
