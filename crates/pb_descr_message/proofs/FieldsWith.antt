-- Fields by rising number, one after another.
use Rattle.std.proofs.Common.{◌≡◌, ℕ, ◌<◌, List, [], ◌∷◌, ◌++◌, Bool, true, false, ◌&&◌, Option, Some, None, refl, sym, ap, ◌∙◌, arith}
use Rattle.std.specs.Prelude.{nat_lt}
use Rattle.std.specs.List.{list_all}
use Rattle.std.specs.declared.cmp.Ordering.TheVariants.{Greater}
use Rattle.std.specs.Ordering.{nat_cmp, match_ordering}
use Rattle.std.specs.Cmp.{nat_cmp_is}
use Rattle.std.proofs.lemmas.Bool.{false≢true}
use Rattle.std.proofs.lemmas.Bool.Decides.{nat_tests}
use Rattle.pb_value.specs.Data.{Holding, Fields, field, put_field, put_some}
use Rattle.pb_descr_message.specs.Contents.{is_rising}
use Rattle.pb_descr_message.specs.Writing.{with_field, fields_with}

and_left : (a b : Bool) → (a && b) ≡ true → a ≡ true
and_left true b h = refl
and_left false b h = h

and_right : (a b : Bool) → (a && b) ≡ true → b ≡ true
and_right true b h = h
and_right false b h = absurd (false≢true h)

greater_cmp : (n k : ℕ) → nat_lt k n ≡ true → nat_cmp n k ≡ Greater
greater_cmp n k h = sym (nat_cmp_is n k Greater (below k n h))
  where
    below : (x y : ℕ) → nat_lt x y ≡ true → x < y
    below x y e = grind (arith, nat_tests)

put_with : (n k : ℕ) (o p : Option Holding) (fs gs : Fields) → nat_lt k n ≡ true → put_some n o fs ≡ gs → put_some n o (with_field k p fs) ≡ with_field k p gs
put_with n k o None fs gs above later = later
put_with n k None (Some h) fs gs above later = ap (field k h) later
put_with n k (Some g) (Some h) fs gs above later =
    ap (λ c. match_ordering c (field n g (field k h fs)) (field k g fs) (field k h (put_field n g fs))) (greater_cmp n k above) ∙ ap (field k h) later

-- a field above all others stands last
pub put_last : (es : List (ℕ × Option Holding)) (n : ℕ) (o : Option Holding) → list_all (λ e. nat_lt e.0 n) es ≡ true → put_some n o (fields_with es) ≡ fields_with (es ++ (n, o) ∷ [])
put_last [] n None h = refl
put_last [] n (Some g) h = refl
put_last (e ∷ es) n o h =
    put_with n e.0 o e.1 (fields_with es) (fields_with (es ++ (n, o) ∷ [])) (and_left (nat_lt e.0 n) (list_all (λ e. nat_lt e.0 n) es) h)
    (put_last es n o (and_right (nat_lt e.0 n) (list_all (λ e. nat_lt e.0 n) es) h))

among : (k : ℕ) (es : List (ℕ × Option Holding)) (e : ℕ × Option Holding) (rest : List (ℕ × Option Holding)) → list_all (λ f. nat_lt k f.0) (es ++ e ∷ rest) ≡ true → nat_lt k e.0 ≡ true
among k [] e rest h = and_left (nat_lt k e.0) (list_all (λ f. nat_lt k f.0) rest) h
among k (d ∷ es) e rest h = among k es e rest (and_right (nat_lt k d.0) (list_all (λ f. nat_lt k f.0) (es ++ e ∷ rest)) h)

both : (a b : Bool) → a ≡ true → b ≡ true → (a && b) ≡ true
both a b e f = ap (λ x. x && b) e ∙ f

-- what stands before a number of a rising list is below it
pub below_next : (es : List (ℕ × Option Holding)) (e : ℕ × Option Holding) (rest : List (ℕ × Option Holding)) → is_rising (es ++ e ∷ rest) ≡ true → list_all (λ f. nat_lt f.0 e.0) es ≡ true
below_next [] e rest h = refl
below_next (d ∷ es) e rest h =
    both (nat_lt d.0 e.0) (list_all (λ f. nat_lt f.0 e.0) es)
    (among d.0 es e rest (and_left (list_all (λ f. nat_lt d.0 f.0) (es ++ e ∷ rest)) (is_rising (es ++ e ∷ rest)) h))
    (below_next es e rest (and_right (list_all (λ f. nat_lt d.0 f.0) (es ++ e ∷ rest)) (is_rising (es ++ e ∷ rest)) h))
