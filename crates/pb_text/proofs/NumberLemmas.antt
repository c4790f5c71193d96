-- Digits.
use Rattle.std.proofs.Common.{◌≡◌, ℕ, zero, suc, ◌+◌, ◌<◌, ◌≤◌, List, [], ◌∷◌, length, get_or, take, arith, subst, sym, add-one}
use Rattle.std.proofs.lemmas.Bool.{le-ltb, lt-ltb}
use Rattle.std.specs.Char.{digit_value}
use Rattle.std.specs.Str.Parse.{AllDigits}

is_decimal : (x : ℕ) → 48 ≤ x → x ≤ 57 → digit_value x < 10
is_decimal x low high = rw (le-ltb x 48 low, lt-ltb x 58 (omega (arith, high))) (omega (arith, low, high))

more : (xs : List ℕ) (i : ℕ) → i < length xs → AllDigits 10 (take i xs) → digit_value (get_or xs i 0) < 10 → AllDigits 10 (take (suc i) xs)
more [] i below all digit = absurd (omega (arith, below))
more (y ∷ ys) zero below all digit = (digit, tt)
more (y ∷ ys) (suc i) below all digit = (all.0, more ys i (omega (arith, below)) all.1 digit)

-- digits, and one more
pub all_next :
    (xs : List ℕ) (i j : ℕ) → i ≡ j → j < length xs → AllDigits 10 (take i xs) → 48 ≤ get_or xs j 0 → get_or xs j 0 ≤ 57 → AllDigits 10 (take (i + 1) xs)
all_next xs i j same below all low high =
    subst (λ (n : ℕ). AllDigits 10 (take n xs)) (sym (add-one i))
    (more xs i (omega (arith, same, below)) all (subst (λ (k : ℕ). digit_value (get_or xs k 0) < 10) (sym same) (is_decimal (get_or xs j 0) low high)))

-- all of a text
pub all_of : (xs : List ℕ) (n : ℕ) → length xs ≤ n → AllDigits 10 (take n xs) → AllDigits 10 xs
all_of [] n far all = tt
all_of (x ∷ xs) zero far all = absurd (omega (arith, far))
all_of (x ∷ xs) (suc n) far all = (all.0, all_of xs n (omega (arith, far)) all.1)
