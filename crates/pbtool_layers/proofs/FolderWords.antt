-- Words that are put among others.
use Rattle.std.proofs.Common.{◌≡◌, ◌≤◌, ℕ, List, [], ◌∷◌, ◌++◌, zero, suc, length, codes, take, drop, not, Bool, true, false, arith, refl, ap, ◌∙◌}
use Rattle.std.specs.Prelude.{◌+◌, if◌then◌else◌, map, string_bytes}
use Rattle.std.specs.List.{insert, prefix_len}
use Rattle.std.specs.Str.{bytes_eq}
use Rattle.std.specs.declared.alloc.Global.{Global}
use Rattle.std.specs.declared.string.String.{String}
use Rattle.pbtool_layers.specs.Folders.{end_of}

-- two words that are put in at one place, the second before the first
pub two_put_in :
    (n : ℕ) (xs : List (String Global)) (a b : String Global) → n ≤ length xs
    → map string_bytes (insert (insert xs n b) n a) ≡ take n (map string_bytes xs) ++ string_bytes a ∷ string_bytes b ∷ drop n (map string_bytes xs)
two_put_in zero [] a b within = refl
two_put_in zero (x ∷ xs) a b within = refl
two_put_in (suc n) [] a b within = absurd (omega (arith, within))
two_put_in (suc n) (x ∷ xs) a b within = ap (λ (ts : List (List ℕ)). string_bytes x ∷ ts) (two_put_in n xs a b (omega (arith, within)))

-- how many words come before the first `--`
pub same_end : (xs : List (String Global)) → prefix_len (λ w. not (bytes_eq (string_bytes w) (codes "--"))) xs ≡ end_of (map string_bytes xs)
same_end [] = refl
same_end (x ∷ xs) = by (not (bytes_eq (string_bytes x) (codes "--"))) (same_end xs)
  where
    by :
        (b : Bool) → prefix_len (λ w. not (bytes_eq (string_bytes w) (codes "--"))) xs ≡ end_of (map string_bytes xs)
        → (if b then 1 + prefix_len (λ w. not (bytes_eq (string_bytes w) (codes "--"))) xs else 0) ≡ (if b then 1 + end_of (map string_bytes xs) else 0)
    by true same = ap (λ (k : ℕ). 1 + k) same
    by false same = refl
