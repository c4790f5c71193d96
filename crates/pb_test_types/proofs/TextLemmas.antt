-- A row is its first word and the words after it.
use Rattle.std.proofs.Common.{◌≡◌, ℕ, ◌+◌, ◌<◌, ◌≤◌, List, [], ◌∷◌, length, refl, ap, arith}
use Rattle.std.specs.Bool.{Decides}
use Rattle.std.specs.Prelude.{◌==◌, Bool, true, false, nat_lt, if◌then◌else◌, Option, Some, None}
use Rattle.std.specs.List.{position_or_len, before_first, after_first}
use Rattle.std.proofs.lemmas.Bool.Decides.{nat_tests, Decides-ltb}
use Rattle.std.proofs.lemmas.List.Splits.{slice_split_first}
use Rattle.std.proofs.lemmas.List.{length-drop}
use Rattle.std.proofs.lemmas.Option.{some_pair_parts}
use Rattle.pb_test_types.specs.Texts.{halves, parts}

abbrev is : ℕ → ℕ → Bool
is c b = b == c

-- a row without the separator is one word
alone : (c : ℕ) (t : List ℕ) → length t ≤ position_or_len (is c) t → parts c t ≡ t ∷ []
alone c [] h = refl
alone c (x ∷ t) h = told (x == c) refl (λ k. alone c t k)
  where
    told : (b : Bool) → (x == c) ≡ b → (length t ≤ position_or_len (is c) t → parts c t ≡ t ∷ []) → parts c (x ∷ t) ≡ (x ∷ t) ∷ []
    told true e later = absurd (let z : position_or_len (is c) (x ∷ t) ≡ 0 = rw e refl in omega (arith, z))
    told false e later =
        let z : position_or_len (is c) (x ∷ t) ≡ 1 + position_or_len (is c) t = rw e refl in
        let rest : parts c t ≡ t ∷ [] = later (omega (arith, z)) in
        rw (e, rest) refl

not_below : (n k : ℕ) → Decides (nat_lt n k) (n < k) → nat_lt n k ≡ false → k ≤ n
not_below n k d e = grind (arith, nat_tests)

pub one_part : (c : ℕ) (t : List ℕ) → halves c t ≡ None → parts c t ≡ t ∷ []
one_part c t none = told (nat_lt (position_or_len (is c) t) (length t)) refl
  where
    told : (b : Bool) → nat_lt (position_or_len (is c) t) (length t) ≡ b → parts c t ≡ t ∷ []
    told true e = absurd (let n = rw e at none in cc)
    told false e = alone c t (not_below (position_or_len (is c) t) (length t) (Decides-ltb (position_or_len (is c) t) (length t)) e)

abbrev cut : ℕ → List ℕ → Bool → Option (List ℕ × List ℕ)
cut c t b = if b then Some (before_first (is c) t, after_first (is c) t) else None

cut_there : (c : ℕ) (t : List ℕ) (b : Bool) (x y : List ℕ) → cut c t b ≡ Some (x, y) → (b ≡ true) × (before_first (is c) t ≡ x) × (after_first (is c) t ≡ y)
cut_there c t true x y h = let p = some_pair_parts (before_first (is c) t) x (after_first (is c) t) y h in (refl, p.0, p.1)
cut_there c t false x y h = absurd (cc)

pub first_part : (c : ℕ) (t x y : List ℕ) → halves c t ≡ Some (x, y) → parts c t ≡ x ∷ parts c y
first_part c t x y h =
    let p = cut_there c t (nat_lt (position_or_len (is c) t) (length t)) x y h in
    let l = (Decides-ltb (position_or_len (is c) t) (length t)).0 p.0 in
    rw (slice_split_first (is c) t 0 l, p.1, p.2) refl

pub shorter_part : (c : ℕ) (t x y : List ℕ) → halves c t ≡ Some (x, y) → length y < length t
shorter_part c t x y h =
    let p = cut_there c t (nat_lt (position_or_len (is c) t) (length t)) x y h in
    let l = (Decides-ltb (position_or_len (is c) t) (length t)).0 p.0 in
    omega (arith, ap length p.2, length-drop (position_or_len (is c) t + 1) t)
