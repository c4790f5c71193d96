-- Numbers told apart by a test, and fields found by their numbers.
use Rattle.std.proofs.Common.{◌≡◌, ◌≢◌, ℕ, List, [], ◌∷◌, map, Some, None, arith, refl, sym, ap, ◌∙◌, subst}
use Rattle.std.proofs.lemmas.Bool.Decides.{nat_tests}
use Rattle.std.specs.Prelude.{Bool, true, false, ◌==◌, if◌then◌else◌}
use Rattle.std.specs.List.{AllByRecursion}
use Rattle.pb_schema.specs.Types.{FieldView, field_numbered}
use Rattle.pb_schema.specs.Names.{AllDiffer}

pub self_equal : (n : ℕ) → (n == n) ≡ true
self_equal n = grind (arith, nat_tests)

pub number_is : (a b : ℕ) → (a == b) ≡ true → a ≡ b
number_is a b q = grind (arith, nat_tests)

pub not_equal : (a b : ℕ) → a ≢ b → (a == b) ≡ false
not_equal a b d = grind (arith, nat_tests)

pub differ_by : (a b : ℕ) → (a == b) ≡ false → a ≢ b
differ_by a b q = grind (arith, nat_tests)

abbrev pub numbers : List FieldView → List ℕ
numbers fs = map (λ (f : FieldView). f.number) fs

pub found_number : (n : ℕ) (fs : List FieldView) (g : FieldView) → field_numbered n fs ≡ Some g → g.number ≡ n
found_number n [] g e = absurd (cc)
found_number n (f ∷ fs) g e = by_test (f.number == n) refl e (λ w. found_number n fs g w)
  where
    by_test : (b : Bool) → (f.number == n) ≡ b → (if b then Some f else field_numbered n fs) ≡ Some g → (field_numbered n fs ≡ Some g → g.number ≡ n) → g.number ≡ n
    by_test true q w later = let same : f ≡ g = cc in subst (λ (h : FieldView). h.number ≡ n) same (number_is f.number n q)
    by_test false q w later = later w

pub none_numbered : (n : ℕ) (fs : List FieldView) → AllByRecursion (λ k. n ≢ k) (numbers fs) → field_numbered n fs ≡ None
none_numbered n [] h = refl
none_numbered n (f ∷ fs) h = ap (λ (b : Bool). if b then Some f else field_numbered n fs) (not_equal f.number n (λ e. h.0 (sym e))) ∙ none_numbered n fs h.1

-- a field of those with these numbers is found by its number
pub found_each : (fs : List FieldView) → AllDiffer (numbers fs) → AllByRecursion (λ f. field_numbered f.number fs ≡ Some f) fs
found_each [] h = tt
found_each (f ∷ fs) h = (ap (λ (b : Bool). if b then Some f else field_numbered f.number fs) (self_equal f.number), later fs h.0 (found_each fs h.1))
  where
    later : (gs : List FieldView) → AllByRecursion (λ k. f.number ≢ k) (numbers gs) → AllByRecursion (λ g. field_numbered g.number fs ≡ Some g) gs → AllByRecursion (λ g. field_numbered g.number (f ∷ fs) ≡ Some g) gs
    later [] d w = tt
    later (g ∷ gs) d w = (ap (λ (b : Bool). if b then Some f else field_numbered g.number fs) (not_equal f.number g.number d.0) ∙ w.0, later gs d.1 w.1)
