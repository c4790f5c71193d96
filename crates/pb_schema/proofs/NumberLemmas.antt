-- Fields by their numbers.
use Rattle.std.proofs.Common.{◌≡◌, ◌≢◌, ℕ, Bool, true, false, not, ◌||◌, IsTrue, ◌↔◌, if◌then◌else◌, eqb, take, zero, suc, ◌+◌, ◌-◌, ◌<◌, ◌≤◌, List, [], ◌∷◌, ◌++◌, map, length, get_or, refl, sym, ◌∙◌, ap, subst, arith, Option, Some, None, Contains, ◌⊎◌, inl, inr, ⊎_elim}
use Rattle.std.specs.List.{AllByRecursion, list_any}
use Rattle.std.specs.List.Sorted.{IsPermutation, IsNonDecreasingBy, IsPartitionPoint}
use Rattle.std.proofs.lemmas.List.{length-take, take_more, map-append, get_or_default}
use Rattle.std.proofs.lemmas.List.Sorted.{IsPermutation-sym, Contains-permutation}
use Rattle.std.proofs.lemmas.Bool.{false≢true, cases_lt}
use Rattle.std.proofs.lemmas.Bool.Decides.{Decides-eqb, nat_tests}
use Rattle.std.proofs.lemmas.List.Elements.{Contains-get_or}
use Rattle.std.specs.Ordering.{nat_cmp, ordering_index}
use Rattle.std.specs.declared.cmp.Ordering.TheVariants.{Less, Equal, Greater}
use Rattle.std.proofs.lemmas.Map.Views.{Contains-from_any}
use Rattle.pb_graphs.proofs.ContainsLemmas.{Contains-none, Contains-first, Contains-later, Contains-cases}
use Rattle.pb_schema.specs.Names.{AllDiffer}
use Rattle.pb_schema.specs.declared.types.Field.{Field}
use Rattle.pb_schema.specs.View.{field_view}
use Rattle.pb_schema.specs.Types.{FieldView}
use Rattle.pb_schema.specs.Tables.{IsNumbered}
use Rattle.pb_schema.proofs.NameSetLemmas.{AllDiffer-push, AllDiffer-new}

-- the numbers of fields, each with its index, from some index on
abbrev pub entries_from : ℕ → List Field → List (ℕ × ℕ)
entries_from i [] = []
entries_from i (f ∷ fs) = (f.number, i) ∷ entries_from (suc i) fs

pub entries_from-push : (i : ℕ) (fs : List Field) (f : Field) → entries_from i (fs ++ f ∷ []) ≡ entries_from i fs ++ (f.number, i + length fs) ∷ []
entries_from-push i [] f = ap (λ k. (f.number, k) ∷ []) (omega arith)
entries_from-push i (g ∷ gs) f =
    let e : suc i + length gs ≡ i + length (g ∷ gs) = omega arith in
    ap (λ l. (g.number, i) ∷ l) (entries_from-push (suc i) gs f ∙ ap (λ k. entries_from (suc i) gs ++ (f.number, k) ∷ []) e)

-- an entry is that of a field
entry_of : (i : ℕ) (fs : List Field) (n k : ℕ) → Contains (entries_from i fs) (n, k) → (j : ℕ) × (k ≡ i + j) × IsNumbered (map field_view fs) n j
entry_of i [] n k h = Contains-none (n, k) h
entry_of i (f ∷ fs) n k h = by_place (Contains-cases (n, k) (f.number, i) (entries_from (suc i) fs) h) (entry_of (suc i) fs n k)
  where
    by_place : (◌≡◌ {A = ℕ × ℕ} (f.number, i) (n, k)) ⊎ Contains (entries_from (suc i) fs) (n, k) → (Contains (entries_from (suc i) fs) (n, k) → (j : ℕ) × (k ≡ suc i + j) × IsNumbered (map field_view fs) n j) → (j : ℕ) × (k ≡ i + j) × IsNumbered (map field_view (f ∷ fs)) n j
    by_place (inl e) later =
        let number : f.number ≡ n = ap (λ (p : ℕ × ℕ). p.0) e in
        let place : i ≡ k = ap (λ (p : ℕ × ℕ). p.1) e in
        (zero, omega (arith, place), ap Some number)
    by_place (inr h') later = let r = later h' in (suc r.0, omega (arith, r.1), r.2)

field_has : (i : ℕ) (fs : List Field) (n j : ℕ) → IsNumbered (map field_view fs) n j → Contains (entries_from i fs) (n, i + j)
field_has i [] n j h = absurd (none_some h)
  where
    none_some : {a : ℕ} → ◌≡◌ {A = Option ℕ} None (Some a) → ⊥
    none_some p = cc
field_has i (f ∷ fs) n zero h =
    let number : f.number ≡ n = cc in
    let e : ◌≡◌ {A = ℕ × ℕ} (f.number, i) (n, i + zero) = ap (λ m. (m, i)) number ∙ ap (λ k. (n, k)) (omega arith) in
    subst (λ (p : ℕ × ℕ). Contains ((f.number, i) ∷ entries_from (suc i) fs) p) e (Contains-first (f.number, i) (entries_from (suc i) fs))
field_has i (f ∷ fs) n (suc j) h =
    let e : ◌≡◌ {A = ℕ × ℕ} (n, suc i + j) (n, i + suc j) = ap (λ k. (n, k)) (omega arith) in
    subst (λ (p : ℕ × ℕ). Contains ((f.number, i) ∷ entries_from (suc i) fs) p) e (Contains-later (n, suc i + j) (f.number, i) (entries_from (suc i) fs) (field_has (suc i) fs n j h))

pub table_exact : (fs : List Field) (table : List (ℕ × ℕ)) → IsPermutation (entries_from 0 fs) table → (n i : ℕ) → Contains table (n, i) ↔ IsNumbered (map field_view fs) n i
table_exact fs table moved n i = (
  λ h. let r = entry_of 0 fs n i (Contains-permutation table (entries_from 0 fs) (n, i) (IsPermutation-sym (entries_from 0 fs) table moved) h) in
      let place : r.0 ≡ i = omega (arith, r.1) in
      subst (IsNumbered (map field_view fs) n) place r.2,
  λ h. let e : ◌≡◌ {A = ℕ × ℕ} (n, 0 + i) (n, i) = ap (λ k. (n, k)) (omega arith) in
      Contains-permutation (entries_from 0 fs) table (n, i) moved (subst (λ (p : ℕ × ℕ). Contains (entries_from 0 fs) p) e (field_has 0 fs n i h)),
)

pub entries-more : (fs : List Field) (i : ℕ) (d : Field) → i < length fs → entries_from 0 (take (i + 1) fs) ≡ entries_from 0 (take i fs) ++ ((get_or fs i d).number, i) ∷ []
entries-more fs i d h =
    let size : 0 + length (take i fs) ≡ i = omega (arith, length-take i fs, h) in
    ap (entries_from 0) (take_more fs i d h) ∙ entries_from-push 0 (take i fs) (get_or fs i d) ∙ ap (λ k. entries_from 0 (take i fs) ++ ((get_or fs i d).number, k) ∷ []) size

pub all_taken : (fs : List Field) (i : ℕ) → length fs ≤ i → take i fs ≡ fs
all_taken [] zero h = refl
all_taken [] (suc i) h = refl
all_taken (f ∷ fs) zero h = absurd (omega (arith, h))
all_taken (f ∷ fs) (suc i) h = ap (λ l. f ∷ l) (all_taken fs i (omega (arith, h)))

-- NUMBERS THAT DIFFER

abbrev pub numbers_of : List Field → List ℕ
numbers_of fs = map (λ (f : FieldView). f.number) (map field_view fs)

all_take : (P : ℕ → Type 0) (fs : List Field) (n : ℕ) → AllByRecursion P (numbers_of fs) → AllByRecursion P (numbers_of (take n fs))
all_take P [] zero all = tt
all_take P [] (suc n) all = tt
all_take P (f ∷ fs) zero all = tt
all_take P (f ∷ fs) (suc n) all = (all.0, all_take P fs n all.1)

differ_take : (fs : List Field) (n : ℕ) → AllDiffer (numbers_of fs) → AllDiffer (numbers_of (take n fs))
differ_take [] zero all = tt
differ_take [] (suc n) all = tt
differ_take (f ∷ fs) zero all = tt
differ_take (f ∷ fs) (suc n) all = (all_take (λ m. f.number ≢ m) fs n all.0, differ_take fs n all.1)

numbers-more : (fs : List Field) (i : ℕ) (x : Field) → i < length fs → x ≡ get_or fs i x → numbers_of (take (i + 1) fs) ≡ numbers_of (take i fs) ++ x.number ∷ []
numbers-more fs i x h is =
    let one_more : take (i + 1) fs ≡ take i fs ++ x ∷ [] = take_more fs i x h ∙ ap (λ y. take i fs ++ y ∷ []) (sym is) in
    ap numbers_of one_more ∙ ap (map (λ (f : FieldView). f.number)) (map-append field_view (take i fs) (x ∷ [])) ∙ map-append (λ (f : FieldView). f.number) (map field_view (take i fs)) (field_view x ∷ [])

or_true : (b : Bool) → (b || true) ≡ true
or_true true = refl
or_true false = refl

here : (n : ℕ) (ks : List ℕ) → Contains ks n → list_any (eqb n) ks ≡ true
here n [] h = Contains-none n h
here n (k ∷ ks) h =
    ⊎_elim (λ e. ap (λ b. b || list_any (eqb n) ks) ((Decides-eqb n k).1 (sym e))) (λ later. ap (λ b. eqb n k || b) (here n ks later) ∙ or_true (eqb n k)) (Contains-cases n k ks h)

not_false : (b : Bool) → not b ≡ false → b ≡ true
not_false true e = refl
not_false false e = sym e

not_true : (b : Bool) → not b ≡ true → b ≡ false
not_true true e = sym e
not_true false e = refl

pub number_again : (fs : List Field) (i : ℕ) (x : Field) (ks : List ℕ) (is_new : Bool) → i < length fs → x ≡ get_or fs i x → ks ≡ numbers_of (take i fs) → is_new ≡ not (list_any (eqb x.number) ks) → is_new ≡ false → IsTrue false ↔ AllDiffer (numbers_of fs)
number_again fs i x ks is_new h is keys added old =
    let known : Contains ks x.number = Contains-from_any (λ y z e. (Decides-eqb y z).0 e) x.number ks (not_false (list_any (eqb x.number) ks) (sym added ∙ old)) in
    let all_keys : numbers_of (take (i + 1) fs) ≡ ks ++ x.number ∷ [] = numbers-more fs i x h is ∙ ap (λ l. l ++ x.number ∷ []) (sym keys) in
    (λ e. absurd (false≢true e), λ all. absurd (AllDiffer-new ks x.number (subst AllDiffer all_keys (differ_take fs (i + 1) all)) known))

pub number_new : (fs : List Field) (i : ℕ) (x : Field) (ks ks' : List ℕ) (is_new : Bool) → i < length fs → x ≡ get_or fs i x → ks ≡ numbers_of (take i fs) → AllDiffer ks → is_new ≡ not (list_any (eqb x.number) ks) → is_new ≡ true → ks' ≡ (if list_any (eqb x.number) ks then ks else ks ++ x.number ∷ []) → (ks' ≡ numbers_of (take (i + 1) fs)) × AllDiffer ks'
number_new fs i x ks ks' is_new h is keys differ added new next =
    let unknown : list_any (eqb x.number) ks ≡ false = not_true (list_any (eqb x.number) ks) (sym added ∙ new) in
    let next_is : ks' ≡ ks ++ x.number ∷ [] = next ∙ ap (λ b. if b then ks else ks ++ x.number ∷ []) unknown in (
      next_is ∙ ap (λ l. l ++ x.number ∷ []) keys ∙ sym (numbers-more fs i x h is),
      subst AllDiffer (sym next_is) (AllDiffer-push ks x.number differ (λ h. false≢true (sym unknown ∙ here x.number ks h))),
    )

-- WHAT A SEARCH FINDS

same_number : (a b : ℕ) → nat_cmp a b ≡ Equal → a ≡ b
same_number a b e = grind (arith, nat_tests)

pub search_found : (table : List (ℕ × ℕ)) (n i : ℕ) → i < length table → ((d : ℕ × ℕ) → nat_cmp (get_or table i d).0 n ≡ Equal) → Contains table (n, (get_or table i (0, 0)).1)
search_found table n i h same =
    let entry = get_or table i (0, 0) in
    let e : ◌≡◌ {A = ℕ × ℕ} entry (n, entry.1) = ap (λ m. (m, entry.1)) (same_number entry.0 n (same (0, 0))) in
    subst (λ (p : ℕ × ℕ). Contains table p) e (Contains-get_or table i (0, 0) h)

rises : (a b n : ℕ) → a ≤ b → ordering_index (nat_cmp a n) ≤ ordering_index (nat_cmp b n)
rises a b n h = grind (arith, nat_tests)

not_less : (a n : ℕ) → a ≡ n → nat_cmp a n ≡ Less → ⊥
not_less a n e l = grind (arith, nat_tests)

not_greater : (a n : ℕ) → a ≡ n → nat_cmp a n ≡ Greater → ⊥
not_greater a n e g = grind (arith, nat_tests)

pub search_none : (table : List (ℕ × ℕ)) (n i : ℕ) → IsNonDecreasingBy (λ e. e.0) table → (IsNonDecreasingBy (λ (e : ℕ × ℕ). ordering_index (nat_cmp e.0 n)) table → IsPartitionPoint (λ (e : ℕ × ℕ). nat_cmp e.0 n ≡ Less) (λ e. nat_cmp e.0 n ≡ Greater) table i) → (k : ℕ) → ¬ Contains table (n, k)
search_none table n i rising parts k found =
    let split = parts (λ a b d le lt. rises (get_or table a d).0 (get_or table b d).0 n (rising a b d le lt)) in
    let j = found.0 in
    let same : (get_or table j (n, k)).0 ≡ n = ap (λ (p : ℕ × ℕ). p.0) found.2 in
    ⊎_elim (λ low. not_less (get_or table j (n, k)).0 n same (split.0 j (n, k) (omega arith) low)) (λ high. not_greater (get_or table j (n, k)).0 n same (split.1 j (n, k) high found.1)) (cases_lt j i)

-- the last number of a table is its largest
pub none_behind : (table : List (ℕ × ℕ)) (n : ℕ) → IsNonDecreasingBy (λ e. e.0) table → (get_or table (length table - 1) (0, 0)).0 < n → (i : ℕ) → ¬ Contains table (n, i)
none_behind table n rising less i found =
    let at : ℕ = found.0 in
    let bound : at < length table = found.1 in
    let there : (get_or table at (n, i)).0 ≡ n = ap (λ (e : ℕ × ℕ). e.0) found.2 in
    let inside : length table - 1 < length table = omega (arith, bound) in
    let last = ap (λ (e : ℕ × ℕ). e.0) (get_or_default table (length table - 1) (n, i) (0, 0) inside) in
    let most = rising at (length table - 1) (n, i) (omega (arith, bound)) inside in
    absurd (omega (arith, there, last, most, less))
