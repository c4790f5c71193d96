-- Names beside the places of what has them, where no place stands twice.
use Rattle.std.proofs.Common.{◌≡◌, ◌≢◌, ℕ, zero, suc, ◌+◌, List, [], ◌∷◌, ◌++◌, Bool, true, false, map, refl, sym, subst, arith, Option, Some, None, add-zero}
use Rattle.std.specs.Prelude.{slice_get, filter, filter_map, flat_map, cond}
use Rattle.std.specs.List.{AllByRecursion, AllZip, cons_option, enumerate_from}
use Rattle.std.proofs.lemmas.Option.{none-some}
use Rattle.pb_schema.specs.Names.{AllDiffer}
use Rattle.pb_link_names.proofs.BehindLemmas.{some_same, all_append}

-- each name is that of a place of some kind, and no place stands twice
pub record ArePlaced (N : ℕ → List ℕ → Type 0) (S : ℕ → Type 0) (names : List (List ℕ)) : Type 0 where
  pub places : List ℕ
  pub named : AllZip N places names
  pub among : AllByRecursion S places
  pub differ : AllDiffer places

all_widened : {X : Type 0} (P Q : X → Type 0) → ((x : X) → P x → Q x) → (xs : List X) → AllByRecursion P xs → AllByRecursion Q xs
all_widened P Q wider [] all = tt
all_widened P Q wider (x ∷ xs) all = (wider x all.0, all_widened P Q wider xs all.1)

zip_append : {X Y : Type 0} (R : X → Y → Type 0) (xs us : List X) (ys vs : List Y) → AllZip R xs ys → AllZip R us vs → AllZip R (xs ++ us) (ys ++ vs)
zip_append R [] us [] vs first second = second
zip_append R [] us (y ∷ ys) vs first second = absurd first
zip_append R (x ∷ xs) us [] vs first second = absurd first
zip_append R (x ∷ xs) us (y ∷ ys) vs first second = (first.0, zip_append R xs us ys vs first.1 second)

zip_mapped : {X Y Z : Type 0} (R : X → Z → Type 0) (f : Y → Z) (xs : List X) (ys : List Y) → AllZip (λ x y. R x (f y)) xs ys → AllZip R xs (map f ys)
zip_mapped R f [] [] h = tt
zip_mapped R f [] (y ∷ ys) h = absurd h
zip_mapped R f (x ∷ xs) [] h = absurd h
zip_mapped R f (x ∷ xs) (y ∷ ys) h = (h.0, zip_mapped R f xs ys h.1)

differ_append : (S T : ℕ → Type 0) → ((p : ℕ) → S p → T p → ⊥) → (ps qs : List ℕ) → AllByRecursion S ps → AllByRecursion T qs → AllDiffer ps → AllDiffer qs → AllDiffer (ps ++ qs)
differ_append S T apart [] qs first second one two = two
differ_append S T apart (p ∷ ps) qs first second one two =
    (all_append (λ q. p ≢ q) ps qs one.0 (all_widened T (λ q. p ≢ q) (λ q of_q same. apart q (subst S same first.0) of_q) qs second), differ_append S T apart ps qs first.1 second one.1 two)

placed_nothing : (N : ℕ → List ℕ → Type 0) (S : ℕ → Type 0) → ArePlaced N S []
placed_nothing N S = record { places = []; named = tt; among = tt; differ = tt }

pub placed_one : (N : ℕ → List ℕ → Type 0) (S : ℕ → Type 0) (p : ℕ) (name : List ℕ) → N p name → S p → ArePlaced N S (name ∷ [])
placed_one N S p name named of = record { places = p ∷ []; named = (named, tt); among = (of, tt); differ = (tt, tt) }

pub placed_append : (N : ℕ → List ℕ → Type 0) (S T U : ℕ → Type 0) → ((p : ℕ) → S p → T p → ⊥) → ((p : ℕ) → S p → U p) → ((p : ℕ) → T p → U p) → (xs ys : List (List ℕ)) → ArePlaced N S xs → ArePlaced N T ys → ArePlaced N U (xs ++ ys)
placed_append N S T U apart first_in second_in xs ys first second = record {
  places = first.places ++ second.places;
  named = zip_append N first.places second.places xs ys first.named second.named;
  among = all_append U first.places second.places (all_widened S U first_in first.places first.among) (all_widened T U second_in second.places second.among);
  differ = differ_append S T apart first.places second.places first.among second.among first.differ second.differ;
}

pub placed_wider : (N : ℕ → List ℕ → Type 0) (S U : ℕ → Type 0) → ((p : ℕ) → S p → U p) → (xs : List (List ℕ)) → ArePlaced N S xs → ArePlaced N U xs
placed_wider N S U wider xs h = record { places = h.places; named = h.named; among = all_widened S U wider h.places h.among; differ = h.differ }

pub placed_mapped : (N : ℕ → List ℕ → Type 0) (S : ℕ → Type 0) (f : List ℕ → List ℕ) (xs : List (List ℕ)) → ArePlaced (λ p name. N p (f name)) S xs → ArePlaced N S (map f xs)
placed_mapped N S f xs h = record { places = h.places; named = zip_mapped N f h.places xs h.named; among = h.among; differ = h.differ }

-- BY INDEX: what is of index i has places of kind S i, and a place is of one index

abbrev pub OfOne : (ℕ → ℕ → Type 0) → Type 0
OfOne S = (i j p : ℕ) → S i p → S j p → i ≡ j

of_one_later : (S : ℕ → ℕ → Type 0) → OfOne S → OfOne (λ i. S (suc i))
of_one_later S one i j p first second = omega (arith, one (suc i) (suc j) p first second)

-- names of the first index, and those of the later ones
placed_first : (N : ℕ → List ℕ → Type 0) (S : ℕ → ℕ → Type 0) → OfOne S → (xs ys : List (List ℕ)) → ArePlaced N (S 0) xs → ArePlaced N (λ p. (i : ℕ) × S (suc i) p) ys → ArePlaced N (λ p. (i : ℕ) × S i p) (xs ++ ys)
placed_first N S one xs ys first rest = placed_append N (S 0) (λ p. (i : ℕ) × S (suc i) p) (λ p. (i : ℕ) × S i p)
    (λ p here later. omega (arith, one 0 (suc later.0) p here later.1))
    (λ p here. (0, here))
    (λ p later. (suc later.0, later.1))
    xs ys first rest

placed_later : (N : ℕ → List ℕ → Type 0) (S : ℕ → ℕ → Type 0) (ys : List (List ℕ)) → ArePlaced N (λ p. (i : ℕ) × S (suc i) p) ys → ArePlaced N (λ p. (i : ℕ) × S i p) ys
placed_later N S ys rest = placed_wider N (λ p. (i : ℕ) × S (suc i) p) (λ p. (i : ℕ) × S i p) (λ p later. (suc later.0, later.1)) ys rest

pub placed_each : {X : Type 0} (N : ℕ → List ℕ → Type 0) (S : ℕ → ℕ → Type 0) → OfOne S → (g : X → List ℕ) (xs : List X) → ((i : ℕ) (x : X) → slice_get xs i ≡ Some x → ArePlaced N (S i) (g x ∷ [])) → ArePlaced N (λ p. (i : ℕ) × S i p) (map g xs)
placed_each N S one g [] each = placed_nothing N (λ p. (i : ℕ) × S i p)
placed_each N S one g (x ∷ xs) each = placed_first N S one (g x ∷ []) (map g xs) (each 0 x refl) (placed_each N (λ i. S (suc i)) (of_one_later S one) g xs (λ i y there. each (suc i) y there))

pub placed_flat : {X Y : Type 0} (N : ℕ → List ℕ → Type 0) (S : ℕ → ℕ → Type 0) → OfOne S → (g : Y → List (List ℕ)) (h : X → Y) (xs : List X) → ((i : ℕ) (x : X) → slice_get xs i ≡ Some x → ArePlaced N (S i) (g (h x))) → ArePlaced N (λ p. (i : ℕ) × S i p) (flat_map g (map h xs))
placed_flat N S one g h [] each = placed_nothing N (λ p. (i : ℕ) × S i p)
placed_flat N S one g h (x ∷ xs) each = placed_first N S one (g (h x)) (flat_map g (map h xs)) (each 0 x refl) (placed_flat N (λ i. S (suc i)) (of_one_later S one) g h xs (λ i y there. each (suc i) y there))

pub placed_types : {X Y : Type 0} (N : ℕ → List ℕ → Type 0) (S : ℕ → ℕ → Type 0) → OfOne S → (g : Y → List (List ℕ)) (h : X → Option Y) (xs : List X) → ((i : ℕ) (x : X) (y : Y) → slice_get xs i ≡ Some x → h x ≡ Some y → ArePlaced N (S i) (g y)) → ArePlaced N (λ p. (i : ℕ) × S i p) (flat_map g (filter_map h xs))
placed_types N S one g h [] each = placed_nothing N (λ p. (i : ℕ) × S i p)
placed_types {Y = Y} N S one g h (x ∷ xs) each = by_made (h x) refl (placed_types N (λ i. S (suc i)) (of_one_later S one) g h xs (λ i y z there made. each (suc i) y z there made))
  where
    by_made : (o : Option Y) → h x ≡ o → ArePlaced N (λ p. (i : ℕ) × S (suc i) p) (flat_map g (filter_map h xs)) → ArePlaced N (λ p. (i : ℕ) × S i p) (flat_map g (cons_option o (filter_map h xs)))
    by_made None made rest = placed_later N S (flat_map g (filter_map h xs)) rest
    by_made (Some y) made rest = placed_first N S one (g y) (flat_map g (filter_map h xs)) (each 0 x y refl made) rest

-- those that pass a test of their number and themselves, numbered from n on
pub placed_kept : (N : ℕ → List ℕ → Type 0) (S : ℕ → ℕ → Type 0) → OfOne S → (t : ℕ × List ℕ → Bool) (n : ℕ) (xs : List (List ℕ)) → ((i m : ℕ) (x : List ℕ) → m ≡ n + i → slice_get xs i ≡ Some x → t (m, x) ≡ true → ArePlaced N (S i) (x ∷ [])) → ArePlaced N (λ p. (i : ℕ) × S i p) (map (λ e. e.1) (filter t (enumerate_from n xs)))
placed_kept N S one t n [] each = placed_nothing N (λ p. (i : ℕ) × S i p)
placed_kept N S one t n (x ∷ xs) each = by_test (t (n, x)) refl (placed_kept N (λ i. S (suc i)) (of_one_later S one) t (n + 1) xs (λ i m y at there passes. each (suc i) m y (omega (arith, at)) there passes))
  where
    by_test : (b : Bool) → t (n, x) ≡ b → ArePlaced N (λ p. (i : ℕ) × S (suc i) p) (map (λ e. e.1) (filter t (enumerate_from (n + 1) xs))) → ArePlaced N (λ p. (i : ℕ) × S i p) (map (λ e. e.1) (cond b ((n, x) ∷ filter t (enumerate_from (n + 1) xs)) (filter t (enumerate_from (n + 1) xs))))
    by_test false fails rest = placed_later N S (map (λ e. e.1) (filter t (enumerate_from (n + 1) xs))) rest
    by_test true passes rest = placed_first N S one (x ∷ []) (map (λ e. e.1) (filter t (enumerate_from (n + 1) xs))) (each 0 n x (sym (add-zero n)) refl passes) rest

-- WHAT FOLLOWS

-- a name has a place
pub place_of_name : (N : ℕ → List ℕ → Type 0) (S : ℕ → Type 0) (names : List (List ℕ)) → ArePlaced N S names → (k : ℕ) (name : List ℕ) → slice_get names k ≡ Some name → (p : ℕ) × N p name
place_of_name N S names h k name there = by_zip h.places names k h.named there
  where
    by_zip : (ps : List ℕ) (ns : List (List ℕ)) (k : ℕ) → AllZip N ps ns → slice_get ns k ≡ Some name → (p : ℕ) × N p name
    by_zip [] [] k zip there = absurd (none-some name there)
    by_zip [] (n ∷ ns) k zip there = absurd zip
    by_zip (p ∷ ps) [] k zip there = absurd zip
    by_zip (p ∷ ps) (n ∷ ns) zero zip there = (p, subst (N p) (some_same n name there) zip.0)
    by_zip (p ∷ ps) (n ∷ ns) (suc k) zip there = by_zip ps ns k zip.1 there

-- where a name has one place, no name stands twice
pub placed_differ : (N : ℕ → List ℕ → Type 0) (S : ℕ → Type 0) → ((p q : ℕ) (name : List ℕ) → N p name → N q name → p ≡ q) → (names : List (List ℕ)) → ArePlaced N S names → AllDiffer names
placed_differ N S one names h = by_zip h.places names h.named h.differ
  where
    each : (p : ℕ) (n : List ℕ) → N p n → (ps : List ℕ) (ns : List (List ℕ)) → AllZip N ps ns → AllByRecursion (λ q. p ≢ q) ps → AllByRecursion (λ m. n ≢ m) ns
    each p n named [] [] zip differ = tt
    each p n named [] (m ∷ ns) zip differ = absurd zip
    each p n named (q ∷ ps) [] zip differ = tt
    each p n named (q ∷ ps) (m ∷ ns) zip differ = (λ same. differ.0 (one p q m (subst (N p) same named) zip.0), each p n named ps ns zip.1 differ.1)

    by_zip : (ps : List ℕ) (ns : List (List ℕ)) → AllZip N ps ns → AllDiffer ps → AllDiffer ns
    by_zip [] [] zip differ = tt
    by_zip [] (n ∷ ns) zip differ = absurd zip
    by_zip (p ∷ ps) [] zip differ = tt
    by_zip (p ∷ ps) (n ∷ ns) zip differ = (each p n zip.0 ps ns zip.1 differ.0, by_zip ps ns zip.1 differ.1)
