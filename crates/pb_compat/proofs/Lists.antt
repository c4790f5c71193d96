-- Elements of lists by their index.
use Rattle.std.proofs.Common.{◌≡◌, ◌≢◌, ◌≤◌, ◌<◌, ◌+◌, ◌⊎◌, inl, inr, ⊎_elim, ℕ, zero, suc, List, [], ◌∷◌, ◌++◌, length, get_or, take, drop, map, Option, Some, None, refl, sym, ◌∙◌, ap, subst, arith, Contains, get_or-take, length-take-le, take-append-drop}
use Rattle.std.specs.Prelude.{slice_get, IsSomeAnd}
use Rattle.std.specs.List.{AllByRecursion}
use Rattle.std.specs.List.Sorted.{IsNonDecreasing}
use Rattle.std.proofs.lemmas.Bool.{cases_lt}
use Rattle.std.proofs.lemmas.Option.{slice_get-get_or, slice_get_within}
use Rattle.pb_graphs.proofs.ContainsLemmas.{Contains-none, Contains-first, Contains-later, Contains-cases}
use Rattle.pb_schema.specs.Names.{AllDiffer}
use Rattle.pb_schema.proofs.NameSetLemmas.{AllDiffer-front, AllDiffer-new}

none_some : {X : Type 0} {x : X} → ◌≡◌ {A = Option X} None (Some x) → ⊥
none_some p = cc

some_same : {X : Type 0} {x y : X} {o : Option X} → o ≡ Some x → o ≡ Some y → x ≡ y
some_same p q = cc

pub get_front : {X : Type 0} (xs ys : List X) (i : ℕ) (x : X) → slice_get xs i ≡ Some x → slice_get (xs ++ ys) i ≡ Some x
get_front [] ys i x h = absurd (none_some h)
get_front (z ∷ zs) ys zero x h = h
get_front (z ∷ zs) ys (suc i) x h = get_front zs ys i x h

pub get_pushed : {X : Type 0} (xs : List X) (y : X) → slice_get (xs ++ y ∷ []) (length xs) ≡ Some y
get_pushed [] y = refl
get_pushed (z ∷ zs) y = get_pushed zs y

pub get_push_cases : {X : Type 0} (xs : List X) (y : X) (i : ℕ) (x : X) → slice_get (xs ++ y ∷ []) i ≡ Some x → (slice_get xs i ≡ Some x) ⊎ ((i ≡ length xs) × (y ≡ x))
get_push_cases [] y zero x h = inr (refl, some_same refl h)
get_push_cases [] y (suc i) x h = absurd (none_some h)
get_push_cases (z ∷ zs) y zero x h = inl h
get_push_cases (z ∷ zs) y (suc i) x h = elim (get_push_cases zs y i x h) [ inl e ↦ inl e | inr e ↦ inr (ap suc e.0, e.1) ]

pub all_got : {X : Type 0} (P : X → Type 0) (xs : List X) (i : ℕ) (x : X) → AllByRecursion P xs → slice_get xs i ≡ Some x → P x
all_got P [] i x all h = absurd (none_some h)
all_got P (y ∷ ys) zero x all h = subst P (some_same refl h) all.0
all_got P (y ∷ ys) (suc i) x all h = all_got P ys i x all.1 h

pub all_pushed : {X : Type 0} (P : X → Type 0) (xs : List X) (y : X) → AllByRecursion P xs → P y → AllByRecursion P (xs ++ y ∷ [])
all_pushed P [] y all p = (p, tt)
all_pushed P (x ∷ xs) y all p = (all.0, all_pushed P xs y all.1 p)

pub contains_got : {X : Type 0} (xs : List X) (i : ℕ) (x : X) → slice_get xs i ≡ Some x → Contains xs x
contains_got [] i x h = absurd (none_some h)
contains_got (y ∷ ys) zero x h = subst (Contains (y ∷ ys)) (some_same refl h) (Contains-first y ys)
contains_got (y ∷ ys) (suc i) x h = Contains-later x y ys (contains_got ys i x h)

-- what holds of all holds of each
pub all_contained : {X : Type 0} (P : X → Type 0) (xs : List X) (x : X) → AllByRecursion P xs → Contains xs x → P x
all_contained P [] x all h = Contains-none x h
all_contained P (y ∷ ys) x all h = ⊎_elim (λ e. subst P e all.0) (λ later. all_contained P ys x all.1 later) (Contains-cases x y ys h)

pub index_of : {X : Type 0} (xs : List X) (x : X) → Contains xs x → (i : ℕ) × (slice_get xs i ≡ Some x)
index_of [] x h = Contains-none x h
index_of (y ∷ ys) x h = ⊎_elim (λ e. (zero, ap Some e)) (λ later. let r = index_of ys x later in (suc r.0, r.1)) (Contains-cases x y ys h)

pub none_past : {X : Type 0} (xs : List X) (i : ℕ) → slice_get xs i ≡ None → length xs ≤ i
none_past [] i h = omega arith
none_past (y ∷ ys) zero h = absurd (none_some (sym h))
none_past (y ∷ ys) (suc i) h = let r : length ys ≤ i = none_past ys i h in omega (arith, r)

-- two lists whose elements go together
pub map_same : {X Y : Type 0} (f : X → Y) (xs : List X) (ys : List Y) → length xs ≡ length ys → ((i : ℕ) (x : X) → slice_get xs i ≡ Some x → slice_get ys i ≡ Some (f x)) → map f xs ≡ ys
map_same f [] [] size at = refl
map_same f [] (y ∷ ys) size at = absurd (omega (arith, size))
map_same f (x ∷ xs) [] size at = absurd (omega (arith, size))
map_same f (x ∷ xs) (y ∷ ys) size at =
    let first : y ≡ f x = some_same refl (at 0 x refl) in
    let later : map f xs ≡ ys = map_same f xs ys (omega (arith, size)) (λ i z h. at (suc i) z h) in
    ap (λ z. z ∷ map f xs) (sym first) ∙ ap (λ zs. y ∷ zs) later

pub some_mapped : {X Y : Type 0} (f : X → Y) (P : Y → Type 0) (xs : List X) (i : ℕ) → IsSomeAnd (slice_get (map f xs) i) P → IsSomeAnd (slice_get xs i) (λ x. P (f x))
some_mapped f P [] i h = absurd h
some_mapped f P (x ∷ xs) zero h = h
some_mapped f P (x ∷ xs) (suc i) h = some_mapped f P xs i h

-- elements that differ: the next one is not among those before it
pub taken_differ : {X : Type 0} (j : ℕ) (x : X) (xs : List X) → AllDiffer xs → take (j + 1) xs ≡ take j xs ++ x ∷ [] → ¬ Contains (take j xs) x
taken_differ {X} j x xs differ longer =
    let whole : AllDiffer (take (j + 1) xs ++ drop (j + 1) xs) = subst (AllDiffer {X = X}) (sym (take-append-drop (j + 1) xs)) differ in
    AllDiffer-new (take j xs) x (subst (AllDiffer {X = X}) longer (AllDiffer-front (take (j + 1) xs) (drop (j + 1) xs) whole))

-- where elements differ, equal ones have one index
pub one_index : {X : Type 0} (xs : List X) (i j : ℕ) (x : X) → AllDiffer xs → slice_get xs i ≡ Some x → slice_get xs j ≡ Some x → i ≡ j
one_index [] i j x all h g = absurd (none_some h)
one_index (y ∷ ys) zero zero x all h g = refl
one_index (y ∷ ys) zero (suc j) x all h g = absurd (all_contained (λ z. y ≢ z) ys x all.0 (contains_got ys j x g) (some_same refl h))
one_index (y ∷ ys) (suc i) zero x all h g = absurd (all_contained (λ z. y ≢ z) ys x all.0 (contains_got ys i x h) (some_same refl g))
one_index (y ∷ ys) (suc i) (suc j) x all h g = ap suc (one_index ys i j x all.1 h g)

-- an element at an index is among those taken that are more
pub contains_taken : {X : Type 0} (xs : List X) (i j : ℕ) (x : X) → i < j → slice_get xs i ≡ Some x → Contains (take j xs) x
contains_taken [] i j x less h = absurd (none_some h)
contains_taken (y ∷ ys) i zero x less h = absurd (omega (arith, less))
contains_taken (y ∷ ys) zero (suc j) x less h = subst (Contains (y ∷ take j ys)) (some_same refl h) (Contains-first y (take j ys))
contains_taken (y ∷ ys) (suc i) (suc j) x less h = Contains-later x y (take j ys) (contains_taken ys i j x (omega (arith, less)) h)

-- NUMBERS THAT DO NOT FALL

-- an element by its index
at_index : (ns : List ℕ) (i k : ℕ) → slice_get ns i ≡ Some k → k ≡ get_or ns i 0
at_index ns i k h = some_same h (slice_get-get_or ns i 0 (slice_get_within ns i k h))

pub taken_least : (ns : List ℕ) (j k : ℕ) → IsNonDecreasing ns → j < length ns → Contains (take j ns) k → k ≤ get_or ns j 0
taken_least ns j k rising inside h =
    let i = index_of (take j ns) k h in
    let size : length (take j ns) ≡ j = length-take-le j ns (omega (arith, inside)) in
    let within : i.0 < j = omega (arith, slice_get_within (take j ns) i.0 k i.1, size) in
    let is : k ≡ get_or ns i.0 0 = at_index (take j ns) i.0 k i.1 ∙ get_or-take j ns i.0 0 within in
    omega (arith, is, rising i.0 j 0 (omega (arith, within)) inside)

pub taken_or_no_less : (ns : List ℕ) (j k : ℕ) → IsNonDecreasing ns → Contains ns k → Contains (take j ns) k ⊎ (get_or ns j 0 ≤ k)
taken_or_no_less ns j k rising h = ⊎_elim (λ less. inl (taken less)) (λ most. inr (no_less most)) (cases_lt i.0 j)
  where
    i : (i : ℕ) × (slice_get ns i ≡ Some k)
    i = index_of ns k h

    inside : i.0 < length ns
    inside = slice_get_within ns i.0 k i.1

    is : k ≡ get_or ns i.0 0
    is = at_index ns i.0 k i.1

    taken : i.0 < j → Contains (take j ns) k
    taken less = contains_taken ns i.0 j k less i.1

    no_less : j ≤ i.0 → get_or ns j 0 ≤ k
    no_less most = omega (arith, is, rising j i.0 0 most inside)

-- ELEMENTS THAT A FUNCTION MAKES

pub get_mapped : {X Y : Type 0} (f : X → Y) (xs : List X) (i : ℕ) (x : X) → slice_get xs i ≡ Some x → slice_get (map f xs) i ≡ Some (f x)
get_mapped f [] i x h = absurd (none_some h)
get_mapped f (y ∷ ys) zero x h = ap (λ z. Some (f z)) (some_same refl h)
get_mapped f (y ∷ ys) (suc i) x h = get_mapped f ys i x h

pub mapped_got : {X Y : Type 0} (f : X → Y) (xs : List X) (i : ℕ) (y : Y) → slice_get (map f xs) i ≡ Some y → (x : X) × (slice_get xs i ≡ Some x) × (f x ≡ y)
mapped_got f [] i y h = absurd (none_some h)
mapped_got f (x ∷ xs) zero y h = (x, refl, some_same refl h)
mapped_got f (x ∷ xs) (suc i) y h = mapped_got f xs i y h

-- where there is an element there is one at each index before it
pub get_earlier : {X : Type 0} (xs : List X) (i j : ℕ) (y : X) → i < j → slice_get xs j ≡ Some y → (x : X) × (slice_get xs i ≡ Some x)
get_earlier [] i j y less h = absurd (none_some h)
get_earlier (x ∷ xs) zero j y less h = (x, refl)
get_earlier (x ∷ xs) (suc i) zero y less h = absurd (omega (arith, less))
get_earlier (x ∷ xs) (suc i) (suc j) y less h = get_earlier xs i j y (omega (arith, less)) h
