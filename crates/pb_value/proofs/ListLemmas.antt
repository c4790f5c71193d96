-- Facts of each element of a list.
use Rattle.std.proofs.Common.{◌≡◌, List, [], ◌∷◌, ◌++◌, map, inl, inr, refl, Option, Some, None, IfSome, option_map}
use Rattle.std.specs.Prelude.{◌⊎◌, Bool, true, false, filter, unwrap_or, if◌then◌else◌}
use Rattle.std.specs.List.{AllByRecursion, filter_map, cons_option, list_all}
use Rattle.std.specs.Option.{option_to_list}
use Rattle.pb_value.specs.Value.{last_of, last_run}
use Rattle.pb_value.proofs.BytesLemmas.{both}

pub all_append : {X : Type 0} (P : X → Type 0) (xs ys : List X) → AllByRecursion P xs → AllByRecursion P ys → AllByRecursion P (xs ++ ys)
all_append P [] ys h g = g
all_append P (x ∷ xs) ys h g = (h.0, all_append P xs ys h.1 g)

-- of elements that have P, those that a test lets through have P and pass
pub all_filter : {X : Type 0} (P : X → Type 0) (t : X → Bool) (xs : List X) → AllByRecursion P xs → AllByRecursion (λ x. P x × (t x ≡ true)) (filter t xs)
all_filter P t [] h = tt
all_filter {X} P t (x ∷ xs) h = by_test (t x) refl (all_filter P t xs h.1)
  where
    by_test : (b : Bool) → t x ≡ b → AllByRecursion (λ (y : X). P y × (t y ≡ true)) (filter t xs) → AllByRecursion (λ (y : X). P y × (t y ≡ true)) (if b then x ∷ filter t xs else filter t xs)
    by_test true e more = ((h.0, e), more)
    by_test false e more = more

pub all_weaker : {X : Type 0} (P Q : X → Type 0) → ((x : X) → P x → Q x) → (xs : List X) → AllByRecursion P xs → AllByRecursion Q xs
all_weaker P Q f [] h = tt
all_weaker P Q f (x ∷ xs) h = (f x h.0, all_weaker P Q f xs h.1)

pub all_map : {X Y : Type 0} (P : X → Type 0) (Q : Y → Type 0) (f : X → Y) → ((x : X) → P x → Q (f x)) → (xs : List X) → AllByRecursion P xs → AllByRecursion Q (map f xs)
all_map P Q f g [] h = tt
all_map P Q f g (x ∷ xs) h = (g x h.0, all_map P Q f g xs h.1)

-- what a function finds of elements of which P holds
pub all_found : {X Y : Type 0} (P : X → Type 0) (Q : Y → Type 0) (f : X → Option Y) → ((x : X) → P x → IfSome (f x) Q) → (xs : List X) → AllByRecursion P xs → AllByRecursion Q (filter_map f xs)
all_found P Q f g [] h = tt
all_found {X} {Y} P Q f g (x ∷ xs) h = one_more (f x) (filter_map f xs) (g x h.0) (all_found P Q f g xs h.1)
  where
    one_more : (o : Option Y) (ys : List Y) → IfSome o Q → AllByRecursion Q ys → AllByRecursion Q (cons_option o ys)
    one_more None ys a b = b
    one_more (Some y) ys a b = (a, b)

pub listed : {X : Type 0} (P : X → Type 0) (o : Option X) → IfSome o P → AllByRecursion P (option_to_list o)
listed P None h = tt
listed P (Some x) h = (h, tt)

-- WHAT MAY BE THERE

pub last_of-all : {X : Type 0} (P : X → Type 0) (xs : List X) → AllByRecursion P xs → IfSome (last_of xs) P
last_of-all P [] h = tt
last_of-all P (x ∷ []) h = h.0
last_of-all P (x ∷ y ∷ ys) h = last_of-all P (y ∷ ys) h.1

pub some_mapped : {X Y : Type 0} (P : X → Type 0) (Q : Y → Type 0) (f : X → Y) → ((x : X) → P x → Q (f x)) → (o : Option X) → IfSome o P → IfSome (option_map f o) Q
some_mapped P Q f g None h = tt
some_mapped P Q f g (Some x) h = g x h

pub or_default : {X : Type 0} (P : X → Type 0) (o : Option X) (d : X) → IfSome o P → P d → P (unwrap_or o d)
or_default P None d h g = g
or_default P (Some x) d h g = h

-- THE LAST RUN

all_pass : {X : Type 0} (P : X → Type 0) (p : X → Bool) (xs : List X) → AllByRecursion P xs → list_all p xs ≡ true → AllByRecursion (λ x. P x × (p x ≡ true)) xs
all_pass P p [] h e = tt
all_pass P p (x ∷ xs) h e = let parts = both (p x) (list_all p xs) e in ((h.0, parts.0), all_pass P p xs h.1 parts.1)

-- of the longest end whose elements pass, each passes
pub all_last_run : {X : Type 0} (P : X → Type 0) (p : X → Bool) (xs : List X) → AllByRecursion P xs → AllByRecursion (λ x. P x × (p x ≡ true)) (last_run p xs)
all_last_run P p [] h = tt
all_last_run {X} P p (x ∷ xs) h = by_test (list_all p (x ∷ xs)) refl (all_last_run P p xs h.1)
  where
    by_test : (b : Bool) → list_all p (x ∷ xs) ≡ b → AllByRecursion (λ (y : X). P y × (p y ≡ true)) (last_run p xs) → AllByRecursion (λ (y : X). P y × (p y ≡ true)) (if b then x ∷ xs else last_run p xs)
    by_test true e later = all_pass P p (x ∷ xs) h e
    by_test false e later = later

-- that a list has a last element, and it passes
unfoldable pub LastPasses : {X : Type 0} → (X → Bool) → List X → Type 0
LastPasses {X} p xs = (x : X) × (last_of xs ≡ Some x) × (p x ≡ true)

last_passes : {X : Type 0} (p : X → Bool) (x : X) (xs : List X) → list_all p (x ∷ xs) ≡ true → LastPasses p (x ∷ xs)
unfolding LastPasses
last_passes p x [] e = (x, refl, (both (p x) true e).0)
last_passes p x (y ∷ ys) e = last_passes p y ys (both (p x) (list_all p (y ∷ ys)) e).1

-- where some end passes, the last element does
pub last_run-last : {X : Type 0} (p : X → Bool) (xs : List X) → (last_run p xs ≡ []) ⊎ LastPasses p xs
unfolding LastPasses
last_run-last p [] = inl refl
last_run-last {X} p (x ∷ xs) = by_test (list_all p (x ∷ xs)) refl (last_run-last p xs)
  where
    more : (ys : List X) → LastPasses p ys → LastPasses p (x ∷ ys)
    more [] h = let none = h.1 in absurd (cc)
    more (y ∷ ys) h = h

    by_test : (b : Bool) → list_all p (x ∷ xs) ≡ b → (last_run p xs ≡ []) ⊎ LastPasses p xs → ((if b then x ∷ xs else last_run p xs) ≡ []) ⊎ LastPasses p (x ∷ xs)
    by_test true e later = inr (last_passes p x xs e)
    by_test false e (inl none) = inl none
    by_test false e (inr some) = inr (more xs some)
