-- A list that stands at a place of another one, and what holds of each of its elements by its place.
use Rattle.std.proofs.Common.{◌≡◌, ℕ, zero, suc, ◌+◌, List, [], ◌∷◌, ◌++◌, Bool, true, false, cond, map, length, take, refl, sym, ap, ◌∙◌, subst, arith, Some, append_assoc, length-append}
use Rattle.std.specs.Prelude.{slice_get, filter}
use Rattle.std.specs.List.{enumerate_from}
use Rattle.std.proofs.lemmas.Option.{none-some}
use Rattle.pb_link_names.proofs.BehindLemmas.{some_same, get_behind, get_front}

-- COUNTS

abbrev pub count : {X : Type 0} → (X → Bool) → List X → ℕ
count t xs = length (filter t xs)

pub count_append : {X : Type 0} (t : X → Bool) (xs ys : List X) → count t (xs ++ ys) ≡ count t xs + count t ys
count_append t [] ys = let e : count t ys ≡ 0 + count t ys = omega arith in e
count_append {X = X} t (x ∷ xs) ys = by (t x) (count_append t xs ys)
  where
    by : (b : Bool) → count t (xs ++ ys) ≡ count t xs + count t ys → length (cond b (x ∷ filter t (xs ++ ys)) (filter t (xs ++ ys))) ≡ length (cond b (x ∷ filter t xs) (filter t xs)) + count t ys
    by true e = omega (arith, e)
    by false e = e

pub count_none : {X Y : Type 0} (t : X → Bool) (g : Y → X) (ys : List Y) → ((y : Y) → t (g y) ≡ false) → count t (map g ys) ≡ 0
count_none t g [] none = refl
count_none t g (y ∷ ys) none = ap (λ b. length (cond b (g y ∷ filter t (map g ys)) (filter t (map g ys)))) (none y) ∙ count_none t g ys none

-- CUTS

pub record Cut (X : Type 0) (whole : List X) (place : ℕ) (xs : List X) : Type 0 where
  pub before : List X
  pub after : List X
  pub is : whole ≡ before ++ (xs ++ after)
  pub at : length before ≡ place

take_front : {X : Type 0} (xs ys : List X) (n : ℕ) → n ≡ length xs → take n (xs ++ ys) ≡ xs
take_front [] ys n e = ap (λ k. take k ys) e
take_front (x ∷ xs) ys zero e = absurd (omega (arith, e))
take_front (x ∷ xs) ys (suc n) e = ap (λ l. x ∷ l) (take_front xs ys n (omega (arith, e)))

module _ (X : Type 0) (whole : List X) where
  pub cut_front : (place : ℕ) (xs ys : List X) → Cut X whole place (xs ++ ys) → Cut X whole place xs
  cut_front place xs ys c = record { before = c.before; after = ys ++ c.after; is = c.is ∙ ap (λ l. c.before ++ l) (append_assoc xs ys c.after); at = c.at }

  pub cut_back : (place : ℕ) (xs ys : List X) → Cut X whole place (xs ++ ys) → Cut X whole (place + length xs) ys
  cut_back place xs ys c = record {
    before = c.before ++ xs;
    after = c.after;
    is = c.is ∙ ap (λ l. c.before ++ l) (append_assoc xs ys c.after) ∙ sym (append_assoc c.before xs (ys ++ c.after));
    at = length-append c.before xs ∙ ap (λ n. n + length xs) c.at;
  }

  pub cut_get : (place : ℕ) (xs : List X) (i : ℕ) (x : X) → Cut X whole place xs → slice_get xs i ≡ Some x → slice_get whole (place + i) ≡ Some x
  cut_get place xs i x c there =
      ap (λ l. slice_get l (place + i)) c.is ∙ get_behind c.before (xs ++ c.after) i (place + i) (ap (λ n. n + i) (sym c.at)) ∙ get_front xs c.after i x there

  pub cut_first : (place : ℕ) (x : X) (xs : List X) → Cut X whole place (x ∷ xs) → slice_get whole place ≡ Some x
  cut_first place x xs c = let e : place ≡ place + 0 = omega arith in ap (slice_get whole) e ∙ cut_get place (x ∷ xs) 0 x c refl

  -- how many stand before what is after it
  pub cut_count : (t : X → Bool) (place : ℕ) (xs : List X) → Cut X whole place xs → count t (take (place + length xs) whole) ≡ count t (take place whole) + count t xs
  cut_count t place xs c =
      let long : place + length xs ≡ length (c.before ++ xs) = ap (λ n. n + length xs) (sym c.at) ∙ sym (length-append c.before xs) in
      let far : take (place + length xs) whole ≡ c.before ++ xs = ap (take (place + length xs)) (c.is ∙ sym (append_assoc c.before xs c.after)) ∙ take_front (c.before ++ xs) c.after (place + length xs) long in
      let near : take place whole ≡ c.before = ap (take place) c.is ∙ take_front c.before (xs ++ c.after) place (sym c.at) in
      ap (count t) far ∙ count_append t c.before xs ∙ ap (λ l. count t l + count t xs) (sym near)

-- EACH ELEMENT BY ITS PLACE

abbrev pub AllFrom : {X : Type 0} → (ℕ → X → Type 0) → ℕ → List X → Type 0
AllFrom P place [] = Unit {0}
AllFrom P place (x ∷ xs) = P place x × AllFrom P (place + 1) xs

pub from_append : {X : Type 0} (P : ℕ → X → Type 0) (place : ℕ) (xs ys : List X) → AllFrom P place xs → AllFrom P (place + length xs) ys → AllFrom P place (xs ++ ys)
from_append P place [] ys first second = let e : place + 0 ≡ place = omega arith in subst (λ n. AllFrom P n ys) e second
from_append P place (x ∷ xs) ys first second = let e : place + suc (length xs) ≡ place + 1 + length xs = omega arith in (first.0, from_append P (place + 1) xs ys first.1 (subst (λ n. AllFrom P n ys) e second))

pub from_map : {X Y : Type 0} (P : ℕ → X → Type 0) (g : ℕ × Y → X) (place k : ℕ) (ys : List Y) → ((j : ℕ) (y : Y) → slice_get ys j ≡ Some y → P (place + j) (g (k + j, y))) → AllFrom P place (map g (enumerate_from k ys))
from_map P g place k [] each = tt
from_map P g place k (y ∷ ys) each =
    let e : place + 0 ≡ place = omega arith in
    let f : k + 0 ≡ k = omega arith in (
      subst (λ n. P n (g (k, y))) e (subst (λ n. P (place + 0) (g (n, y))) f (each 0 y refl)),
      from_map P g (place + 1) (k + 1) ys (λ j z there.
          let a : place + suc j ≡ place + 1 + j = omega arith in
          let b : k + suc j ≡ k + 1 + j = omega arith in
          subst (λ n. P n (g (k + 1 + j, z))) a (subst (λ n. P (place + suc j) (g (n, z))) b (each (suc j) z there))),
    )

pub from_get : {X : Type 0} (P : ℕ → X → Type 0) (place : ℕ) (xs : List X) (k : ℕ) (x : X) → AllFrom P place xs → slice_get xs k ≡ Some x → P (place + k) x
from_get P place [] k x all there = absurd (none-some x there)
from_get P place (y ∷ xs) zero x all there = let e : place ≡ place + 0 = omega arith in subst (λ n. P n x) e (subst (P place) (some_same y x there) all.0)
from_get P place (y ∷ xs) (suc k) x all there = let e : place + 1 + k ≡ place + suc k = omega arith in subst (λ n. P n x) e (from_get P (place + 1) xs k x all.1 there)
