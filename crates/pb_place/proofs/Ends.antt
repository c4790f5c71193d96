-- Places that end at a field or an index, and places that do not.
use Rattle.std.proofs.Common.{◌≡◌, ℕ, List, [], ◌∷◌, ◌++◌, Option, Some, None, option_map, refl, ap}
use Rattle.std.specs.Prelude.{true, false, is_some}
use Rattle.pb_place.specs.At.{Seen}
use Rattle.pb_place.specs.declared.step.PlaceStep.{PlaceStep}
use Rattle.pb_place.specs.declared.step.PlaceStep.TheVariants.{Field, Index, Key}
use Rattle.pb_place.specs.Changed.{field_place, index_place, element_by}

-- one step more in front
longer : (s t : PlaceStep) (p : List PlaceStep) (o : Option (List PlaceStep × ℕ)) → field_place (t ∷ p) ≡ o → field_place (s ∷ t ∷ p) ≡ option_map (λ q. (s ∷ q.0, q.1)) o
longer (Field n) t p o e = ap (option_map (λ q. (Field n ∷ q.0, q.1))) e
longer (Index i) t p o e = ap (option_map (λ q. (Index i ∷ q.0, q.1))) e
longer (Key k) t p o e = ap (option_map (λ q. (Key k ∷ q.0, q.1))) e

pub ends_at_field : (p : List PlaceStep) (n : ℕ) → field_place (p ++ Field n ∷ []) ≡ Some (p, n)
ends_at_field [] n = refl
ends_at_field (s ∷ []) n = longer s (Field n) [] (Some ([], n)) refl
ends_at_field (s ∷ t ∷ p) n = longer s t (p ++ Field n ∷ []) (Some (t ∷ p, n)) (ends_at_field (t ∷ p) n)

ends_otherwise : (p : List PlaceStep) (s : PlaceStep) → field_place (s ∷ []) ≡ None → field_place (p ++ s ∷ []) ≡ None
ends_otherwise [] s e = e
ends_otherwise (t ∷ []) s e = longer t s [] None e
ends_otherwise (t ∷ u ∷ p) s e = longer t u (p ++ s ∷ []) None (ends_otherwise (u ∷ p) s e)

pub ends_elsewhere : (p : List PlaceStep) (s : PlaceStep) → ((n : ℕ) → s ≡ Field n → ⊥) → field_place (p ++ s ∷ []) ≡ None
ends_elsewhere p (Field n) h = absurd (h n refl)
ends_elsewhere p (Index i) h = ends_otherwise p (Index i) refl
ends_elsewhere p (Key k) h = ends_otherwise p (Key k) refl

longer_list :
    (s t : PlaceStep) (p : List PlaceStep) (o : Option (List PlaceStep × ℕ)) → index_place (t ∷ p) ≡ o → index_place (s ∷ t ∷ p) ≡ option_map (λ q. (s ∷ q.0, q.1)) o
longer_list (Field n) t p o e = ap (option_map (λ q. (Field n ∷ q.0, q.1))) e
longer_list (Index i) t p o e = ap (option_map (λ q. (Index i ∷ q.0, q.1))) e
longer_list (Key k) t p o e = ap (option_map (λ q. (Key k ∷ q.0, q.1))) e

pub ends_at_index : (p : List PlaceStep) (i : ℕ) → index_place (p ++ Index i ∷ []) ≡ Some (p, i)
ends_at_index [] i = refl
ends_at_index (s ∷ []) i = longer_list s (Index i) [] (Some ([], i)) refl
ends_at_index (s ∷ t ∷ p) i = longer_list s t (p ++ Index i ∷ []) (Some (t ∷ p, i)) (ends_at_index (t ∷ p) i)

ends_at_none : (p : List PlaceStep) (s : PlaceStep) → index_place (s ∷ []) ≡ None → index_place (p ++ s ∷ []) ≡ None
ends_at_none [] s e = e
ends_at_none (t ∷ []) s e = longer_list t s [] None e
ends_at_none (t ∷ u ∷ p) s e = longer_list t u (p ++ s ∷ []) None (ends_at_none (u ∷ p) s e)

pub ends_at_no_index : (p : List PlaceStep) (s : PlaceStep) → ((i : ℕ) → s ≡ Index i → ⊥) → index_place (p ++ s ∷ []) ≡ None
ends_at_no_index p (Field n) h = ends_at_none p (Field n) refl
ends_at_no_index p (Index i) h = absurd (h i refl)
ends_at_no_index p (Key k) h = ends_at_none p (Key k) refl

-- what is at a place that ends at no index is no element, nor is nothing
pub no_index : (x : Option Seen) → element_by x None ≡ None
no_index None = refl
no_index (Some x) = refl

pub nothing_there : (x : Option Seen) (o : Option (List PlaceStep × ℕ)) → is_some x ≡ false → element_by x o ≡ None
nothing_there None o e = refl
nothing_there (Some x) o e = absurd (cc)

pub in_its_list : (x : Option Seen) (q : List PlaceStep × ℕ) → is_some x ≡ true → element_by x (Some q) ≡ option_map (λ r. (r, q.1)) (field_place q.0)
in_its_list None q e = absurd (cc)
in_its_list (Some x) q e = refl
