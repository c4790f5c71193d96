-- The one thing of which a fact holds.
use Rattle.std.proofs.Common.{◌≡◌, ℕ, ◌<◌, List, Option, Some, None, IfSome, refl, sym, ap, ◌∙◌, subst}
use Rattle.std.specs.Option.{IsSomeAnd}
use Rattle.std.specs.Prelude.{ℤ, pos, option_map, FitsSigned}
use Rattle.std.specs.Int.{w32}
use Rattle.std.specs.Float.{Format}
use Rattle.pb_json_scalars.specs.Numbers.{IsIntegerText, IsFloatText}
use Rattle.pb_json_text.specs.Json.{Json}
use Rattle.pb_json_read.specs.Scalars.{IsOnly, IsInteger, characters}

pub only_from : {A : Type 0} (P : A → Type 0) (o : Option A) → IfSome o P → ((x : A) → P x → o ≡ Some x) → IsOnly P o
only_from P None holds all = λ x h. absurd (let e = all x h in cc)
only_from {A} P (Some y) holds all = (holds, λ x h. let e = all x h in let same : x ≡ y = cc in same)

-- what is made of it
pub only_made : {A B : Type 0} (P : A → Type 0) (f : A → B) (o : Option A) → IsOnly P o → IsOnly (λ (d : B). (x : A) × P x × (d ≡ f x)) (option_map f o)
only_made P f None only = λ d h. only h.0 h.1
only_made P f (Some y) only = ((y, only.0, refl), λ d h. h.2 ∙ ap f (only.1 h.0 h.1))

pub natural_only : (j : Json) (s : List ℕ) (o : Option ℕ) (k : ℕ) → characters j ≡ Some s → IfSome o (λ n. IsIntegerText s (pos n)) → IfSome o (λ n. n < k)
    → ((n : ℕ) → IsIntegerText s (pos n) → n < k → o ≡ Some n) → IsOnly (λ n. IsInteger j (pos n) × (n < k)) o
natural_only j s None k is holds small all = λ n h. absurd (let e = all n (subst (λ (c : Option (List ℕ)). IsSomeAnd c (λ t. IsIntegerText t (pos n))) is h.0) h.1 in cc)
natural_only j s (Some m) k is holds small all = (
  (subst (λ (c : Option (List ℕ)). IsSomeAnd c (λ t. IsIntegerText t (pos m))) (sym is) holds, small),
  λ n h. let e = all n (subst (λ (c : Option (List ℕ)). IsSomeAnd c (λ t. IsIntegerText t (pos n))) is h.0) h.1 in let same : n ≡ m = cc in same,
)

pub float_only : (f : Format) (s t : List ℕ) (o : Option ℕ) → t ≡ s → IfSome o (IsFloatText f t) → ((b : ℕ) → IsFloatText f t b → o ≡ Some b) → IsOnly (IsFloatText f s) o
float_only f s t o same holds all = subst (λ (u : List ℕ). IsOnly (IsFloatText f u) o) same (only_from (IsFloatText f t) o holds all)

pub signed_only : (s t : List ℕ) (o : Option ℤ) → t ≡ s → IfSome o (IsIntegerText t) → IfSome o (FitsSigned w32)
    → ((z : ℤ) → IsIntegerText t z → FitsSigned w32 z → o ≡ Some z) → IsOnly (λ z. IsIntegerText s z × FitsSigned w32 z) o
signed_only s t o same holds fits all =
    subst (λ (u : List ℕ). IsOnly (λ z. IsIntegerText u z × FitsSigned w32 z) o) same
    (only_from (λ z. IsIntegerText t z × FitsSigned w32 z) o (both o holds fits) (λ z h. all z h.0 h.1))
  where
    both : (o : Option ℤ) → IfSome o (IsIntegerText t) → IfSome o (FitsSigned w32) → IfSome o (λ z. IsIntegerText t z × FitsSigned w32 z)
    both None a b = tt
    both (Some z) a b = (a, b)

-- what is read of some characters, in a range
pub ranged_only : {A : Type 0} (P F : A → Type 0) (o : Option A) → IfSome o P → IfSome o F → ((x : A) → P x → F x → o ≡ Some x) → IsOnly (λ x. P x × F x) o
ranged_only {A} P F o holds fits all = only_from (λ x. P x × F x) o (both o holds fits) (λ x h. all x h.0 h.1)
  where
    both : (o : Option A) → IfSome o P → IfSome o F → IfSome o (λ x. P x × F x)
    both None a b = tt
    both (Some x) a b = (a, b)

-- what is made of one thing, as it is seen
pub only_some : {A B : Type 0} (P : A → Type 0) (f : A → B) (x : A) (d : B) → d ≡ f x → IsOnly P (Some x) → IsOnly (λ (c : B). (y : A) × P y × (c ≡ f y)) (Some d)
only_some {A} {B} P f x d e only = subst (λ (b : B). IsOnly (λ (c : B). (y : A) × P y × (c ≡ f y)) (Some b)) (sym e) (only_made P f (Some x) only)
