-- The order of enums is one order: of two enums, one stands before the other, through all between.
use Rattle.std.proofs.Common.{◌≡◌, ◌≢◌, ℕ, zero, suc, ◌<◌, ◌≤◌, ◌⊎◌, inl, inr, List, [], ◌∷◌, sym, ◌∙◌, subst, arith, Option, Some, None}
use Rattle.std.specs.Prelude.{slice_get}
use Rattle.std.specs.List.{AllByRecursion}
use Rattle.std.proofs.lemmas.Bool.{cases_eq, cases_lt}
use Rattle.std.proofs.lemmas.Option.{none-some}
use Rattle.pb_schema.specs.Types.{MessageView, EnumView}
use Rattle.pb_schema.specs.Nesting.{parent_of, IsWithin}
use Rattle.pb_schema.specs.Rules.{FollowsParent, EndsNoLater, StandsBefore, EnumsStandInOrder}
use Rattle.pb_link.proofs.ForestLemmas.{within_trans, within_least, between, all_each}

module _ (ms : List MessageView) (follow : (i : ℕ) → FollowsParent ms i) (before : (m p : ℕ) → parent_of ms m ≡ Some p → p < m) where
  least : (p m : ℕ) → IsWithin ms p m → p ≤ m
  least = within_least ms follow before

  -- a message that ends before another one begins, or in it, and so on
  ends_trans : (a b c : ℕ) → IsWithin ms b a ⊎ ((a < b) × ¬ IsWithin ms a b) → IsWithin ms c b ⊎ ((b < c) × ¬ IsWithin ms b c) → IsWithin ms c a ⊎ ((a < c) × ¬ IsWithin ms a c)
  ends_trans a b c (inl w) (inl v) = inl (within_trans ms c b a v w)
  ends_trans a b c (inl w) (inr v) = inr (less, λ z. v.1 (within_trans ms b a c w z))
    where
      less : a < c
      less = by (cases_lt a c)
        where
          by : (a < c) ⊎ (c ≤ a) → a < c
          by (inl h) = h
          by (inr h) = absurd (let k = v.0 in v.1 (between ms follow before (suc a) b c a (omega arith) (omega (arith, k)) h w))
  ends_trans a b c (inr w) (inl v) = by (cases_lt a c) (cases_eq a c)
    where
      by : (a < c) ⊎ (c ≤ a) → (a ≡ c) ⊎ (a ≢ c) → IsWithin ms c a ⊎ ((a < c) × ¬ IsWithin ms a c)
      by (inl h) other = inr (h, λ z. w.1 (within_trans ms a c b z v))
      by (inr h) (inl e) = absurd (w.1 (subst (λ x. IsWithin ms x b) (sym e) v))
      by (inr h) (inr ne) = inl (let k = w.0 in between ms follow before (suc b) c a b (omega arith) h (omega (arith, k)) v)
  ends_trans a b c (inr w) (inr v) = inr (let h = w.0 in let k = v.0 in omega (arith, h, k), λ z. let h = w.0 in let k = v.0 in w.1 (between ms follow before (suc c) a b c (omega arith) (omega (arith, h)) (omega (arith, k)) z))

  none_trans : (a b c : Option ℕ) → EndsNoLater ms a b → EndsNoLater ms b c → EndsNoLater ms a c
  none_trans a b None first second = tt
  none_trans a None (Some c) first second = absurd second
  none_trans None (Some b) (Some c) first second = absurd first
  none_trans (Some a) (Some b) (Some c) first second = ends_trans a b c first second

  pub stands_trans : (d e f : EnumView) → StandsBefore ms d e → StandsBefore ms e f → StandsBefore ms d f
  stands_trans d e f (inl h) (inl k) = inl (omega (arith, h, k))
  stands_trans d e f (inl h) (inr k) = inl (let s = k.0 in omega (arith, h, s))
  stands_trans d e f (inr h) (inl k) = inl (let s = h.0 in omega (arith, k, s))
  stands_trans d e f (inr h) (inr k) = inr (h.0 ∙ k.0, none_trans d.parent e.parent f.parent h.1 k.1)

  behind_all : (e : EnumView) (es : List EnumView) → EnumsStandInOrder ms (e ∷ es) → AllByRecursion (λ x. StandsBefore ms e x) es
  behind_all e [] h = tt
  behind_all e (x ∷ es) h = (h.0, all_each (StandsBefore ms x) (StandsBefore ms e) es (λ y k. stands_trans e x y h.0 k) (behind_all x es h.1))

  rest_in_order : (e : EnumView) (es : List EnumView) → EnumsStandInOrder ms (e ∷ es) → EnumsStandInOrder ms es
  rest_in_order e [] h = tt
  rest_in_order e (x ∷ es) h = h.1

  some_same : {A : Type 0} (x y : A) → Some x ≡ Some y → x ≡ y
  some_same x y h = cc

  all_at : (P : EnumView → Type 0) (es : List EnumView) (i : ℕ) (x : EnumView) → AllByRecursion P es → slice_get es i ≡ Some x → P x
  all_at P [] i x all h = absurd (none-some x h)
  all_at P (y ∷ es) zero x all h = subst P (some_same y x h) all.0
  all_at P (y ∷ es) (suc i) x all h = all_at P es i x all.1 h

  -- each enum stands before each later one
  pub stands_before : (es : List EnumView) → EnumsStandInOrder ms es → (i j : ℕ) (d e : EnumView) → i < j → slice_get es i ≡ Some d → slice_get es j ≡ Some e → StandsBefore ms d e
  stands_before [] h i j d e less first second = absurd (none-some d first)
  stands_before (x ∷ es) h i zero d e less first second = absurd (omega (arith, less))
  stands_before (x ∷ es) h zero (suc j) d e less first second = subst (λ y. StandsBefore ms y e) (some_same x d first) (all_at (StandsBefore ms x) es j e (behind_all x es h) second)
  stands_before (x ∷ es) h (suc i) (suc j) d e less first second = stands_before es (rest_in_order x es h) i j d e (omega (arith, less)) first second
