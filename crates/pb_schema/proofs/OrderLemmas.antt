-- Declaration order, and messages in messages.
use Rattle.std.proofs.Common.{◌≡◌, ℕ, zero, suc, ◌+◌, ◌-◌, ◌<◌, ◌≤◌, List, [], ◌∷◌, Bool, true, false, IsTrue, ◌↔◌, ◌⊎◌, inl, inr, map, length, get_or, drop, refl, sym, ◌∙◌, ap, subst, arith, eqb, Option, Some, None}
use Rattle.std.proofs.lemmas.List.{length-drop, drop_more}
use Rattle.std.proofs.lemmas.Bool.{false≢true, cases_lt}
use Rattle.std.proofs.lemmas.Bool.Decides.{Decides-eqb}
use Rattle.pb_schema.specs.Types.{MessageView}
use Rattle.pb_schema.specs.Nesting.{parent_of, IsWithin, itself, deeper, ParentsStandBefore}
use Rattle.pb_schema.specs.Rules.{InOrder, FollowsParent}

some_same : {a b : ℕ} {o : Option ℕ} → o ≡ Some a → o ≡ Some b → a ≡ b
some_same p q = cc

none_some : {a : ℕ} {o : Option ℕ} {P : Type 0} → o ≡ None → o ≡ Some a → P
none_some p q = cc

pub iff_trans : {A B C : Type 0} → A ↔ B → B ↔ C → A ↔ C
iff_trans f g = (λ a. g.0 (f.0 a), λ c. f.1 (g.1 c))

pub iff_sym : {A B : Type 0} → A ↔ B → B ↔ A
iff_sym f = (f.1, f.0)

within_below : (ms : List MessageView) (n p m : ℕ) → ParentsStandBefore ms n → m < n → IsWithin ms p m → p ≤ m
within_below ms n p m before h itself = omega arith
within_below ms n p m before h (deeper {q = q} e w) =
    let q_first = before m q h e in
    omega (arith, q_first, within_below ms n p q before (omega (arith, h, q_first)) w)

down : (ms : List MessageView) (q p m : ℕ) → parent_of ms m ≡ Some q → p < m → IsWithin ms p m → IsWithin ms p q
down ms q p m e h itself = absurd (omega (arith, h))
down ms q p m e h (deeper e' w) = subst (IsWithin ms p) (some_same e' e) w

-- within a message, whose parent is known
pub within_parent : (ms : List MessageView) (q p m : ℕ) → parent_of ms m ≡ Some q → p < m → IsWithin ms p m ↔ IsWithin ms p q
within_parent ms q p m e h = (down ms q p m e h, λ w. deeper e w)

pub within_none : (ms : List MessageView) (p m : ℕ) → parent_of ms m ≡ None → p < m → ¬ IsWithin ms p m
within_none ms p m e h itself = omega (arith, h)
within_none ms p m e h (deeper e' w) = none_some e e'

pub within_end : (ms : List MessageView) (n p m : ℕ) → ParentsStandBefore ms n → m < n → m ≤ p → IsTrue (eqb m p) ↔ IsWithin ms p m
within_end ms n p m before h le =
    (λ e. subst (IsWithin ms p) (sym ((Decides-eqb m p).0 e)) itself, λ w. (Decides-eqb m p).1 (omega (arith, le, within_below ms n p m before h w)))

-- each message after its parent
pub parents_before : (ms : List MessageView) (n : ℕ) → ((i : ℕ) → i < n → FollowsParent ms i) → ParentsStandBefore ms n
parents_before ms zero follow m p h e = absurd (omega (arith, h))
parents_before ms (suc n) follow m p h e =
    let earlier = parents_before ms n (λ i k. follow i (omega (arith, k))) in
    let at = follow m h p e in
    omega (arith, at.1, within_below ms n p at.0 earlier (omega (arith, h, at.1)) at.2)

pub parent_of-past : (ms : List MessageView) (i : ℕ) → length ms ≤ i → parent_of ms i ≡ None
parent_of-past [] i h = refl
parent_of-past (t ∷ ts) zero h = absurd (omega (arith, h))
parent_of-past (t ∷ ts) (suc i) h = parent_of-past ts i (omega (arith, h))

pub follow_all : (ms : List MessageView) (n : ℕ) → length ms ≤ n → ((i : ℕ) → i < n → FollowsParent ms i) → (i : ℕ) → FollowsParent ms i
follow_all ms n h follow i = by_cases (cases_lt i n)
  where
    by_cases : (i < n) ⊎ (n ≤ i) → FollowsParent ms i
    by_cases (inl k) = follow i k
    by_cases (inr k) = λ p e. none_some (parent_of-past ms i (omega (arith, h, k))) e

-- A loop over neighbours.
module _ {X Y : Type 0} (R : Y → Y → Type 0) (f : X → Y) (Whole : Type 0) (xs : List X) where
  neighbours : (i : ℕ) (x y : X) → i + 1 < length xs → x ≡ get_or xs i x → y ≡ get_or xs (i + 1) y → InOrder R (map f (drop i xs)) ≡ (R (f x) (f y) × InOrder R (map f (drop (i + 1) xs)))
  neighbours i x y h is_x is_y =
      let first : drop i xs ≡ x ∷ drop (i + 1) xs = drop_more xs i x (omega (arith, h)) ∙ ap (λ z. z ∷ drop (i + 1) xs) (sym is_x) in
      let second : drop (i + 1) xs ≡ y ∷ drop (i + 1 + 1) xs = drop_more xs (i + 1) y h ∙ ap (λ z. z ∷ drop (i + 1 + 1) xs) (sym is_y) in
      ap (λ l. InOrder R (map f l)) first ∙ subst (λ l. InOrder R (f x ∷ map f l) ≡ (R (f x) (f y) × InOrder R (map f l))) (sym second) refl

  module _ (n : ℕ) (x y : X) (b : Bool) (so_far : Whole ↔ InOrder R (map f (drop (n - 1) xs))) where
    pub pair_stops : 1 ≤ n → n < length xs → x ≡ get_or xs (n - 1) x → y ≡ get_or xs n y → (IsTrue b ↔ R (f x) (f y)) → b ≡ false → IsTrue false ↔ Whole
    pair_stops low h is_x is_y test fails =
        let e = neighbours (n - 1) x y (omega (arith, h, low)) is_x (subst (λ k. y ≡ get_or xs k y) (omega (arith, low)) is_y) in
        (λ t. absurd (false≢true t), λ w. absurd (false≢true (sym fails ∙ test.1 ((subst (λ T. T) e (so_far.0 w)).0))))

    pub pair_goes_on : 1 ≤ n → n < length xs → x ≡ get_or xs (n - 1) x → y ≡ get_or xs n y → (IsTrue b ↔ R (f x) (f y)) → b ≡ true → Whole ↔ InOrder R (map f (drop (n + 1 - 1) xs))
    pair_goes_on low h is_x is_y test passes =
        let e = neighbours (n - 1) x y (omega (arith, h, low)) is_x (subst (λ k. y ≡ get_or xs k y) (omega (arith, low)) is_y) in
        let same : n - 1 + 1 ≡ n + 1 - 1 = omega (arith, low) in
        subst (λ k. Whole ↔ InOrder R (map f (drop k xs))) same (λ w. (subst (λ T. T) e (so_far.0 w)).1, λ rest. so_far.1 (subst (λ T. T) (sym e) (test.0 passes, rest)))

  short : (l : List X) → length l ≤ 1 → InOrder R (map f l)
  short [] h = tt
  short (x ∷ []) h = tt
  short (x ∷ y ∷ zs) h = absurd (omega (arith, h))

  pub pairs_end : (n : ℕ) → (Whole ↔ InOrder R (map f (drop (n - 1) xs))) → length xs ≤ n → IsTrue true ↔ Whole
  pairs_end n so_far h = (λ _. so_far.1 (short (drop (n - 1) xs) (omega (arith, length-drop (n - 1) xs, h))), λ _. refl)
