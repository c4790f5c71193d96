-- Declaration order: what is in a message stands in one run after it, so going through messages and those in them goes through all of them in
-- their order.
use Rattle.std.proofs.Common.{◌≡◌, ◌≢◌, ℕ, zero, suc, ◌+◌, ◌<◌, ◌≤◌, ◌⊎◌, inl, inr, ⊎_elim, List, [], ◌∷◌, ◌++◌, Bool, true, false, cond, refl, sym, ap, ◌∙◌, subst, arith, Option, Some, None}
use Rattle.std.specs.Prelude.{filter}
use Rattle.std.specs.List.{AllByRecursion, flat_map, enumerate_from}
use Rattle.std.proofs.lemmas.Bool.{cases_eq, cases_lt}
use Rattle.pb_schema.specs.Types.{MessageView}
use Rattle.pb_schema.specs.Nesting.{parent_of, IsWithin, itself, deeper}
use Rattle.pb_schema.specs.Rules.{FollowsParent}

some_same : {A : Type 0} (a b : A) → Some a ≡ Some b → a ≡ b
some_same a b h = cc

none_some : {a : ℕ} {o : Option ℕ} {P : Type 0} → o ≡ None → o ≡ Some a → P
none_some p q = cc

pub within_trans : (ms : List MessageView) (a b c : ℕ) → IsWithin ms a b → IsWithin ms b c → IsWithin ms a c
within_trans ms a b c first itself = first
within_trans ms a b c first (deeper {q = q} e w) = deeper e (within_trans ms a b q first w)

module _ (ms : List MessageView) (follow : (i : ℕ) → FollowsParent ms i) (before : (m p : ℕ) → parent_of ms m ≡ Some p → p < m) where
  pub within_least : (p m : ℕ) → IsWithin ms p m → p ≤ m
  within_least p m itself = omega arith
  within_least p m (deeper {q = q} e w) = let first = before m q e in let rest = within_least p q w in omega (arith, first, rest)

  -- what stands between a message and one that is in it is in it too
  pub between : (n c x j : ℕ) → j < n → c ≤ x → x ≤ j → IsWithin ms c j → IsWithin ms c x
  between zero c x j less low high w = absurd (omega (arith, less))
  between (suc n) c x j less low high w = step c x j (cases_eq x j) low high w (λ k small far at. between n c x k (omega (arith, small, less)) low far at)
    where
      step : (a y b : ℕ) → (y ≡ b) ⊎ (y ≢ b) → a ≤ y → y ≤ b → IsWithin ms a b → ((k : ℕ) → k < b → y ≤ k → IsWithin ms a k → IsWithin ms a y) → IsWithin ms a y
      step a y b (inl e) least most v again = subst (IsWithin ms a) (sym e) v
      step a y b (inr ne) least most itself again = absurd (ne (omega (arith, least, most)))
      step a y b (inr ne) least most (deeper {q = q} e v) again =
          let last = follow b q e in
          let h = last.1 in
          again last.0 (omega (arith, h)) (omega (arith, h, most, ne)) (within_trans ms a q last.0 v last.2)

  -- of two messages in one place the later one is not in the first
  pub apart : (c d : ℕ) → parent_of ms c ≡ parent_of ms d → c < d → ¬ IsWithin ms c d
  apart c d same less itself = omega (arith, less)
  apart c d same less (deeper {q = q} e w) =
      let first = before c q (same ∙ e) in
      let rest = within_least c q w in
      omega (arith, first, rest)

  -- and all that is in the first stands before all that is in the second
  pub siblings : (c d j k : ℕ) → parent_of ms c ≡ parent_of ms d → c < d → IsWithin ms c j → IsWithin ms d k → j < k
  siblings c d j k same less first second = by (cases_lt j d)
    where
      by : (j < d) ⊎ (d ≤ j) → j < k
      by (inl h) = let rest = within_least d k second in omega (arith, h, rest)
      by (inr h) = absurd (apart c d same less (between (suc j) c d j (omega arith) (omega (arith, less)) h first))

  -- what is in a message is the message, or is in one that stands there directly
  pub inner : (c x : ℕ) → IsWithin ms c x → (x ≡ c) ⊎ ((d : ℕ) × (parent_of ms d ≡ Some c) × IsWithin ms d x)
  inner c x itself = inl refl
  inner c x (deeper {q = q} e w) = ⊎_elim (λ same. inr (x, e ∙ ap Some same, itself)) (λ h. inr (h.0, h.1, deeper e h.2)) (inner c q w)

  -- each message is in one that is in none
  pub root : (n x : ℕ) → x < n → (r : ℕ) × (parent_of ms r ≡ None) × IsWithin ms r x
  root zero x less = absurd (omega (arith, less))
  root (suc n) x less = by (parent_of ms x) refl (λ q small. root n q (omega (arith, small, less)))
    where
      by : (o : Option ℕ) → parent_of ms x ≡ o → ((q : ℕ) → q < x → (r : ℕ) × (parent_of ms r ≡ None) × IsWithin ms r q) → (r : ℕ) × (parent_of ms r ≡ None) × IsWithin ms r x
      by None is again = (x, is, itself)
      by (Some q) is again = let up = again q (before x q is) in (up.0, up.1, deeper is up.2)

-- RISING LISTS

abbrev pub In : {X : Type 0} → X → List X → Type 0
In x [] = ⊥
In x (y ∷ ys) = (x ≡ y) ⊎ In x ys

abbrev pub Rising : {X : Type 0} → (X → ℕ) → List X → Type 0
Rising key [] = Unit {0}
Rising key (x ∷ xs) = AllByRecursion (λ y. key x < key y) xs × Rising key xs

pub in_all : {X : Type 0} (P : X → Type 0) (xs : List X) (x : X) → AllByRecursion P xs → In x xs → P x
in_all P [] x all h = absurd h
in_all P (y ∷ xs) x all (inl e) = subst P (sym e) all.0
in_all P (y ∷ xs) x all (inr h) = in_all P xs x all.1 h

pub in_left : {X : Type 0} (x : X) (xs ys : List X) → In x xs → In x (xs ++ ys)
in_left x [] ys h = absurd h
in_left x (y ∷ xs) ys (inl e) = inl e
in_left x (y ∷ xs) ys (inr h) = inr (in_left x xs ys h)

pub in_right : {X : Type 0} (x : X) (xs ys : List X) → In x ys → In x (xs ++ ys)
in_right x [] ys h = h
in_right x (y ∷ xs) ys h = inr (in_right x xs ys h)

pub all_append : {X : Type 0} (P : X → Type 0) (xs ys : List X) → AllByRecursion P xs → AllByRecursion P ys → AllByRecursion P (xs ++ ys)
all_append P [] ys first second = second
all_append P (x ∷ xs) ys first second = (first.0, all_append P xs ys first.1 second)

pub all_each : {X : Type 0} (P Q : X → Type 0) (xs : List X) → ((x : X) → P x → Q x) → AllByRecursion P xs → AllByRecursion Q xs
all_each P Q [] give all = tt
all_each P Q (x ∷ xs) give all = (give x all.0, all_each P Q xs give all.1)

pub rising_append : {X : Type 0} (key : X → ℕ) (P Q : X → Type 0) (xs ys : List X) → ((x y : X) → P x → Q y → key x < key y) → AllByRecursion P xs → AllByRecursion Q ys → Rising key xs → Rising key ys → Rising key (xs ++ ys)
rising_append key P Q [] ys less first second rise more = more
rising_append key P Q (x ∷ xs) ys less first second rise more = (
  all_append (λ y. key x < key y) xs ys rise.0 (all_each Q (λ y. key x < key y) ys (λ y q. less x y first.0 q) second),
  rising_append key P Q xs ys less first.1 second rise.1 more,
)

-- two rising lists of the same elements are one
pub rising_same : {X : Type 0} (key : X → ℕ) (xs ys : List X) → Rising key xs → Rising key ys → ((z : X) → In z xs → In z ys) → ((z : X) → In z ys → In z xs) → xs ≡ ys
rising_same key [] [] rise more there back = refl
rising_same key [] (y ∷ ys) rise more there back = absurd (back y (inl refl))
rising_same key (x ∷ xs) [] rise more there back = absurd (there x (inl refl))
rising_same {X = X} key (x ∷ xs) (y ∷ ys) rise more there back =
    let same : x ≡ y = heads (there x (inl refl)) (back y (inl refl)) in
    (λ i. same i ∷ xs) ∙ ap (λ l. y ∷ l) (rising_same key xs ys rise.1 more.1 (λ z h. forth z same h (there z (inr h))) (λ z h. back_again z same h (back z (inr h))))
  where
    heads : (x ≡ y) ⊎ In x ys → (y ≡ x) ⊎ In y xs → x ≡ y
    heads (inl e) other = e
    heads (inr h) (inl e) = sym e
    heads (inr h) (inr k) = absurd (let a = in_all (λ z. key y < key z) ys x more.0 h in let b = in_all (λ z. key x < key z) xs y rise.0 k in omega (arith, a, b))

    forth : (z : X) → x ≡ y → In z xs → (z ≡ y) ⊎ In z ys → In z ys
    forth z same h (inl e) = absurd (let a = in_all (λ v. key x < key v) xs z rise.0 h in let b : key z ≡ key x = ap key (e ∙ sym same) in omega (arith, a, b))
    forth z same h (inr k) = k

    back_again : (z : X) → x ≡ y → In z ys → (z ≡ x) ⊎ In z xs → In z xs
    back_again z same h (inl e) = absurd (let a = in_all (λ v. key y < key v) ys z more.0 h in let b : key z ≡ key y = ap key (e ∙ same) in omega (arith, a, b))
    back_again z same h (inr k) = k

pub rising_numbered : {X : Type 0} (n : ℕ) (xs : List X) → Rising (λ (m : ℕ × X). m.0) (enumerate_from n xs) × AllByRecursion (λ m. n ≤ m.0) (enumerate_from n xs)
rising_numbered n [] = (tt, tt)
rising_numbered n (x ∷ xs) =
    let rest = rising_numbered (n + 1) xs in (
      (all_each (λ m. n + 1 ≤ m.0) (λ m. n < m.0) (enumerate_from (n + 1) xs) (λ m h. omega (arith, h)) rest.1, rest.0),
      (omega arith, all_each (λ m. n + 1 ≤ m.0) (λ m. n ≤ m.0) (enumerate_from (n + 1) xs) (λ m h. omega (arith, h)) rest.1),
    )

pub rising_filter : {X : Type 0} (key : X → ℕ) (t : X → Bool) (xs : List X) → Rising key xs → Rising key (filter t xs)
rising_filter key t [] rise = tt
rising_filter {X = X} key t (x ∷ xs) rise = by (t x) (rising_filter key t xs rise.1)
  where
    kept : (ys : List X) → AllByRecursion (λ y. key x < key y) ys → AllByRecursion (λ y. key x < key y) (filter t ys)
    kept [] all = tt
    kept (y ∷ ys) all = step (t y) (kept ys all.1)
      where
        step : (b : Bool) → AllByRecursion (λ z. key x < key z) (filter t ys) → AllByRecursion (λ z. key x < key z) (cond b (y ∷ filter t ys) (filter t ys))
        step true rest = (all.0, rest)
        step false rest = rest

    by : (b : Bool) → Rising key (filter t xs) → Rising key (cond b (x ∷ filter t xs) (filter t xs))
    by true rest = (kept xs rise.0, rest)
    by false rest = rest

pub in_filter : {X : Type 0} (t : X → Bool) (xs : List X) (x : X) → In x xs → t x ≡ true → In x (filter t xs)
in_filter t [] x h passes = absurd h
in_filter {X = X} t (y ∷ xs) x h passes = by (t y) refl h (in_filter t xs x)
  where
    by : (b : Bool) → t y ≡ b → (x ≡ y) ⊎ In x xs → (In x xs → t x ≡ true → In x (filter t xs)) → In x (cond b (y ∷ filter t xs) (filter t xs))
    by true is (inl e) again = inl e
    by true is (inr k) again = inr (again k passes)
    by false is (inl e) again = absurd (false_true (sym is ∙ ap t (sym e) ∙ passes))
      where
        false_true : ◌≡◌ {A = Bool} false true → ⊥
        false_true z = cc
    by false is (inr k) again = again k passes

pub in_flat : {X Y : Type 0} (g : X → List Y) (xs : List X) (x : X) (y : Y) → In x xs → In y (g x) → In y (flat_map g xs)
in_flat g [] x y h k = absurd h
in_flat g (z ∷ xs) x y (inl e) k = in_left y (g z) (flat_map g xs) (subst (λ v. In y (g v)) e k)
in_flat g (z ∷ xs) x y (inr h) k = in_right y (g z) (flat_map g xs) (in_flat g xs x y h k)

pub all_flat : {X Y : Type 0} (P : X → Type 0) (Q : Y → Type 0) (g : X → List Y) (xs : List X) → ((x : X) → P x → AllByRecursion Q (g x)) → AllByRecursion P xs → AllByRecursion Q (flat_map g xs)
all_flat P Q g [] give all = tt
all_flat P Q g (x ∷ xs) give all = all_append Q (g x) (flat_map g xs) (give x all.0) (all_flat P Q g xs give all.1)
