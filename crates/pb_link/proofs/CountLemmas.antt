-- A message has few fields, since their numbers are small and differ, and few oneofs, since each has a member.
use Rattle.std.proofs.Common.{◌≡◌, ◌≢◌, ℕ, zero, suc, ◌+◌, ◌<◌, ◌≤◌, ◌⊎◌, inl, inr, ⊎_elim, List, [], ◌∷◌, map, length, refl, sym, ap, ◌∙◌, subst, arith, Some}
use Rattle.std.specs.Prelude.{slice_get}
use Rattle.std.specs.List.{AllByRecursion}
use Rattle.std.proofs.lemmas.Bool.{cases_eq}
use Rattle.std.proofs.lemmas.Option.{none-some}
use Rattle.pb_schema.specs.Names.{AllDiffer}
use Rattle.pb_schema.specs.Types.{FieldView}
use Rattle.pb_schema.specs.declared.types.Shape.{Shape}
use Rattle.pb_schema.specs.declared.types.Shape.TheVariants as shape
use Rattle.pb_schema.specs.Rules.{IsMemberOf, HasMember}

some_same : {A : Type 0} (a b : A) → Some a ≡ Some b → a ≡ b
some_same a b h = cc

abbrev removed : {X : Type 0} → ℕ → List X → List X
removed i [] = []
removed zero (x ∷ xs) = xs
removed (suc i) (x ∷ xs) = x ∷ removed i xs

abbrev At : {X : Type 0} → List X → X → Type 0
At xs x = (i : ℕ) × (slice_get xs i ≡ Some x)

size : {X : Type 0} (i : ℕ) (xs : List X) (x : X) → slice_get xs i ≡ Some x → length (removed i xs) + 1 ≡ length xs
size i [] x h = absurd (none-some x h)
size zero (y ∷ xs) x h = omega arith
size (suc i) (y ∷ xs) x h = omega (arith, size i xs x h)

at_next : {X : Type 0} (y : X) (xs : List X) (x : X) → At xs x → At (y ∷ xs) x
at_next y xs x h = (suc h.0, h.1)

still : (i j : ℕ) (xs : List ℕ) (k o : ℕ) → slice_get xs i ≡ Some k → slice_get xs j ≡ Some o → o ≢ k → At (removed i xs) o
still i j [] k o here there differ = absurd (none-some o there)
still zero zero (y ∷ xs) k o here there differ = absurd (differ (some_same o k (sym there ∙ here)))
still zero (suc j) (y ∷ xs) k o here there differ = (j, there)
still (suc i) zero (y ∷ xs) k o here there differ = (0, there)
still (suc i) (suc j) (y ∷ xs) k o here there differ = at_next y (removed i xs) o (still i j xs k o here there differ)

-- a list that has each number below k is as long
pub as_many : (k : ℕ) (xs : List ℕ) → ((o : ℕ) → o < k → At xs o) → k ≤ length xs
as_many zero xs each = omega arith
as_many (suc k) xs each =
    let at = each k (omega arith) in
    let rest : k ≤ length (removed at.0 xs) = as_many k (removed at.0 xs) (λ o less. still at.0 (each o (omega (arith, less))).0 xs k o at.1 (each o (omega (arith, less))).1 (λ e. omega (arith, e, less))) in
    omega (arith, rest, size at.0 xs k at.1)

all_removed : {X : Type 0} (P : X → Type 0) (i : ℕ) (xs : List X) → AllByRecursion P xs → AllByRecursion P (removed i xs)
all_removed P i [] all = all
all_removed P zero (x ∷ xs) all = all.1
all_removed P (suc i) (x ∷ xs) all = (all.0, all_removed P i xs all.1)

differ_removed : (i : ℕ) (xs : List ℕ) → AllDiffer xs → AllDiffer (removed i xs)
differ_removed i [] h = h
differ_removed zero (x ∷ xs) h = h.1
differ_removed (suc i) (x ∷ xs) h = (all_removed (λ y. x ≢ y) i xs h.0, differ_removed i xs h.1)

all_at : {X : Type 0} (P : X → Type 0) (xs : List X) (i : ℕ) (x : X) → AllByRecursion P xs → slice_get xs i ≡ Some x → P x
all_at P [] i x all h = absurd (none-some x h)
all_at P (y ∷ xs) zero x all h = subst P (some_same y x h) all.0
all_at P (y ∷ xs) (suc i) x all h = all_at P xs i x all.1 h

all_each : {X : Type 0} (P Q : X → Type 0) (xs : List X) → ((x : X) → P x → Q x) → AllByRecursion P xs → AllByRecursion Q xs
all_each P Q [] give all = tt
all_each P Q (x ∷ xs) give all = (give x all.0, all_each P Q xs give all.1)

-- what is left differs from what was removed
apart : (i : ℕ) (xs : List ℕ) (k : ℕ) → AllDiffer xs → slice_get xs i ≡ Some k → AllByRecursion (λ y. y ≢ k) (removed i xs)
apart i [] k h at = absurd (none-some k at)
apart zero (x ∷ xs) k h at = all_each (λ y. x ≢ y) (λ y. y ≢ k) xs (λ y differ e. differ (some_same x k at ∙ sym e)) h.0
apart (suc i) (x ∷ xs) k h at = (λ e. all_at (λ y. x ≢ y) xs i k h.0 at e, apart i xs k h.1 at)

at_or_apart : (k : ℕ) (xs : List ℕ) → At xs k ⊎ AllByRecursion (λ y. y ≢ k) xs
at_or_apart k [] = inr tt
at_or_apart k (x ∷ xs) = by (cases_eq x k) (at_or_apart k xs)
  where
    by : (x ≡ k) ⊎ (x ≢ k) → At xs k ⊎ AllByRecursion (λ y. y ≢ k) xs → At (x ∷ xs) k ⊎ AllByRecursion (λ y. y ≢ k) (x ∷ xs)
    by (inl e) rest = inl (0, ap Some e)
    by (inr n) (inl at) = inl (suc at.0, at.1)
    by (inr n) (inr all) = inr (n, all)

below_less : (k : ℕ) (xs : List ℕ) → AllByRecursion (λ y. y < suc k) xs → AllByRecursion (λ y. y ≢ k) xs → AllByRecursion (λ y. y < k) xs
below_less k [] below differ = tt
below_less k (x ∷ xs) below differ = (let a = below.0 in let b = differ.0 in omega (arith, a, b), below_less k xs below.1 differ.1)

-- numbers below k that differ are at most k
pub at_most : (k : ℕ) (xs : List ℕ) → AllDiffer xs → AllByRecursion (λ y. y < k) xs → length xs ≤ k
at_most zero [] differ below = omega arith
at_most zero (x ∷ xs) differ below = absurd (let a = below.0 in omega (arith, a))
at_most (suc k) xs differ below = ⊎_elim
    (λ at. let rest = at_most k (removed at.0 xs) (differ_removed at.0 xs differ) (below_less k (removed at.0 xs) (all_removed (λ y. y < suc k) at.0 xs below) (apart at.0 xs k differ at.1)) in omega (arith, rest, size at.0 xs k at.1))
    (λ none. let rest = at_most k xs differ (below_less k xs below none) in omega (arith, rest))
    (at_or_apart k xs)

-- ONEOFS

abbrev oneof_index : Shape → ℕ → ℕ
oneof_index (shape.OneofMember p) other = p
oneof_index shape.Explicit other = other
oneof_index shape.Implicit other = other
oneof_index (shape.List packed) other = other
oneof_index (shape.Map key) other = other

member_at : (other o : ℕ) (fs : List FieldView) → HasMember o fs → At (map (λ f. oneof_index f.shape other) fs) o
member_at other o [] h = absurd h
member_at other o (f ∷ fs) (inl here) = (0, ap Some (by_shape f.shape here))
  where
    by_shape : (s : Shape) → IsMemberOf o s → oneof_index s other ≡ o
    by_shape (shape.OneofMember p) e = sym e
    by_shape shape.Explicit e = absurd e
    by_shape shape.Implicit e = absurd e
    by_shape (shape.List packed) e = absurd e
    by_shape (shape.Map key) e = absurd e
member_at other o (f ∷ fs) (inr later) = at_next (oneof_index f.shape other) (map (λ g. oneof_index g.shape other) fs) o (member_at other o fs later)

length-map : {X Y : Type 0} (g : X → Y) (xs : List X) → length (map g xs) ≡ length xs
length-map g [] = refl
length-map g (x ∷ xs) = ap suc (length-map g xs)

pub few_oneofs : (n : ℕ) (fs : List FieldView) → ((o : ℕ) → o < n → HasMember o fs) → n ≤ length fs
few_oneofs n fs each = subst (λ k. n ≤ k) (length-map (λ f. oneof_index f.shape 0) fs) (as_many n (map (λ f. oneof_index f.shape 0) fs) (λ o less. member_at 0 o fs (each o less)))
