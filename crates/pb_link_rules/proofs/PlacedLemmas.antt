-- What stands at a place of a list, and the first place of what passes a test.
use Rattle.std.proofs.Common.{◌≡◌, ℕ, zero, suc, ◌+◌, ◌≤◌, List, [], ◌∷◌, ◌++◌, Bool, true, false, not, ◌||◌, ◌&&◌, map, take, length, refl, ap, ◌∙◌, arith, cond, Option, Some, None}
use Rattle.std.specs.Prelude.{slice_get, filter_map, is_some, ◌==◌}
use Rattle.std.specs.List.{list_any, list_all, position_from, slice_index_or, cons_option}
use Rattle.std.specs.Cmp.{unsigned_Decides}
use Rattle.std.specs.Str.{bytes_eq}
use Rattle.std.proofs.lemmas.Option.{none-some}
use Rattle.std.proofs.lemmas.Slice.Eq.{bytes_eq-Decides}
use Rattle.pb_schema.specs.Types.{FileView}
use Rattle.pb_graphs.specs.Reach.{next_of}
use Rattle.pb_link_names.specs.Graphs.{is_file}
use Rattle.pb_link_names.proofs.AnyLemmas.{same_test}
use Rattle.pb_link_names.proofs.BehindLemmas.{some_same}

pub zero_plus : (n : ℕ) → 0 + n ≡ n
zero_plus n = omega arith

pub same_name : (name : List ℕ) → bytes_eq name name ≡ true
same_name name = (bytes_eq-Decides name name).1 refl

is_false : (b : Bool) → (b ≡ true → ⊥) → b ≡ false
is_false true never = absurd (never refl)
is_false false never = refl

-- WHAT STANDS AT A PLACE

pub index_got : {X : Type 0} (xs : List X) (i : ℕ) (d x : X) → slice_get xs i ≡ Some x → slice_index_or xs i d ≡ x
index_got [] i d x h = absurd (none-some x h)
index_got (y ∷ ys) zero d x h = some_same y x h
index_got (y ∷ ys) (suc i) d x h = index_got ys i d x h

pub any_at : {X : Type 0} (t : X → Bool) (xs : List X) (i : ℕ) (x : X) → slice_get xs i ≡ Some x → t x ≡ true → list_any t xs ≡ true
any_at t [] i x there passes = absurd (none-some x there)
any_at t (y ∷ ys) zero x there passes = ap (λ b. b || list_any t ys) (ap t (some_same y x there) ∙ passes)
any_at t (y ∷ ys) (suc i) x there passes = ap (λ b. t y || b) (any_at t ys i x there passes) ∙ or_true (t y)
  where
    or_true : (b : Bool) → (b || true) ≡ true
    or_true true = refl
    or_true false = refl

pub take_past : {X : Type 0} (xs ys : List X) (i : ℕ) → take (length xs + i) (xs ++ ys) ≡ xs ++ take i ys
take_past [] ys i = ap (λ n. take n ys) (zero_plus i)
take_past (x ∷ xs) ys i = ap (λ n. take n (x ∷ (xs ++ ys))) (move (length xs) i) ∙ ap (λ l. x ∷ l) (take_past xs ys i)
  where
    move : (n i : ℕ) → suc n + i ≡ suc (n + i)
    move n i = omega arith

pub next_there : {X : Type 0} (g : X → FileView) (xs : List X) (k : ℕ) (x : X) → slice_get xs k ≡ Some x → next_of (map (λ f. f.imports) (map g xs)) k ≡ (g x).imports
next_there g [] k x h = absurd (none-some x h)
next_there g (y ∷ ys) zero x h = ap (λ z. (g z).imports) (some_same y x h)
next_there g (y ∷ ys) (suc k) x h = next_there g ys k x h

-- THE FIRST THAT PASSES

pub first_of_all : {X : Type 0} (t : X → Bool) (n : ℕ) (xs : List X) (j : ℕ) (x : X) → slice_get xs j ≡ Some x → t x ≡ true → is_file (position_from t n xs) (n + j) ≡ not (list_any t (take j xs))
first_of_all t n [] j x there passes = absurd (none-some x there)
first_of_all t n (y ∷ ys) zero x there passes =
    ap (λ b. is_file (cond b (Some n) (position_from t (n + 1) ys)) (n + 0)) (ap t (some_same y x there) ∙ passes) ∙ (unsigned_Decides n (n + 0)).1 (omega arith)
first_of_all t n (y ∷ ys) (suc j) x there passes = step (t y) (first_of_all t (n + 1) ys j x there passes)
  where
    step : (b : Bool) → is_file (position_from t (n + 1) ys) (n + 1 + j) ≡ not (list_any t (take j ys)) → is_file (cond b (Some n) (position_from t (n + 1) ys)) (n + suc j) ≡ not (b || list_any t (take j ys))
    step true later = is_false (n == (n + suc j)) (λ h. omega (arith, (unsigned_Decides n (n + suc j)).0 h))
    step false later =
        let move : n + suc j ≡ n + 1 + j = omega arith in
        ap (is_file (position_from t (n + 1) ys)) move ∙ later

pub some_position : {X : Type 0} (t : X → Bool) (n : ℕ) (xs : List X) → is_some (position_from t n xs) ≡ list_any t xs
some_position t n [] = refl
some_position t n (x ∷ xs) = step (t x) (some_position t (n + 1) xs)
  where
    step : (b : Bool) → is_some (position_from t (n + 1) xs) ≡ list_any t xs → is_some (cond b (Some n) (position_from t (n + 1) xs)) ≡ (b || list_any t xs)
    step true later = refl
    step false later = later

-- WHAT IS FOUND OF EACH

fewer : {X Y : Type 0} (h : X → Option Y) (xs : List X) → length (filter_map h xs) ≤ length xs
fewer h [] = omega arith
fewer {X} {Y} h (x ∷ xs) = step (h x) (fewer h xs)
  where
    step : (o : Option Y) → length (filter_map h xs) ≤ length xs → length (cons_option o (filter_map h xs)) ≤ suc (length xs)
    step None later = omega (arith, later)
    step (Some y) later = omega (arith, later)

-- something is found of each exactly where as much is found
pub all_found : {X Y : Type 0} (h : X → Option Y) (xs : List X) → (length (filter_map h xs) == length xs) ≡ list_all (λ x. is_some (h x)) xs
all_found h [] = refl
all_found {X} {Y} h (x ∷ xs) = step (h x) (all_found h xs)
  where
    same_suc : (a b : ℕ) → (suc a == suc b) ≡ (a == b)
    same_suc a b =
        same_test (suc a == suc b) (a == b) (λ h. (unsigned_Decides a b).1 (omega (arith, (unsigned_Decides (suc a) (suc b)).0 h))) (λ h. (unsigned_Decides (suc a) (suc b)).1 (ap suc ((unsigned_Decides a b).0 h)))

    step : (o : Option Y) → (length (filter_map h xs) == length xs) ≡ list_all (λ x. is_some (h x)) xs → (length (cons_option o (filter_map h xs)) == suc (length xs)) ≡ (is_some o && list_all (λ x. is_some (h x)) xs)
    step None later = is_false (length (filter_map h xs) == suc (length xs)) (λ e. omega (arith, fewer h xs, (unsigned_Decides (length (filter_map h xs)) (suc (length xs))).0 e))
    step (Some y) later = same_suc (length (filter_map h xs)) (length xs) ∙ later
