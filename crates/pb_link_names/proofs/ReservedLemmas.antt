-- Ranges with their ends after them, by their starts.
use Rattle.std.proofs.Common.{◌≡◌, ℕ, zero, suc, ◌+◌, ◌-◌, ◌<◌, ◌≤◌, ℤ, pos, ◌+ℤ◌, ◌≤ℤ◌, ◌<ℤ◌, List, [], ◌∷◌, length, map, take, drop, get_or, ◌++◌, append-nil, Bool, true, false, not, ◌&&◌, ◌||◌, refl, sym, ap, ◌∙◌, arith, subst, ⊎_elim}
use Rattle.std.specs.Prelude.{int_lt, int_le, cond}
use Rattle.std.specs.Int.{int_max}
use Rattle.std.specs.List.{list_any, list_all, count_by, All, IsAllAdjacentAnswer}
use Rattle.std.proofs.lemmas.Bool.{false≢true, not-true, or_cases, cases_Bool, cases_lt}
use Rattle.std.proofs.lemmas.List.Sums.{sum_by-cons, AllPass-from_list_all, list_all-from_AllPass}
use Rattle.std.proofs.lemmas.List.{drop_all, take_all, map_more}
use Rattle.std.proofs.lemmas.List.Folds.{list_any_at, list_any_none, list_any-append}
use Rattle.std.proofs.lemmas.List.Elements.{All-cons, All-nil}
use Rattle.std.specs.List.Sorted.{IsPermutation, IsSortedByKey, IsPartitionPoint, IsPartitionedBy}
use Rattle.std.proofs.lemmas.List.Recursion.{or_is}
use Rattle.std.specs.Ordering.{int_cmp, is_lt}
use Rattle.std.specs.Str.{bytes_eq}
use Rattle.std.proofs.lemmas.Int.{ints, clamps}
use Rattle.std.proofs.lemmas.Cmp.{int_cmp_total}
use Rattle.std.proofs.lemmas.List.Sorted.{ranks_by, sorted_far, IsPermutation-sym, All-permutation, sum_by-IsPermutation}
use Rattle.pb_link_names.specs.MarkRules.{is_in_message_range, is_in_enum_range, message_ranges_overlap, enum_ranges_overlap, none_overlap, is_message_range, is_enum_range}
use Rattle.pb_link_names.specs.Reserved.{with_end_behind, is_filled, Rises}

-- INTEGERS AND THEIR TESTS

le_passes : (a b : ℤ) → a ≤ℤ b → int_le a b ≡ true
le_passes a b h = grind (arith, ints)

passed_le : (a b : ℤ) → int_le a b ≡ true → a ≤ℤ b
passed_le a b h = grind (arith, ints)

failed_le : (a b : ℤ) → int_le a b ≡ false → b <ℤ a
failed_le a b h = grind (arith, ints)

lt_passes : (a b : ℤ) → a <ℤ b → int_lt a b ≡ true
lt_passes a b h = grind (arith, ints)

lt_fails : (a b : ℤ) → b ≤ℤ a → int_lt a b ≡ false
lt_fails a b h = grind (arith, ints)

passed_lt : (a b : ℤ) → int_lt a b ≡ true → a <ℤ b
passed_lt a b h = grind (arith, ints)

failed_lt : (a b : ℤ) → int_lt a b ≡ false → b ≤ℤ a
failed_lt a b h = grind (arith, ints)

lt_max : (n a b : ℤ) → int_lt n (int_max a b) ≡ (int_lt n a || int_lt n b)
lt_max n a b = grind (arith, ints)

le_next : (n e : ℤ) → int_le n e ≡ int_lt n (e +ℤ pos 1)
le_next n e = grind (arith, ints)

not_less : (a b : ℤ) → is_lt (int_cmp a b) ≡ false → b ≤ℤ a
not_less a b h = grind (arith, ints)

-- from a sort
pub rises_sorted : (xs : List (ℤ × ℤ)) → IsSortedByKey (λ (s : ℤ × ℤ). s.0) int_cmp xs → Rises (λ s. s.0) xs
rises_sorted xs sorted i j d le lt = not_less (get_or xs j d).0 (get_or xs i d).0 (sorted_far (λ (x y : ℤ × ℤ). is_lt (int_cmp x.0 y.0)) (ranks_by int_cmp_total (λ (s : ℤ × ℤ). s.0)) xs sorted i j d le lt)

rises_rest : (key : ℤ × ℤ → ℤ) (r : ℤ × ℤ) (rs : List (ℤ × ℤ)) → Rises key (r ∷ rs) → Rises key rs
rises_rest key r rs rises i j d le lt = rises (suc i) (suc j) d (omega (arith, le)) (omega (arith, lt))

-- OVERLAPS

-- of ranges that stand by their starts and are not empty, one overlaps a later one where it overlaps the next
next_overlaps : (r s : ℤ × ℤ) → r.0 ≤ℤ s.0 → is_filled s ≡ true → message_ranges_overlap r s ≡ not (int_le r.1 s.0)
next_overlaps r s rises filled = grind (arith, ints)

later_apart : (r : ℤ × ℤ) (rs : List (ℤ × ℤ)) → ((j : ℕ) (d : ℤ × ℤ) → j < length rs → r.1 ≤ℤ (get_or rs j d).0) → list_any (message_ranges_overlap r) rs ≡ false
later_apart r [] behind = refl
later_apart r (s ∷ rs) behind = either_false (message_ranges_overlap r s) (list_any (message_ranges_overlap r) rs) (here (behind 0 s (omega arith))) (later_apart r rs (λ j d lt. behind (suc j) d (omega (arith, lt))))
  where
    here : r.1 ≤ℤ s.0 → message_ranges_overlap r s ≡ false
    here h = grind (arith, ints)

    either_false : (a b : Bool) → a ≡ false → b ≡ false → (a || b) ≡ false
    either_false true b p q = p
    either_false false b p q = q

none_overlap_more : (r s : ℤ × ℤ) (rs : List (ℤ × ℤ)) → Rises (λ x. x.0) (r ∷ s ∷ rs) → is_filled s ≡ true → none_overlap message_ranges_overlap (r ∷ s ∷ rs) ≡ (int_le r.1 s.0 && none_overlap message_ranges_overlap (s ∷ rs))
none_overlap_more r s rs rises filled =
    let rest = none_overlap message_ranges_overlap (s ∷ rs) in
    by_test (int_le r.1 s.0) (message_ranges_overlap r s) (list_any (message_ranges_overlap r) rs) rest (next_overlaps r s (rises 0 1 r (omega arith) (omega arith)) filled)
    (λ passes. later_apart r rs (λ j d lt. le_trans r.1 s.0 (get_or rs j d).0 (passed_le r.1 s.0 passes) (rises 1 (suc (suc j)) d (omega arith) (omega (arith, lt)))))
  where
    le_trans : (a b c : ℤ) → a ≤ℤ b → b ≤ℤ c → a ≤ℤ c
    le_trans a b c p q = omega (arith, ints)

    by_test : (le here later rest : Bool) → here ≡ not le → (le ≡ true → later ≡ false) → (not (here || later) && rest) ≡ (le && rest)
    by_test true here later rest e none = ap (λ b. not (b || later) && rest) e ∙ ap (λ b. not b && rest) (none refl)
    by_test false here later rest e none = ap (λ b. not (b || later) && rest) e

-- each ends by where the next begins
abbrev pub Adjoins : ℤ × ℤ → ℤ × ℤ → Bool
Adjoins r s = int_le r.1 s.0

and_false : (b : Bool) → (b && false) ≡ false
and_false true = refl
and_false false = refl

or_false : (a b : Bool) → (a || b) ≡ false → (a ≡ false) × (b ≡ false)
or_false true b h = (h, absurd (false≢true (sym h)))
or_false false b h = (refl, h)

and_parts : (a b : Bool) → (a && b) ≡ true → (a ≡ true) × (b ≡ true)
and_parts true b h = (refl, h)
and_parts false b h = (h, absurd (false≢true h))

pub apart_all : (rs : List (ℤ × ℤ)) → Rises (λ s. s.0) rs → list_all is_filled rs ≡ true → ((k : ℕ) (d : ℤ × ℤ) → suc k < length rs → true ≡ Adjoins (get_or rs k d) (get_or rs (suc k) d)) → none_overlap message_ranges_overlap rs ≡ true
apart_all [] rises filled adjoin = refl
apart_all (r ∷ []) rises filled adjoin = refl
apart_all (r ∷ s ∷ rs) rises filled adjoin =
    let rest = (and_parts (is_filled r) (list_all is_filled (s ∷ rs)) filled).1 in
    none_overlap_more r s rs rises (and_parts (is_filled s) (list_all is_filled rs) rest).0
    ∙ ap (λ b. b && none_overlap message_ranges_overlap (s ∷ rs)) (sym (adjoin 0 r (omega arith)))
    ∙ apart_all (s ∷ rs) (rises_rest (λ x. x.0) r (s ∷ rs) rises) rest (λ k d lt. adjoin (suc k) d (omega (arith, lt)))

pub overlap_there : (rs : List (ℤ × ℤ)) (k : ℕ) → Rises (λ s. s.0) rs → list_all is_filled rs ≡ true → suc k < length rs → ((d : ℤ × ℤ) → false ≡ Adjoins (get_or rs k d) (get_or rs (suc k) d)) → none_overlap message_ranges_overlap rs ≡ false
overlap_there [] k rises filled lt meet = absurd (omega (arith, lt))
overlap_there (r ∷ []) k rises filled lt meet = absurd (omega (arith, lt))
overlap_there (r ∷ s ∷ rs) zero rises filled lt meet =
    let rest = (and_parts (is_filled r) (list_all is_filled (s ∷ rs)) filled).1 in
    none_overlap_more r s rs rises (and_parts (is_filled s) (list_all is_filled rs) rest).0 ∙ ap (λ b. b && none_overlap message_ranges_overlap (s ∷ rs)) (sym (meet r))
overlap_there (r ∷ s ∷ rs) (suc k) rises filled lt meet =
    let rest = (and_parts (is_filled r) (list_all is_filled (s ∷ rs)) filled).1 in
    none_overlap_more r s rs rises (and_parts (is_filled s) (list_all is_filled rs) rest).0
    ∙ ap (λ b. int_le r.1 s.0 && b) (overlap_there (s ∷ rs) k (rises_rest (λ x. x.0) r (s ∷ rs) rises) rest (omega (arith, lt)) (λ d. meet d))
    ∙ and_false (int_le r.1 s.0)

-- what a test of neighbours tells
pub apart_told : (rs : List (ℤ × ℤ)) (told : Bool) → IsAllAdjacentAnswer (λ x y b. b ≡ Adjoins x y) rs told → Rises (λ s. s.0) rs → list_all is_filled rs ≡ true → told ≡ none_overlap message_ranges_overlap rs
apart_told rs true answer rises filled = sym (apart_all rs rises filled (λ k d lt. next k d true (answer k d (omega (arith, lt)))))
  where
    next : (k : ℕ) (d : ℤ × ℤ) (b : Bool) → b ≡ Adjoins (get_or rs k d) (get_or rs (k + 1) d) → b ≡ Adjoins (get_or rs k d) (get_or rs (suc k) d)
    next k d b h = let e : k + 1 ≡ suc k = omega arith in subst (λ n. b ≡ Adjoins (get_or rs k d) (get_or rs n d)) e h
apart_told rs false answer rises filled = sym (overlap_there rs answer.0 rises filled (omega (arith, answer.1)) (λ d. next answer.0 d false (answer.2 d)))
  where
    next : (k : ℕ) (d : ℤ × ℤ) (b : Bool) → b ≡ Adjoins (get_or rs k d) (get_or rs (k + 1) d) → b ≡ Adjoins (get_or rs k d) (get_or rs (suc k) d)
    next k d b h = let e : k + 1 ≡ suc k = omega arith in subst (λ n. b ≡ Adjoins (get_or rs k d) (get_or rs n d)) e h

-- A PERMUTATION OVERLAPS WHERE THE RANGES DO: each range that is not empty overlaps itself, and no other

overlap_turned : (r s : ℤ × ℤ) → message_ranges_overlap r s ≡ message_ranges_overlap s r
overlap_turned r s = and_turned (int_lt r.0 s.1) (int_lt s.0 r.1)
  where
    and_turned : (a b : Bool) → (a && b) ≡ (b && a)
    and_turned true true = refl
    and_turned true false = refl
    and_turned false true = refl
    and_turned false false = refl

overlaps_itself : (r : ℤ × ℤ) → is_filled r ≡ true → message_ranges_overlap r r ≡ true
overlaps_itself r filled = ap (λ b. b && b) filled

-- how many of them a range overlaps
abbrev pub met : List (ℤ × ℤ) → ℤ × ℤ → ℕ
met rs r = count_by (message_ranges_overlap r) rs

met_cons : (r s : ℤ × ℤ) (rs : List (ℤ × ℤ)) → met (s ∷ rs) r ≡ cond (message_ranges_overlap r s) 1 0 + met rs r
met_cons r s rs = sum_by-cons (λ x. cond (message_ranges_overlap r x) 1 0) s rs

none_met : (r : ℤ × ℤ) (rs : List (ℤ × ℤ)) → list_any (message_ranges_overlap r) rs ≡ false → met rs r ≡ 0
none_met r [] none = refl
none_met r (s ∷ rs) none = met_cons r s rs ∙ ap (λ b. cond b 1 0 + met rs r) (or_false (message_ranges_overlap r s) (list_any (message_ranges_overlap r) rs) none).0 ∙ ap (λ n. 0 + n) (none_met r rs (or_false (message_ranges_overlap r s) (list_any (message_ranges_overlap r) rs) none).1)

some_met : (r : ℤ × ℤ) (rs : List (ℤ × ℤ)) → list_any (message_ranges_overlap r) rs ≡ true → 0 < met rs r
some_met r [] some = absurd (false≢true some)
some_met r (s ∷ rs) some = ⊎_elim
    (λ here. let e = ap (λ b. cond b 1 0 + met rs r) here in omega (arith, met_cons r s rs, e))
    (λ later. omega (arith, met_cons r s rs, some_met r rs later))
    (or_cases (message_ranges_overlap r s) (list_any (message_ranges_overlap r) rs) some)

-- each range overlaps itself alone
abbrev pub MeetThemselves : List (ℤ × ℤ) → Type 0
MeetThemselves rs = All (λ r. met rs r ≤ 1) rs

none_there : (test : ℤ × ℤ → Bool) (rs : List (ℤ × ℤ)) (k : ℕ) (d : ℤ × ℤ) → list_any test rs ≡ false → k < length rs → test (get_or rs k d) ≡ false
none_there test rs k d none lt = ⊎_elim (λ passes. absurd (false≢true (sym none ∙ list_any_at test rs k d lt passes))) (λ fails. fails) (cases_Bool (test (get_or rs k d)))

pub meet_themselves : (rs : List (ℤ × ℤ)) → list_all is_filled rs ≡ true → none_overlap message_ranges_overlap rs ≡ true → MeetThemselves rs
meet_themselves [] filled none = All-nil (λ r. met [] r ≤ 1)
meet_themselves (r ∷ rs) filled none =
    let parts = and_parts (not (list_any (message_ranges_overlap r) rs)) (none_overlap message_ranges_overlap rs) none in
    let fills = and_parts (is_filled r) (list_all is_filled rs) filled in
    let apart = not-true (list_any (message_ranges_overlap r) rs) parts.0 in
    let later = meet_themselves rs fills.1 parts.1 in
    All-cons (λ s. met (r ∷ rs) s ≤ 1) r rs
    (let own = ap (λ b. cond b 1 0 + met rs r) (overlaps_itself r fills.0) in omega (arith, met_cons r r rs, own, none_met r rs apart))
    (λ k d lt. let s = get_or rs k d in let other = ap (λ b. cond b 1 0 + met rs s) (overlap_turned s r ∙ none_there (message_ranges_overlap r) rs k d apart lt) in omega (arith, met_cons s r rs, other, later k d lt))

pub themselves_met : (rs : List (ℤ × ℤ)) → list_all is_filled rs ≡ true → MeetThemselves rs → none_overlap message_ranges_overlap rs ≡ true
themselves_met [] filled meet = refl
themselves_met (r ∷ rs) filled meet =
    let fills = and_parts (is_filled r) (list_all is_filled rs) filled in
    let own = ap (λ b. cond b 1 0 + met rs r) (overlaps_itself r fills.0) in
    let first : met (r ∷ rs) r ≤ 1 = meet 0 r (omega arith) in
    let apart : list_any (message_ranges_overlap r) rs ≡ false = ⊎_elim (λ some. absurd (omega (arith, some_met r rs some, met_cons r r rs, own, first))) (λ none. none) (cases_Bool (list_any (message_ranges_overlap r) rs)) in
    ap (λ b. not b && none_overlap message_ranges_overlap rs) apart
    ∙ themselves_met rs fills.1 (λ k d lt. let s = get_or rs k d in let held : met (r ∷ rs) s ≤ 1 = meet (suc k) d (omega (arith, lt)) in omega (arith, met_cons s r rs, held))

meet_moved : (xs ys : List (ℤ × ℤ)) → IsPermutation xs ys → MeetThemselves xs → MeetThemselves ys
meet_moved xs ys moved meet k d lt =
    let s = get_or ys k d in
    let held = All-permutation (λ r. met xs r ≤ 1) xs ys moved meet k d lt in
    omega (arith, sum_by-IsPermutation (λ x. cond (message_ranges_overlap s x) 1 0) xs ys moved, held)

pub filled_moved : (xs ys : List (ℤ × ℤ)) → IsPermutation xs ys → list_all is_filled xs ≡ true → list_all is_filled ys ≡ true
filled_moved xs ys moved filled = list_all-from_AllPass is_filled ys (All-permutation (λ r. is_filled r ≡ true) xs ys moved (AllPass-from_list_all is_filled xs filled))

pub overlap_moved : (xs ys : List (ℤ × ℤ)) → IsPermutation xs ys → list_all is_filled xs ≡ true → none_overlap message_ranges_overlap ys ≡ none_overlap message_ranges_overlap xs
overlap_moved xs ys moved filled =
    let fills = filled_moved xs ys moved filled in
    same_test (none_overlap message_ranges_overlap ys) (none_overlap message_ranges_overlap xs)
    (λ h. themselves_met xs filled (meet_moved ys xs (IsPermutation-sym xs ys moved) (meet_themselves ys fills h)))
    (λ h. themselves_met ys fills (meet_moved xs ys moved (meet_themselves xs filled h)))
  where
    same_test : (a b : Bool) → (a ≡ true → b ≡ true) → (b ≡ true → a ≡ true) → a ≡ b
    same_test true b f g = sym (f refl)
    same_test false true f g = g refl
    same_test false false f g = refl

-- ENDS RAISED

-- each end raised to the greatest of those up to it and of one before them
abbrev pub raised : ℤ → List (ℤ × ℤ) → List (ℤ × ℤ)
raised m [] = []
raised m (r ∷ rs) = (r.0, int_max m r.1) ∷ raised (int_max m r.1) rs

pub length-raised : (m : ℤ) (rs : List (ℤ × ℤ)) → length (raised m rs) ≡ length rs
length-raised m [] = refl
length-raised m (r ∷ rs) = ap suc (length-raised (int_max m r.1) rs)

start_raised : (m : ℤ) (rs : List (ℤ × ℤ)) (k : ℕ) (d : ℤ × ℤ) → (get_or (raised m rs) k d).0 ≡ (get_or rs k d).0
start_raised m [] k d = refl
start_raised m (r ∷ rs) zero d = refl
start_raised m (r ∷ rs) (suc k) d = start_raised (int_max m r.1) rs k d

pub starts_raised : (m : ℤ) (rs : List (ℤ × ℤ)) → Rises (λ s. s.0) rs → Rises (λ s. s.0) (raised m rs)
starts_raised m rs rises i j d le lt =
    let P : ℤ × ℤ → Type 0 = λ p. p.0 ≤ℤ p.1 in
    let h : (get_or rs i d).0 ≤ℤ (get_or rs j d).0 = rises i j d le (omega (arith, lt, length-raised m rs)) in
    subst P (λ t. (sym (start_raised m rs i d) t, sym (start_raised m rs j d) t)) h

above_raised : (m : ℤ) (rs : List (ℤ × ℤ)) (k : ℕ) (d : ℤ × ℤ) → k < length rs → m ≤ℤ (get_or (raised m rs) k d).1
above_raised m [] k d lt = absurd (omega (arith, lt))
above_raised m (r ∷ rs) zero d lt = omega (arith, ints, clamps)
above_raised m (r ∷ rs) (suc k) d lt = let later = above_raised (int_max m r.1) rs k d (omega (arith, lt)) in omega (arith, ints, clamps, later)

pub ends_raised : (m : ℤ) (rs : List (ℤ × ℤ)) → Rises (λ s. s.1) (raised m rs)
ends_raised m [] i j d le lt = absurd (omega (arith, lt))
ends_raised m (r ∷ rs) zero zero d le lt = omega (arith, ints)
ends_raised m (r ∷ rs) zero (suc j) d le lt = above_raised (int_max m r.1) rs j d (omega (arith, lt, length-raised (int_max m r.1) rs))
ends_raised m (r ∷ rs) (suc i) zero d le lt = absurd (omega (arith, le))
ends_raised m (r ∷ rs) (suc i) (suc j) d le lt = ends_raised (int_max m r.1) rs i j d (omega (arith, le)) (omega (arith, lt))

-- where something from `low` up to m holds all that the raised ends add, the ranges have the same numbers
raised_more : (n low m : ℤ) (rs : List (ℤ × ℤ)) → ((j : ℕ) (d : ℤ × ℤ) → j < length rs → low ≤ℤ (get_or rs j d).0) → Rises (λ s. s.0) rs → (is_in_message_range n (low, m) || list_any (is_in_message_range n) (raised m rs)) ≡ (is_in_message_range n (low, m) || list_any (is_in_message_range n) rs)
raised_more n low m [] above rises = refl
raised_more n low m (r ∷ rs) above rises =
    by_tests (int_le low n) (int_lt n m) (int_le r.0 n) (int_lt n r.1) (int_lt n (int_max m r.1)) (list_any (is_in_message_range n) (raised (int_max m r.1) rs)) (list_any (is_in_message_range n) rs)
    (λ h. let first : low ≤ℤ r.0 = above 0 r (omega arith) in let after = passed_le r.0 n h in le_passes low n (omega (arith, ints)))
    (lt_max n m r.1)
    (raised_more n r.0 (int_max m r.1) rs (λ j d lt. rises 0 (suc j) d (omega arith) (omega (arith, lt))) (rises_rest (λ x. x.0) r rs rises))
  where
    by_tests : (a b c d e later whole : Bool) → (c ≡ true → a ≡ true) → e ≡ (b || d) → ((c && e) || later) ≡ ((c && e) || whole) → ((a && b) || ((c && e) || later)) ≡ ((a && b) || ((c && d) || whole))
    by_tests a b c d e later whole starts ends same = ap (λ x. (a && b) || x) same ∙ ap (λ x. (a && b) || ((c && x) || whole)) ends ∙ split a b c d whole starts
      where
        split : (a b c d whole : Bool) → (c ≡ true → a ≡ true) → ((a && b) || ((c && (b || d)) || whole)) ≡ ((a && b) || ((c && d) || whole))
        split true true c d whole starts = refl
        split true false c d whole starts = refl
        split false b true d whole starts = absurd (false≢true (starts refl))
        split false b false d whole starts = refl

pub raised_all : (whole rs : List (ℤ × ℤ)) (i : ℕ) (m : ℤ) → length rs ≤ i → whole ≡ take i rs ++ raised m (drop i rs) → rs ≡ whole
raised_all whole rs i m le held = sym (held ∙ ap (λ l. take i rs ++ raised m l) (drop_all i rs le) ∙ append-nil (take i rs) ∙ take_all i rs le)

pub same_raised : (n m : ℤ) (rs : List (ℤ × ℤ)) → m ≤ℤ n → Rises (λ s. s.0) rs → list_any (is_in_message_range n) (raised m rs) ≡ list_any (is_in_message_range n) rs
same_raised n m [] le rises = refl
same_raised n m (r ∷ rs) le rises =
    let none : is_in_message_range n (r.0, m) ≡ false = ap (λ b. int_le r.0 n && b) (lt_fails n m le) ∙ and_false (int_le r.0 n) in
    ap (λ b. b || list_any (is_in_message_range n) (raised m (r ∷ rs))) (sym none)
    ∙ raised_more n r.0 m (r ∷ rs) (λ j d lt. rises 0 j d (omega arith) lt) rises
    ∙ ap (λ b. b || list_any (is_in_message_range n) (r ∷ rs)) none

-- A SEARCH

-- by the last of those that start at or before a number
pub number_found : (rs : List (ℤ × ℤ)) (n : ℤ) (k : ℕ) (last : ℤ × ℤ) → Rises (λ s. s.1) rs → IsPartitionPoint (λ s. int_le s.0 n ≡ true) (λ s. int_le s.0 n ≡ false) rs k → k < length rs + 1 → 0 < k → last ≡ get_or rs (k - 1) last → int_lt n last.1 ≡ list_any (is_in_message_range n) rs
number_found rs n k last rises split fits some is =
    or_is (list_any (is_in_message_range n)) (is_in_message_range n) refl (λ x xs. refl) rs last (int_lt n last.1)
    (λ h. (k - 1, omega arith, at_last (split.0 (k - 1) last (omega arith) (omega arith)) h))
    (λ h i lt. ⊎_elim (λ low. before i low h) (λ high. ap (λ b. b && int_lt n (get_or rs i last).1) (split.1 i last high lt)) (cases_lt i k))
  where
    at_last : int_le (get_or rs (k - 1) last).0 n ≡ true → int_lt n last.1 ≡ true → is_in_message_range n (get_or rs (k - 1) last) ≡ true
    at_last starts ends = ap (λ b. b && int_lt n (get_or rs (k - 1) last).1) starts ∙ ap (λ s. int_lt n s.1) (sym is) ∙ ends

    before : (i : ℕ) → i < k → int_lt n last.1 ≡ false → is_in_message_range n (get_or rs i last) ≡ false
    before i low h =
        let P : ℤ × ℤ → Type 0 = λ s. (get_or rs i last).1 ≤ℤ s.1 in
        let upto : (get_or rs i last).1 ≤ℤ last.1 = subst P (sym is) (rises i (k - 1) last (omega arith) (omega arith)) in
        let past = failed_lt n last.1 h in
        ap (λ b. int_le (get_or rs i last).0 n && b) (lt_fails n (get_or rs i last).1 (omega (arith, ints))) ∙ and_false (int_le (get_or rs i last).0 n)

pub number_nowhere : (rs : List (ℤ × ℤ)) (n : ℤ) (k : ℕ) → IsPartitionPoint (λ s. int_le s.0 n ≡ true) (λ s. int_le s.0 n ≡ false) rs k → k ≡ 0 → list_any (is_in_message_range n) rs ≡ false
number_nowhere rs n k split none = list_any_none (is_in_message_range n) rs (λ i d lt. ap (λ b. b && int_lt n (get_or rs i d).1) (split.1 i d (omega arith) lt))

pub starts_part : (rs : List (ℤ × ℤ)) (n : ℤ) → Rises (λ s. s.0) rs → IsPartitionedBy (λ s. int_le s.0 n) rs
starts_part rs n rises i j d le lt passes =
    let first = rises i j d le lt in
    let then_after = passed_le (get_or rs j d).0 n passes in
    le_passes (get_or rs i d).0 n (omega (arith, ints))

-- RANGES OF ENUMS

pub enum_numbers : (n : ℤ) (rs : List (ℤ × ℤ)) → list_any (is_in_message_range n) (map with_end_behind rs) ≡ list_any (is_in_enum_range n) rs
enum_numbers n [] = refl
enum_numbers n (r ∷ rs) = ap (λ b. (int_le r.0 n && b) || list_any (is_in_message_range n) (map with_end_behind rs)) (sym (le_next n r.1)) ∙ ap (λ b. is_in_enum_range n r || b) (enum_numbers n rs)

enum_overlap : (r s : ℤ × ℤ) → message_ranges_overlap (with_end_behind r) (with_end_behind s) ≡ enum_ranges_overlap r s
enum_overlap r s = ap (λ b. b && int_lt s.0 (r.1 +ℤ pos 1)) (sym (le_next r.0 s.1)) ∙ ap (λ b. int_le r.0 s.1 && b) (sym (le_next s.0 r.1))

any_enum_overlap : (r : ℤ × ℤ) (rs : List (ℤ × ℤ)) → list_any (message_ranges_overlap (with_end_behind r)) (map with_end_behind rs) ≡ list_any (enum_ranges_overlap r) rs
any_enum_overlap r [] = refl
any_enum_overlap r (s ∷ rs) = ap (λ b. b || list_any (message_ranges_overlap (with_end_behind r)) (map with_end_behind rs)) (enum_overlap r s) ∙ ap (λ b. enum_ranges_overlap r s || b) (any_enum_overlap r rs)

pub enum_apart : (rs : List (ℤ × ℤ)) → none_overlap message_ranges_overlap (map with_end_behind rs) ≡ none_overlap enum_ranges_overlap rs
enum_apart [] = refl
enum_apart (r ∷ rs) = ap (λ b. not b && none_overlap message_ranges_overlap (map with_end_behind rs)) (any_enum_overlap r rs) ∙ ap (λ b. not (list_any (enum_ranges_overlap r) rs) && b) (enum_apart rs)

pub enum_filled : (rs : List (ℤ × ℤ)) → list_all is_filled (map with_end_behind rs) ≡ list_all is_enum_range rs
enum_filled [] = refl
enum_filled (r ∷ rs) = ap (λ b. b && list_all is_filled (map with_end_behind rs)) (sym (le_next r.0 r.1)) ∙ ap (λ b. is_enum_range r && b) (enum_filled rs)

pub message_filled : (rs : List (ℤ × ℤ)) → list_all is_message_range rs ≡ true → list_all is_filled rs ≡ true
message_filled [] right = refl
message_filled (r ∷ rs) right =
    let parts = and_parts (is_message_range r) (list_all is_message_range rs) right in
    let both = and_parts (int_le (pos 1) r.0 && int_lt r.0 r.1) (int_le r.1 (pos 536870912)) parts.0 in
    ap (λ b. b && list_all is_filled rs) (and_parts (int_le (pos 1) r.0) (int_lt r.0 r.1) both.0).1 ∙ message_filled rs parts.1

-- NAMES

-- a set of the names so far, with one more
pub names_more : {X : Type 0} (view : X → List ℕ) (xs : List X) (i : ℕ) (x : X) (key name : List ℕ) (old new : Bool) → i < length xs → x ≡ get_or xs i x → key ≡ view x → new ≡ (list_any (bytes_eq name) (key ∷ []) || old) → old ≡ list_any (bytes_eq name) (map view (take i xs)) → new ≡ list_any (bytes_eq name) (map view (take (i + 1) xs))
names_more view xs i x key name old new lt is keyed adds held =
    let before = map view (take i xs) in
    adds ∙ ap (λ b. list_any (bytes_eq name) (key ∷ []) || b) held ∙ turned (bytes_eq name key) (list_any (bytes_eq name) before)
    ∙ sym (list_any-append (bytes_eq name) before (key ∷ []))
    ∙ ap (λ k. list_any (bytes_eq name) (before ++ k ∷ [])) (keyed ∙ ap view is)
    ∙ ap (list_any (bytes_eq name)) (sym (map_more view xs i x lt))
  where
    turned : (a b : Bool) → ((a || false) || b) ≡ (b || (a || false))
    turned true true = refl
    turned true false = refl
    turned false true = refl
    turned false false = refl

-- neither number nor name is reserved: the name is looked up where the number is not
pub kept_by_name : (number name in_range is_listed : Bool) → number ≡ in_range → name ≡ is_listed → number ≡ false → not name ≡ (not in_range && not is_listed)
kept_by_name number name in_range is_listed ranged listed free = ap not listed ∙ ap (λ b. not b && not is_listed) (sym free ∙ ranged)

pub lost_by_number : (number in_range is_listed : Bool) → number ≡ in_range → number ≡ true → not number ≡ (not in_range && not is_listed)
lost_by_number number in_range is_listed ranged taken = ap not taken ∙ ap (λ b. not b && not is_listed) (sym taken ∙ ranged)
