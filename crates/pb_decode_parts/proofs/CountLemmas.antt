-- What a search finds among rising numbers, and the count of each number after a change.
use Rattle.std.proofs.Common.{◌≡◌, ℕ, zero, suc, ◌<◌, ◌≤◌, ◌≢◌, eqb, List, [], ◌∷◌, ◌++◌, length, get_or, set, if◌then◌else◌, Option, Some, None, is_some, Result, Ok, Err, IfOk, IfErr, refl, sym, ◌∙◌, ap, arith}
use Rattle.std.specs.List.Sorted.{IsSearchInRange, IsBinarySearchResult, IsNonDecreasingBy}
use Rattle.std.specs.Map.{lookup}
use Rattle.std.specs.BTreeMap.{BTreeMap, get, is_at}
use Rattle.std.specs.Ordering.{nat_cmp, ordering_index}
use Rattle.std.proofs.lemmas.Cmp.{ranked}
use Rattle.std.proofs.lemmas.List.Sorted.{IsNonDecreasingBy-from_default}
use Rattle.std.proofs.lemmas.Bool.Decides.{nat_tests}
use Rattle.pb_decode_parts.specs.Open.Occurrences.{found, number_at, IsRising, IsAt, IsGapFor, IsKept}

-- WHAT A SEARCH FINDS

module _ (l : List (ℕ × ℕ)) (rising : IsRising l) (k : ℕ) where
  -- the comparisons with k rise along the list, as a binary search asks
  comparisons_rise : IsNonDecreasingBy (λ entry. ordering_index (nat_cmp entry.0 k)) l
  comparisons_rise = IsNonDecreasingBy-from_default (λ entry. ordering_index (nat_cmp entry.0 k)) l (0, 0) (λ i j le in_range.
      let numbers_rise : number_at l i ≤ number_at l j = grind (arith, rising i j, λ (same : i ≡ j). ap (number_at l) same) in
      grind (arith, nat_tests))

  pub searched : (r : Result ℕ ℕ) → IsSearchInRange r (length l) → IsBinarySearchResult (λ entry. nat_cmp entry.0 k) l r → record { found : IfOk r (IsAt l k); absent : IfErr r (IsGapFor l k) }
  searched (Ok at) in_range equal = record { found = record { in_range = in_range; has_number = ranked _ k _ (sym (equal (0, 0))) }; absent = tt }
  searched (Err at) in_range parted = record {
    found = tt;
    absent = record {
      in_range = in_range;
      less_before = λ j lt. ranked _ k _ (sym ((parted comparisons_rise).0 j (0, 0) (omega arith) lt));
      greater_after = λ j le lt. ranked _ k _ (sym ((parted comparisons_rise).1 j (0, 0) le lt));
    };
  }

-- THE COUNT OF A NUMBER

-- no entry before the place i has the number
abbrev pub NoneBefore : List (ℕ × ℕ) → ℕ → ℕ → Type 0
NoneBefore l k i = (j : ℕ) → j < i → number_at l j ≢ k

none_before_tail : (x : ℕ × ℕ) (l : List (ℕ × ℕ)) (k i : ℕ) → NoneBefore (x ∷ l) k (suc i) → NoneBefore l k i
none_before_tail x l k i none j lt = none (suc j) (omega arith)

is_at_tail : (x : ℕ × ℕ) (l : List (ℕ × ℕ)) (k i : ℕ) → IsAt (x ∷ l) k (suc i) → IsAt l k i
is_at_tail x l k i is_at = record { in_range = omega (arith, is_at.in_range); has_number = is_at.has_number }

pub none_before_at : (l : List (ℕ × ℕ)) (k i : ℕ) → IsRising l → IsAt l k i → NoneBefore l k i
none_before_at l k i rising is_at j lt same = omega (arith, rising j i lt is_at.in_range, is_at.has_number)

pub none_in_gap : (l : List (ℕ × ℕ)) (k i : ℕ) → IsGapFor l k i → NoneBefore l k (length l)
none_in_gap l k i gap j lt same = grind (arith, gap.less_before j, gap.greater_after j)

-- after a list without the number comes what the rest has
pub found_after : (l rest : List (ℕ × ℕ)) (k : ℕ) → NoneBefore l k (length l) → found k (l ++ rest) ≡ found k rest
found_after [] rest k none = refl
found_after (x ∷ l) rest k none = grind (arith, nat_tests, none 0 (omega arith), found_after l rest k (none_before_tail x l k (length l) none))

pub found_at : (l rest : List (ℕ × ℕ)) (k i : ℕ) → IsAt l k i → NoneBefore l k i → found k (l ++ rest) ≡ Some (get_or l i (0, 0)).1
found_at [] rest k i is_at none = absurd (omega (arith, is_at.in_range))
found_at (x ∷ l) rest k zero is_at none = grind (arith, nat_tests, is_at.has_number)
found_at (x ∷ l) rest k (suc i) is_at none = grind (arith, nat_tests, none 0 (omega arith), found_at l rest k i (is_at_tail x l k i is_at) (none_before_tail x l k i none))

pub found-set : (l rest : List (ℕ × ℕ)) (k v i : ℕ) → IsAt l k i → NoneBefore l k i → (q : ℕ) → found q (set l i (k, v) ++ rest) ≡ (if eqb q k then Some v else found q (l ++ rest))
found-set [] rest k v i is_at none q = absurd (omega (arith, is_at.in_range))
found-set (x ∷ l) rest k v zero is_at none q = grind (arith, nat_tests, is_at.has_number)
found-set (x ∷ l) rest k v (suc i) is_at none q = grind (arith, nat_tests, none 0 (omega arith), found-set l rest k v i (is_at_tail x l k i is_at) (none_before_tail x l k i none) q)

-- a change after a list without the number
pub found-changed : (l m n : List (ℕ × ℕ)) (k v : ℕ) → NoneBefore l k (length l) → ((q : ℕ) → found q n ≡ (if eqb q k then Some v else found q m)) → (q : ℕ) → found q (l ++ n) ≡ (if eqb q k then Some v else found q (l ++ m))
found-changed [] m n k v none changed q = changed q
found-changed (x ∷ l) m n k v none changed q = grind (arith, nat_tests, none 0 (omega arith), found-changed l m n k v (none_before_tail x l k (length l) none) changed q)

pub found-push : (l rest : List (ℕ × ℕ)) (k v : ℕ) → NoneBefore l k (length l) → (q : ℕ) → found q ((l ++ (k, v) ∷ []) ++ rest) ≡ (if eqb q k then Some v else found q (l ++ rest))
found-push [] rest k v none q = refl
found-push (x ∷ l) rest k v none q = grind (arith, nat_tests, none 0 (omega arith), found-push l rest k v (none_before_tail x l k (length l) none) q)

-- a map as its entries
pub found-entries : (k : ℕ) (es : List (ℕ × ℕ)) → lookup (is_at (nat_cmp k)) es ≡ found k es
found-entries k [] = refl
found-entries k (e ∷ es) = grind (arith, nat_tests, found-entries k es)

-- a number above each of the run is none of the others either
pub others_lack : (run : List (ℕ × ℕ)) (others : BTreeMap ℕ ℕ) (k at : ℕ) → IsKept run others → IsGapFor run k at → length run ≤ at → found k others.entries ≡ None
others_lack run others k at kept gap end = by_answer (get nat_cmp others k) refl
  where
    by_answer : (o : Option ℕ) → get nat_cmp others k ≡ o → found k others.entries ≡ None
    by_answer None e = sym (found-entries k others.entries) ∙ e
    by_answer (Some v) e =
        let above = kept.below k (ap is_some e) in
        absurd (omega (arith, above.1, above.2, gap.less_before above.0 (omega (arith, above.1))))
