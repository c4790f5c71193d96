-- Lists that share what they begin and end with, as far as they can, differ in one place.
use Rattle.std.proofs.Common.{◌≡◌, ◌≢◌, ◌<◌, ◌≤◌, ◌+◌, ◌-◌, ℕ, zero, suc, List, [], ◌∷◌, ◌++◌, length, map, take, drop, get_or, sym, ap, ◌∙◌, refl, arith, inl, inr, append_assoc, length-append, length-drop, take-append-drop}
use Rattle.std.proofs.lemmas.List.{length-map, get_or_append_left, get_or-append-add, get_or-take, get_or-drop}
use Rattle.std.proofs.lemmas.Grind.{same_number_lists, common_steps}
use Rattle.std.proofs.lemmas.Bool.{cases_lt}
use Rattle.std.specs.Char.{to_ascii_lowercase}
use Rattle.pbtool_hints.specs.Near.{AreAlikeFromEnd, DifferInOnePlace}

-- the lists share this number of elements at their beginnings, and this number at their ends, and no more
pub record Share (xs ys : List ℕ) (n k : ℕ) : Type 0 where
  pub left : n + k ≤ length xs
  pub right : n + k ≤ length ys
  pub begin : (i : ℕ) → i < n → get_or xs i 0 ≡ get_or ys i 0
  pub begin_longest : n < length xs → n < length ys → get_or xs n 0 ≢ get_or ys n 0
  pub end : (i : ℕ) → i < k → get_or xs (length xs - 1 - i) 0 ≡ get_or ys (length ys - 1 - i) 0
  pub end_longest : n + k < length xs → n + k < length ys → get_or xs (length xs - 1 - k) 0 ≢ get_or ys (length ys - 1 - k) 0

-- what a list has at a place of its last part
in_last : (p l s : List ℕ) (i : ℕ) → i < length s → get_or (p ++ l ++ s) (length (p ++ l ++ s) - 1 - i) 0 ≡ get_or s (length s - 1 - i) 0
in_last p l s i h =
    let size : length (p ++ l ++ s) - 1 - i ≡ length (p ++ l) + (length s - 1 - i) = simp length-append (omega arith) in
    rw size (get_or-append-add (p ++ l) s (length s - 1 - i) 0)

in_first : (p l s : List ℕ) (i : ℕ) → i < length p → get_or (p ++ l ++ s) i 0 ≡ get_or p i 0
in_first p l s i h =
    let inside : i < length (p ++ l) = simp length-append (omega arith) in
    get_or_append_left (p ++ l) s 0 i inside ∙ get_or_append_left p l 0 i h

begin_bound : (xs ys p l r s : List ℕ) (n k : ℕ) → Share xs ys n k → xs ≡ p ++ l ++ s → ys ≡ p ++ r ++ s → length p ≤ n
begin_bound xs ys p l r s n k h e f =
    elim (cases_lt n (length p)) [
      | inl lt ↦
          (let a : n < length xs = omega (arith, ap length e, length-append {A = ℕ}) in
          let b : n < length ys = omega (arith, ap length f, length-append {A = ℕ}) in
          let x : get_or xs n 0 ≡ get_or p n 0 = rw e (in_first p l s n lt) in
          let y : get_or ys n 0 ≡ get_or p n 0 = rw f (in_first p r s n lt) in
          absurd (h.begin_longest a b (x ∙ sym y)))
      | inr le ↦ le
    ]

end_bound : (xs ys p l r s : List ℕ) (n k : ℕ) → Share xs ys n k → xs ≡ p ++ l ++ s → ys ≡ p ++ r ++ s
    → n + k < length xs → n + k < length ys → length s ≤ k
end_bound xs ys p l r s n k h e f a b =
    elim (cases_lt k (length s)) [
      | inl lt ↦
          (let x : get_or xs (length xs - 1 - k) 0 ≡ get_or s (length s - 1 - k) 0 = rw e (in_last p l s k lt) in
          let y : get_or ys (length ys - 1 - k) 0 ≡ get_or s (length s - 1 - k) 0 = rw f (in_last p r s k lt) in
          absurd (h.end_longest a b (x ∙ sym y)))
      | inr le ↦ le
    ]

pub near_only_if : (m : ℕ) (xs ys : List ℕ) (n k : ℕ) → Share xs ys n k → DifferInOnePlace m xs ys
    → (length xs - (n + k) ≤ m) × (length ys - (n + k) ≤ m)
near_only_if m xs ys n k h d =
    let begun : length d.before ≤ n = begin_bound xs ys d.before d.left d.right d.after n k h d.first d.second in
    let size_x : length xs ≡ length d.before + length d.left + length d.after = ap length d.first ∙ simp length-append in
    let size_y : length ys ≡ length d.before + length d.right + length d.after = ap length d.second ∙ simp length-append in
    let few_left : length d.left ≤ m = d.few_left in
    let few_right : length d.right ≤ m = d.few_right in
    let hl : n + k ≤ length xs = h.left in
    let hr : n + k ≤ length ys = h.right in
    elim (cases_lt (n + k) (length xs)) [
      | inr done ↦ (omega arith, omega arith)
      | inl more ↦ elim (cases_lt (n + k) (length ys)) [
        | inr done ↦ (omega arith, omega arith)
        | inl more_y ↦
            (let ended : length d.after ≤ k = end_bound xs ys d.before d.left d.right d.after n k h d.first d.second more more_y in
            (omega arith, omega arith))
      ]
    ]

in_parts : (n j : ℕ) (xs : List ℕ) → xs ≡ take n xs ++ take j (drop n xs) ++ drop j (drop n xs)
in_parts n j xs =
    sym (append_assoc (take n xs) (take j (drop n xs)) (drop j (drop n xs))
    ∙ ap (λ t. take n xs ++ t) (take-append-drop j (drop n xs))
    ∙ take-append-drop n xs)

same_begin : (xs ys : List ℕ) (n k : ℕ) → Share xs ys n k → take n xs ≡ take n ys
same_begin xs ys n k h =
    let hl : n + k ≤ length xs = h.left in
    let hr : n + k ≤ length ys = h.right in
    let x : length (take n xs) ≡ n = grind (arith, common_steps) in
    let y : length (take n ys) ≡ n = grind (arith, common_steps) in
    same_number_lists (take n xs) (take n ys) (x ∙ sym y)
    (λ i b. let lt : i < n = omega arith in
    get_or-take n xs i 0 lt ∙ h.begin i lt ∙ sym (get_or-take n ys i 0 lt))

-- an element of the end, counted from its start
at_end : (xs : List ℕ) (n k i : ℕ) → n + k ≤ length xs → i < k
    → get_or (drop (length xs - (n + k)) (drop n xs)) i 0 ≡ get_or xs (length xs - 1 - (k - 1 - i)) 0
at_end xs n k i h lt =
    let place : n + (length xs - (n + k) + i) ≡ length xs - 1 - (k - 1 - i) = omega arith in
    get_or-drop (length xs - (n + k)) (drop n xs) i 0
    ∙ get_or-drop n xs (length xs - (n + k) + i) 0
    ∙ ap (λ j. get_or xs j 0) place

same_end : (xs ys : List ℕ) (n k : ℕ) → Share xs ys n k
    → drop (length xs - (n + k)) (drop n xs) ≡ drop (length ys - (n + k)) (drop n ys)
same_end xs ys n k h =
    let hl : n + k ≤ length xs = h.left in
    let hr : n + k ≤ length ys = h.right in
    let x : length (drop (length xs - (n + k)) (drop n xs)) ≡ k = simp length-drop (omega arith) in
    let y : length (drop (length ys - (n + k)) (drop n ys)) ≡ k = simp length-drop (omega arith) in
    same_number_lists _ _ (x ∙ sym y)
    (λ i b. let lt : i < k = omega arith in
    let back : k - 1 - i < k = omega arith in
    at_end xs n k i hl lt ∙ h.end (k - 1 - i) back ∙ sym (at_end ys n k i hr lt))

pub near_if : (m : ℕ) (xs ys : List ℕ) (n k : ℕ) → Share xs ys n k → length xs - (n + k) ≤ m → length ys - (n + k) ≤ m
    → DifferInOnePlace m xs ys
near_if m xs ys n k h a b =
    let hl : n + k ≤ length xs = h.left in
    let hr : n + k ≤ length ys = h.right in
    let begin : take n xs ≡ take n ys = same_begin xs ys n k h in
    let end : drop (length xs - (n + k)) (drop n xs) ≡ drop (length ys - (n + k)) (drop n ys) = same_end xs ys n k h in
    record {
      before = take n xs;
      left = take (length xs - (n + k)) (drop n xs);
      right = take (length ys - (n + k)) (drop n ys);
      after = drop (length xs - (n + k)) (drop n xs);
      first = in_parts n (length xs - (n + k)) xs;
      second = rw (begin, end) (in_parts n (length ys - (n + k)) ys);
      few_left = grind (arith, common_steps);
      few_right = grind (arith, common_steps);
    }

low_at : (xs : List ℕ) (i : ℕ) → get_or (map to_ascii_lowercase xs) i 0 ≡ to_ascii_lowercase (get_or xs i 0)
low_at [] i = refl
low_at (x ∷ xs) zero = refl
low_at (x ∷ xs) (suc i) = low_at xs i

end_at : (xs : List ℕ) (i : ℕ)
    → get_or (map to_ascii_lowercase xs) (length (map to_ascii_lowercase xs) - 1 - i) 0 ≡ to_ascii_lowercase (get_or xs (length xs - 1 - i) 0)
end_at xs i = rw length-map (low_at xs (length xs - 1 - i))

-- what the two counts say of names
pub shared : (xs ys : List ℕ) (n k : ℕ) → n + k ≤ length xs → n + k ≤ length ys
    → ((i : ℕ) → i < n → to_ascii_lowercase (get_or xs i 0) ≡ to_ascii_lowercase (get_or ys i 0))
    → (n < length xs → n < length ys → to_ascii_lowercase (get_or xs n 0) ≢ to_ascii_lowercase (get_or ys n 0))
    → ((i : ℕ) → i < k → AreAlikeFromEnd xs ys i)
    → (n + k < length xs → n + k < length ys → ¬ (AreAlikeFromEnd xs ys k))
    → Share (map to_ascii_lowercase xs) (map to_ascii_lowercase ys) n k
shared xs ys n k a b alike longest alike_end longest_end =
    let sx : length (map to_ascii_lowercase xs) ≡ length xs = length-map xs to_ascii_lowercase in
    let sy : length (map to_ascii_lowercase ys) ≡ length ys = length-map ys to_ascii_lowercase in
    record {
      left = omega arith;
      right = omega arith;
      begin = λ i h. low_at xs i ∙ alike i h ∙ sym (low_at ys i);
      begin_longest = λ h j e. longest (omega arith) (omega arith) (sym (low_at xs n) ∙ e ∙ low_at ys n);
      end = λ i h. end_at xs i ∙ alike_end i h ∙ sym (end_at ys i);
      end_longest = λ h j e. longest_end (omega arith) (omega arith) (sym (end_at xs k) ∙ e ∙ end_at ys k);
    }

-- and so whether the names are near
pub near_by : (m : ℕ) (xs ys : List ℕ) (n k : ℕ) → Share (map to_ascii_lowercase xs) (map to_ascii_lowercase ys) n k
    → ((length xs - (n + k) ≤ m) × (length ys - (n + k) ≤ m) → DifferInOnePlace m (map to_ascii_lowercase xs) (map to_ascii_lowercase ys))
    × (DifferInOnePlace m (map to_ascii_lowercase xs) (map to_ascii_lowercase ys) → (length xs - (n + k) ≤ m) × (length ys - (n + k) ≤ m))
near_by m xs ys n k h =
    let sx : length (map to_ascii_lowercase xs) ≡ length xs = length-map xs to_ascii_lowercase in
    let sy : length (map to_ascii_lowercase ys) ≡ length ys = length-map ys to_ascii_lowercase in (
      (λ p. near_if m _ _ n k h (let a : length xs - (n + k) ≤ m = p.0 in omega arith) (let b : length ys - (n + k) ≤ m = p.1 in omega arith)),
      (λ d. let b : (length (map to_ascii_lowercase xs) - (n + k) ≤ m) × (length (map to_ascii_lowercase ys) - (n + k) ≤ m) = near_only_if m _ _ n k h d in
          (omega (arith, b.0), omega (arith, b.1))),
    )
