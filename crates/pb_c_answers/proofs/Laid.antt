-- Lists laid over the front of a buffer.
use Rattle.std.proofs.Common.{◌≡◌, ℕ, ◌+◌, ◌-◌, ◌<◌, ◌≤◌, ◌⊎◌, inl, inr, min, ap, ◌∙◌, List, [], ◌++◌, length, take, drop, map, arith}
use Rattle.std.proofs.lemmas.Bool.{cases_lt}
use Rattle.std.proofs.lemmas.List.{take-append-drop, take-map, append-nil}
use Rattle.std.proofs.lemmas.Grind.{common_steps}
use lib.Seq.{take-append-add}
use Rattle.pb_c_answers.specs.Reporting.{laid_over}

-- a buffer whose front is laid and whose rest is as it was
pub laid : {X Y : Type 0} (f : X → Y) (xs : List X) (old new : List Y) (n : ℕ)
    → n ≡ min (length xs) (length old) → length new ≡ length old → take n new ≡ map f (take n xs) → drop n new ≡ drop n old
    → new ≡ laid_over (map f xs) old
laid f xs old new n e long front rest = grind (arith, common_steps, take-append-drop, take-map)

module _ {A : Type 0} (xs ys buffer : List A) where
  -- where the first list ends in the buffer
  inside : length xs ≤ length buffer → take (length xs) (laid_over xs buffer) ++ laid_over ys (drop (length xs) (laid_over xs buffer)) ≡ laid_over (xs ++ ys) buffer
  inside fits =
      let k : ℕ = length buffer - length xs in
      let sum : length buffer ≡ length xs + k = omega (arith, fits) in
      let whole : take (length buffer) (xs ++ ys) ≡ xs ++ take k ys = ap (λ n. take n (xs ++ ys)) sum ∙ take-append-add xs ys k in
      grind (arith, common_steps, whole)

  -- where the first list fills the buffer
  filled : length buffer < length xs → take (length buffer) (laid_over xs buffer) ++ laid_over ys (drop (length buffer) (laid_over xs buffer)) ≡ laid_over (xs ++ ys) buffer
  filled long = grind (arith, common_steps)

  pub laid_both : (n : ℕ) → n ≡ min (length xs) (length buffer) → take n (laid_over xs buffer) ++ laid_over ys (drop n (laid_over xs buffer)) ≡ laid_over (xs ++ ys) buffer
  laid_both n is = by_length (cases_lt (length buffer) (length xs))
    where
      by_length : (length buffer < length xs) ⊎ (length xs ≤ length buffer) → take n (laid_over xs buffer) ++ laid_over ys (drop n (laid_over xs buffer)) ≡ laid_over (xs ++ ys) buffer
      by_length (inl long) = let full : n ≡ length buffer = omega (arith, is, long) in rw full (filled long)
      by_length (inr fits) = let whole : n ≡ length xs = omega (arith, is, fits) in rw whole (inside fits)

  -- the second list is laid over all that is after the first
  pub laid_behind : (n : ℕ) (mid behind : List A) → n ≡ min (length xs) (length buffer) → mid ≡ laid_over xs buffer → behind ≡ laid_over ys (take (length mid - n) (drop n mid))
      → take n mid ++ (behind ++ drop (length mid - n) (drop n mid)) ≡ laid_over (xs ++ ys) buffer
  laid_behind n mid behind is is_mid is_behind =
      let all : take (length mid - n) (drop n mid) ≡ drop n mid = grind (arith, common_steps) in
      let none : drop (length mid - n) (drop n mid) ≡ [] = grind (arith, common_steps) in
      ap (λ rest. take n mid ++ (behind ++ rest)) none ∙ ap (λ l. take n mid ++ l) (append-nil behind ∙ is_behind ∙ ap (laid_over ys) all)
      ∙ ap (λ l. take n l ++ laid_over ys (drop n l)) is_mid ∙ laid_both n is
