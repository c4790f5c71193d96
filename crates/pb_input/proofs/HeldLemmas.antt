-- The bytes that a buffer holds.
use Rattle.std.proofs.Common.{◌≡◌, ℕ, ◌+◌, ◌-◌, ◌≤◌, List, length, take, drop, arith, sym, ap, ◌∙◌}
use Rattle.std.specs.Prelude.{slice_range}
use Rattle.std.proofs.lemmas.List.{drop-take, drop-drop, length-take}

-- a part without its first bytes
pub later_part : (xs : List ℕ) (start count end : ℕ) → count ≤ length (slice_range xs start end) → slice_range xs (start + count) end ≡ drop count (slice_range xs start end)
later_part xs start count end fits =
    let cut = length-take (end - start) (drop start xs) in
    let more : count + (end - (start + count)) ≡ end - start = omega (arith, fits, cut) in
    ap (take (end - (start + count))) (sym (drop-drop count start xs)) ∙ sym (drop-take count (end - (start + count)) (drop start xs))
    ∙ ap (λ (k : ℕ). drop count (take k (drop start xs))) more
