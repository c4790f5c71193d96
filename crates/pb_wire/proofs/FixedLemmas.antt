-- The bytes of a fixed value at an index.
use Rattle.std.proofs.Common.{◌≡◌, ℕ, ◌+◌, ◌-◌, ◌<◌, ◌≤◌, List, length, take, drop, get_or, refl, sym, ap, ap₂, ◌++◌, ◌∙◌, arith, ⊎_elim}
use Rattle.std.proofs.lemmas.List.{take-append-drop, drop-drop, length-take-le, length-drop, take_all, get_or-take, get_or-drop, get_or_past}
use Rattle.std.proofs.lemmas.Bool.{cases_lt}
use Rattle.std.specs.Array.{IsFirstChunk}
use Rattle.pb_wire.specs.Fault.{place, Moves}

module _ (b : List ℕ) (at : ℕ) (inside : at ≤ length b) where
  -- what comes from the index on, as code slices it
  behind : take (length b - at) (drop at b) ≡ drop at b
  behind = take_all (length b - at) (drop at b) (omega (arith, length-drop at b))

  module _ (n : ℕ) (front : List ℕ) (chunk : IsFirstChunk (take (length b - at) (drop at b)) front n) where
    front_is : front ≡ take n (drop at b)
    front_is = chunk.same ∙ ap (take n) behind

    depth_left : n ≤ length (drop at b)
    depth_left = let long : n ≤ length (take (length b - at) (drop at b)) = chunk.enough in rw behind at long

    pub length-front : length front ≡ n
    length-front = ap length front_is ∙ length-take-le n (drop at b) depth_left

    pub front_bytes : ((i : ℕ) → get_or b i 0 < 256) → (i : ℕ) → get_or front i 0 < 256
    front_bytes bytes i = ⊎_elim (λ (low : i < n). rw (same_byte low) (bytes (at + i))) (λ (high : n ≤ i). past high) (cases_lt i n)
      where
        same_byte : i < n → get_or front i 0 ≡ get_or b (at + i) 0
        same_byte low = ap (λ (xs : List ℕ). get_or xs i 0) front_is ∙ get_or-take n (drop at b) i 0 low ∙ get_or-drop at b i 0

        past : n ≤ i → get_or front i 0 < 256
        past high = rw (get_or_past front i 0 (omega (arith, length-front, high))) (omega arith)

    pub moves_front : Moves (place b at) front (place b (at + n))
    moves_front = record {
      given = sym (take-append-drop n (drop at b)) ∙ ap₂ (λ (x y : List ℕ). x ++ y) (sym front_is) (drop-drop n at b ∙ ap (λ (k : ℕ). drop k b) (omega arith));
      within = tt;
      at = omega (arith, length-front);
      known = refl;
    }
