-- Places in bytes, and the bytes after this many of others.
use Rattle.std.proofs.Common.{◌≡◌, ℕ, ◌+◌, ◌-◌, ◌≤◌, List, take, drop, length, refl, sym, ap, ◌∙◌, arith, length-drop, drop-drop, Option, Some, None, option_map}
use Rattle.std.proofs.lemmas.List.{take_all, length-take-le}
use Rattle.pb_wire.specs.Fault.{Place}
use Rattle.pb_wire.specs.Scan.{given_at, passed}

-- a slice from here on
pub slice_from : (n : ℕ) (l : List ℕ) → take (length l - n) (drop n l) ≡ drop n l
slice_from n l = take_all (length l - n) (drop n l) (let e = length-drop n l in omega (arith, e))

-- a slice of this many
pub slice_size : (start size : ℕ) (l : List ℕ) → start + size ≤ length l → length (take ((start + size) - start) (drop start l)) ≡ size
slice_size start size l within =
    let left = length-drop start l in
    let fits = length-take-le ((start + size) - start) (drop start l) (omega (arith, left, within)) in
    omega (arith, fits)

-- two numbers take the bytes of both
known_twice : (e : Option ℕ) (a b : ℕ) → option_map (λ (z : ℕ). z - b) (option_map (λ (z : ℕ). z - a) e) ≡ option_map (λ (z : ℕ). z - (a + b)) e
known_twice None a b = refl
known_twice (Some e) a b = let same : (e - a) - b ≡ e - (a + b) = omega arith in ap (λ (z : ℕ). Some z) same

pub passed_twice : (p : Place) (a b : ℕ) → passed (passed p a) b ≡ passed p (a + b)
passed_twice p a b =
    let at : (p.at + a) + b ≡ p.at + (a + b) = omega arith in
    ap (λ (z : Option ℕ). record { at = (p.at + a) + b; known = z; rest = drop b (drop a p.rest) }) (known_twice p.known a b)
    ∙ ap (λ (z : ℕ). record { at = z; known = option_map (λ (e : ℕ). e - (a + b)) p.known; rest = drop b (drop a p.rest) }) at
    ∙ ap (λ (z : List ℕ). record { at = p.at + (a + b); known = option_map (λ (e : ℕ). e - (a + b)) p.known; rest = z }) (drop-drop b a p.rest)

-- the bytes after this many of those at a place
pub place_after : (at : ℕ) (left after : Option ℕ) (rest : List ℕ) (used : ℕ) → after ≡ option_map (λ (e : ℕ). e - used) left → passed (given_at at left rest) used ≡ given_at (at + used) after (take (length rest - used) (drop used rest))
place_after at left after rest used is = ap (λ (z : Option ℕ). given_at (at + used) z (drop used rest)) (sym is) ∙ ap (given_at (at + used) after) (sym (slice_from used rest))
