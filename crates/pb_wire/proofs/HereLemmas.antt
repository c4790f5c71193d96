-- What is at the front of a slice, as what is at an index of the bytes.
use Rattle.std.proofs.Common.{◌≡◌, ℕ, ◌+◌, ◌-◌, ◌<◌, ◌≤◌, List, [], length, take, drop, refl, ap, subst, ◌∙◌, arith, Option, Some, None}
use Rattle.std.specs.Prelude.{option_map}
use Rattle.std.proofs.lemmas.List.{drop-drop, length-drop, take_all}
use Rattle.pb_wire.specs.Spell.{Body}
use Rattle.pb_wire.specs.Fault.{Fault, fault, Place, input_end, Reads}
use Rattle.pb_wire.specs.Scan.{given_at, here, passed, number_view, Follows}
use Rattle.pb_wire.specs.declared.fault.Cause.TheVariants.{Truncated}
use Rattle.pb_wire.specs.declared.scan.Scanned.{Scanned}
use Rattle.pb_wire.specs.declared.scan.Number.{Number}
use Rattle.pb_wire.specs.declared.scan.Number.TheVariants as number
use Rattle.pb_wire.proofs.Places.{same_parts}
use Rattle.pb_wire.proofs.Tokens.{ends_some}

known_twice : (e : Option ℕ) (a b : ℕ) → option_map (λ (z : ℕ). z - b) (option_map (λ (z : ℕ). z - a) e) ≡ option_map (λ (z : ℕ). z - (a + b)) e
known_twice None a b = refl
known_twice (Some e) a b = let same : (e - a) - b ≡ e - (a + b) = omega arith in ap (λ (z : ℕ). Some z) same

-- the place n bytes further
pub here_passed : (b : List ℕ) (at n : ℕ) (to : Option ℕ) → passed (here b at to) n ≡ here b (at + n) to
here_passed b at n to = same_parts (passed (here b at to) n) (here b (at + n) to) refl (known_twice to at n) (drop-drop n at b)

-- what is given as a slice
at_slice : (b : List ℕ) (at : ℕ) (left to : Option ℕ) → left ≡ option_map (λ e. e - at) to → given_at at left (take (length b - at) (drop at b)) ≡ here b at to
at_slice b at left to is =
    let behind : take (length b - at) (drop at b) ≡ drop at b = take_all (length b - at) (drop at b) (let e = length-drop at b in omega (arith, e)) in
    ap (given_at at left) behind ∙ ap (λ (z : Option ℕ). given_at at z (drop at b)) is

-- what is answered about a slice
pub at_here :
    {A : Type 0} (Answered : Place → Scanned A → Type 0) (b : List ℕ) (at : ℕ) (left to : Option ℕ) (s : Scanned A) → left ≡ option_map (λ e. e - at) to
    → Answered (given_at at left (take (length b - at) (drop at b))) s → Answered (here b at to) s
at_here Answered b at left to s is h = subst (λ (p : Place). Answered p s) (at_slice b at left to is) h

-- the place after a value
pub after_here : (Ends : Place → Type 0) (b : List ℕ) (at size : ℕ) (to : Option ℕ) → Ends (passed (here b at to) size) → Ends (here b (at + size) to)
after_here Ends b at size to h = subst Ends (here_passed b at size to) h

-- the input ends where the bytes do
pub cut_here :
    (Fails : Fault → Type 0) (b : List ℕ) (at : ℕ) (to : Option ℕ) → at ≤ length b → Fails (fault (input_end (here b at to)) [] Truncated)
    → Fails (fault (length b) [] Truncated)
cut_here Fails b at to within h =
    let size = length-drop at b in
    let end : input_end (here b at to) ≡ length b = omega (arith, size, within) in
    subst (λ (n : ℕ). Fails (fault n [] Truncated)) end h

-- a varint has a byte at least, and what is given isn't passed
pub moved_by : (b : List ℕ) (at size n : ℕ) (to : Option ℕ) → at ≤ length b → size ≤ length (drop at b) → Reads (here b at to) n (passed (here b at to) size) → (at < at + size) × (at + size ≤ length b)
moved_by b at size n to within given reads =
    let some = ends_some reads.0 reads.1.ends in
    let moved = reads.2.at in
    let left = length-drop at b in
    (omega (arith, some, moved), omega (arith, left, given, within))

-- and so has a number
number_some : (a : Number) (s : List ℕ) → Body 0 (number_view a) s → 0 < length s
number_some (number.Varint n) s (small, v) = ends_some s v.ends
number_some (number.I64 n) s (small, is) = let e = ap length is in omega (arith, e)
number_some (number.I32 n) s (small, is) = let e = ap length is in omega (arith, e)

pub moved_by_number : (b : List ℕ) (at size : ℕ) (a : Number) (to : Option ℕ) → at ≤ length b → size ≤ length (drop at b) → Follows (here b at to) (number_view a) (passed (here b at to) size) → (at < at + size) × (at + size ≤ length b)
moved_by_number b at size a to within given follows =
    let some = number_some a follows.0 follows.1 in
    let moved = follows.2.at in
    let left = length-drop at b in
    (omega (arith, some, moved), omega (arith, left, given, within))
