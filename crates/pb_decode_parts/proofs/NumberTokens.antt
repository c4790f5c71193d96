-- What pb_wire says of a number.
use Rattle.std.proofs.Common.{ℕ, ◌<◌, ◌-◌, ◌++◌, sym, ◌∙◌, arith, ◌≡◌, ◌≤◌, List, length, take, drop, ap, append_assoc, Some, None}
use Rattle.std.proofs.lemmas.List.{take-append-drop, drop-append-le, length-take}
use Rattle.pb_wire.specs.Record.{Payload}
use Rattle.pb_wire.specs.Fault.{Place, Reads as ReadsNumber}
use Rattle.pb_wire.specs.Scan.{TellsNumber as Tells, Follows, number_view, given_at, passed}
use Rattle.pb_wire.specs.declared.scan.Number.TheVariants as number
use Rattle.pb_wire.specs.declared.scan.Scanned.{Scanned}
use Rattle.pb_wire.specs.declared.scan.Scanned.TheVariants as scanned
use Rattle.pb_decode_parts.specs.Tokens.Numbers.{TellsNumber}
use Rattle.pb_wire.proofs.Tokens.{ends_some}
use Rattle.pb_wire.specs.Spell.{Body}
use Rattle.pb_wire.specs.declared.scan.Number.{Number}

-- in the order in which a number's readers take it
pub told_number : (w : ℕ) (p : Place) (s : Scanned Number) → Tells w p s → TellsNumber w p s
told_number w p (scanned.Whole a size) h = (h.1.0, h.0, h.1.1)
told_number w p scanned.Short h = h
told_number w p (scanned.Fault c) h = h

-- a number takes a byte at least
pub number_size : {p : Place} {n size : ℕ} → ReadsNumber p n (passed p size) → 0 < size
number_size h = let some = ends_some h.0 h.1.ends in let at = h.2.at in omega (arith, some, at)

-- a number has a byte at least
pub number_some : (a : Number) (s : List ℕ) → Body 0 (number_view a) s → 0 < length s
number_some (number.Varint n) s (small, v) = ends_some s v.ends
number_some (number.I64 n) s (small, is) = let e = ap length is in omega (arith, e)
number_some (number.I32 n) s (small, is) = let e = ap length is in omega (arith, e)

pub size_some : (a : Number) (p : Place) (size : ℕ) → Follows p (number_view a) (passed p size) → 0 < size
size_some a p size (front, spelled, moves) = let some = number_some a front spelled in let at = moves.at in omega (arith, some, at)

-- a number that is complete in a prefix of some bytes is complete in these
pub follows_on :
    (x : Payload) (at size used : ℕ) (bytes rest : List ℕ) → rest ≡ take size bytes → used ≤ length rest → Follows (given_at at None rest) x (passed (given_at at None rest) used)
    → Follows (given_at at (Some size) bytes) x (passed (given_at at (Some size) bytes) used)
follows_on x at size used bytes rest is within (front, spelled, moves) = (front, spelled, record { given = given; within = omega (arith, moves.at, within, short); at = moves.at; known = known })
  where
    whole : rest ++ drop size bytes ≡ bytes
    whole = ap (λ (z : List ℕ). z ++ drop size bytes) is ∙ take-append-drop size bytes

    after : drop used rest ++ drop size bytes ≡ drop used bytes
    after = sym (drop-append-le used rest (drop size bytes) within) ∙ ap (drop used) whole

    given : bytes ≡ front ++ drop used bytes
    given =
        sym whole ∙ ap (λ (z : List ℕ). z ++ drop size bytes) moves.given ∙ append_assoc front (drop used rest) (drop size bytes)
        ∙ ap (λ (z : List ℕ). front ++ z) after

    short : length rest ≤ size
    short = let all = ap length is ∙ length-take size bytes in omega (arith, all)

    known : Some (size - used) ≡ Some (size - length front)
    known = let same : size - used ≡ size - length front = omega (arith, moves.at) in ap (λ (z : ℕ). Some z) same
