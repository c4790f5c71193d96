-- A piece is taken part by part.
use Rattle.std.proofs.Common.{◌≡◌, ℕ, zero, suc, ◌+◌, ◌-◌, List, [], ◌∷◌, ◌++◌, take, drop, length, sym, ap, ◌∙◌, subst, arith, append_assoc}
use Rattle.std.proofs.lemmas.List.{take-append-drop, take_all}
use Rattle.std.proofs.Math.Seq.{take-add}
use Rattle.pb_wire.specs.Record.{Record}
use Rattle.pb_wire.specs.Ranges.{AreBytes}
use Rattle.pb_wire.specs.Fault.{Fault, Place}
use Rattle.pb_wire.specs.Exact.{longer}
use Rattle.pb_wire.proofs.Longer.{bad_longer}
use Rattle.pb_schema.specs.Types.{Types}
use Rattle.pb_decode.specs.Reader.{State, Reads, Reported}
use Rattle.pb_decode.proofs.PushLemmas.{reads_more, no_bytes}
use Rattle.pb_decode_parts.proofs.PlaceLemmas.{slice_from}

-- a fault that is settled is that of every longer input
pub reported_longer : {pool : Types} {m depth : ℕ} {p : Place} (more : List ℕ) (f : Fault) → Reported pool m depth p f → Reported pool m depth (longer p more) f
reported_longer more f h = record { bad = bad_longer more h.bad h.settled; settled = h.settled }

-- WHAT IS GIVEN part by part
both_given : (p : Place) (a b c : List ℕ) → a ++ b ≡ c → longer (longer p a) b ≡ longer p c
both_given p a b c is = ap (λ (z : List ℕ). record p { rest = z }) (append_assoc p.rest a b ∙ ap (λ (z : List ℕ). p.rest ++ z) is)

slice_next : (here more : ℕ) (l : List ℕ) → take here l ++ take ((here + more) - here) (drop here l) ≡ take (here + more) l
slice_next here more l = let same : (here + more) - here ≡ more = omega arith in ap (λ (n : ℕ). take here l ++ take n (drop here l)) same ∙ sym (take-add here more l)

slice_last : (here : ℕ) (l : List ℕ) → take here l ++ take (length l - here) (drop here l) ≡ l
slice_last here l = ap (λ (z : List ℕ). take here l ++ z) (slice_from here l) ∙ take-append-drop here l

pub next_given : (p : Place) (here more : ℕ) (l : List ℕ) → longer (longer p (take here l)) (take ((here + more) - here) (drop here l)) ≡ longer p (take (here + more) l)
next_given p here more l = both_given p (take here l) (take ((here + more) - here) (drop here l)) (take (here + more) l) (slice_next here more l)

pub last_given : (p : Place) (here : ℕ) (l : List ℕ) → longer (longer p (take here l)) (take (length l - here) (drop here l)) ≡ longer p l
last_given p here l = both_given p (take here l) (take (length l - here) (drop here l)) l (slice_last here l)

pub all_given : (p : Place) (here : ℕ) (l : List ℕ) → here ≡ length l → longer p (take here l) ≡ longer p l
all_given p here l is = ap (λ (z : List ℕ). record p { rest = p.rest ++ z }) (take_all here l (omega (arith, is)))

-- THE REST OF A PIECE, with nothing held
pub reads_rest :
    {pool : Types} {m depth levels : ℕ} {base : List Record} {p : Place} (s : State) (held rest : List ℕ) → length held ≡ 0 → AreBytes rest
    → Reads pool m depth levels base p s held → Reads pool m depth levels base (longer p rest) s rest
reads_rest {pool} {m} {depth} {levels} {base} {p} s held rest none bytes h =
    subst (λ (z : List ℕ). Reads pool m depth levels base (longer p rest) s (z ++ rest)) (no_bytes held none) (reads_more s held rest bytes h)

-- the bytes of a part of a piece
pub part_bytes : (n m : ℕ) (l : List ℕ) → AreBytes l → AreBytes (take n (drop m l))
part_bytes n m l h = first n (drop m l) (others m l h)
  where
    others : (m : ℕ) (l : List ℕ) → AreBytes l → AreBytes (drop m l)
    others zero l h = h
    others (suc m) [] h = h
    others (suc m) (x ∷ l) h = others m l h.1

    first : (n : ℕ) (l : List ℕ) → AreBytes l → AreBytes (take n l)
    first zero l h = tt
    first (suc n) [] h = tt
    first (suc n) (x ∷ l) h = (h.0, first n l h.1)

-- what is reported of a part is reported of the whole piece
pub reported_on :
    {pool : Types} {m depth : ℕ} (p : Place) (here more : ℕ) (l : List ℕ) (f : Fault) → Reported pool m depth (longer (longer p (take here l)) (take ((here + more) - here) (drop here l))) f
    → Reported pool m depth (longer p l) f
reported_on {pool} {m} {depth} p here more l f h =
    subst (λ (z : Place). Reported pool m depth z f) (both_given p (take (here + more) l) (drop (here + more) l) l (take-append-drop (here + more) l))
    (reported_longer (drop (here + more) l) f (subst (λ (z : Place). Reported pool m depth z f) (next_given p here more l) h))
