-- Bytes of records, cut after the first.
use Rattle.std.proofs.Common.{◌≡◌, ℕ, ◌+◌, ◌*◌, ◌<◌, List, [], ◌∷◌, ◌++◌, length, refl, ap, sym, subst, ◌∙◌, append_assoc, append-nil, length-append, length-drop, arith, take, drop, ◌-◌, None}
use Rattle.std.proofs.lemmas.List.{take_all, take-append-drop}
use Rattle.std.specs.Prelude.{slice_index, false, ◌==◌}
use Rattle.std.proofs.lemmas.Bool.Decides.{nat_tests}
use Rattle.pb_wire.specs.Fault.{Fault, FixedFault, past_end, cut_short}
use Rattle.pb_wire.specs.Scan.{given_at, TellsFixed64}
use Rattle.pb_wire.specs.declared.scan.Scanned.TheVariants as scanned
use Rattle.pb_wire.proofs.VarintLemmas.{shortest-last}
use Rattle.std.specs.Prelude.{◌≢◌}
use Rattle.std.specs.Int.{w32, w64, to_le_bytes}
use Rattle.pb_wire.specs.Varint.{EndsOnce, shortest}
use Rattle.pb_wire.specs.Record.{Payload, varint, fixed64, len, group, fixed32, Group, Record, wire_type}
use Rattle.pb_wire.specs.Ranges.{AreBytes}
use Rattle.pb_wire.specs.Spell.{shortest_record, shortest_group, shortest_records}
use Rattle.pb_wire.proofs.ShortestLemmas.{shortest-ends}
use Rattle.pb_value.specs.Canon.{record_of}
use Rattle.pb_canonical.specs.Parts.{tagged, payload_bytes}

ends_shorter : (s rest : List ℕ) → EndsOnce s → length rest < length (s ++ rest)
ends_shorter [] rest e = absurd e
ends_shorter (x ∷ s) rest e = omega (arith, length-append (x ∷ s) rest)

pub varint_shorter : (n : ℕ) (b rest : List ℕ) → b ≡ shortest n ++ rest → length rest < length b
varint_shorter n b rest e = rw e (ends_shorter (shortest n) rest (shortest-ends n))

pub nonempty : (b : List ℕ) → (length b == 0) ≡ false → 0 < length b
nonempty b h = grind (arith, nat_tests, h)

-- a byte below 128 is a varint
pub first_byte : (b : List ℕ) (n : ℕ) → 0 < length b → n ≡ slice_index b 0 → n < 128 → b ≡ shortest n ++ take (length b - 1) (drop 1 b)
first_byte [] n h e l = absurd (omega (arith, h))
first_byte (x ∷ s) n h e l =
    let rest = take (length (x ∷ s) - 1) s in
    sym
    (ap (λ (t : List ℕ). t ++ rest) (shortest-last n l) ∙ ap (λ (t : List ℕ). n ∷ t) (take_all (length (x ∷ s) - 1) s (omega arith))
    ∙ ap (λ (y : ℕ). y ∷ s) e)

-- what was compared with the shortest varint of a number is that varint
pub taken_split : (b : List ℕ) (n size : ℕ) (s : List ℕ) {v : List ℕ} → s ≡ v → v ≡ shortest n → s ≡ take size b → b ≡ shortest n ++ take (length b - size) (drop size b)
taken_split b n size s e f g =
    let front : take size b ≡ shortest n = sym g ∙ e ∙ f in
    sym (ap (λ (l : List ℕ). l ++ take (length b - size) (drop size b)) (sym front) ∙ ap (λ (l : List ℕ). take size b ++ l) (take_all (length b - size) (drop size b) (omega (arith, length-drop size b))) ∙ take-append-drop size b)

-- eight bytes that were read
pub eight_split : (b : List ℕ) (n size : ℕ) → TellsFixed64 (given_at 0 None b) (scanned.Whole n size) → b ≡ to_le_bytes w64 n ++ take (length b - size) (drop size b)
eight_split b n size h =
    let (front, is, moves) = h.1 in
    moves.given ∙ ap (λ (l : List ℕ). l ++ drop size b) is.1
    ∙ ap (λ (l : List ℕ). to_le_bytes w64 n ++ l) (sym (take_all (length b - size) (drop size b) (omega (arith, length-drop size b))))

-- bytes that eight were not read of
pub eight_short : (b : List ℕ) (f : Fault) → FixedFault 8 (given_at 0 None b) f → length b < 8
eight_short b f (past_end h e) = absurd (h tt)
eight_short b f (cut_short w l e) = l

pub left_part : (s t : List ℕ) → AreBytes (s ++ t) → AreBytes s
left_part [] t h = tt
left_part (x ∷ s) t h = (h.0, left_part s t h.1)

right_part : (s t : List ℕ) → AreBytes (s ++ t) → AreBytes t
right_part [] t h = h
right_part (x ∷ s) t h = right_part s t h.1

-- a payload of bytes is of bytes
pub payload_range : (b s rest : List ℕ) → AreBytes b → b ≡ payload_bytes (len s) ++ rest → AreBytes s
payload_range b s rest h e = right_part (shortest (length s)) s (left_part (payload_bytes (len s)) rest (subst AreBytes e h))

-- a tag and its payload are a record
pub record_split : (n w : ℕ) (p : Payload) (b rest : List ℕ) → wire_type p ≡ w → wire_type p ≢ 3 → b ≡ payload_bytes p ++ rest → tagged n w b ≡ shortest_record n p ++ rest
record_split n w (varint v) b rest t p e = rw (sym t, e) (sym (append_assoc (shortest (8 * n + 0)) (shortest v) rest))
record_split n w (fixed64 v) b rest t p e = rw (sym t, e) (sym (append_assoc (shortest (8 * n + 1)) (to_le_bytes w64 v) rest))
record_split n w (fixed32 v) b rest t p e = rw (sym t, e) (sym (append_assoc (shortest (8 * n + 5)) (to_le_bytes w32 v) rest))
record_split n w (group g) b rest t p e = absurd (p refl)
record_split n w (len s) b rest t p e =
    rw (sym t, e)
    (ap (λ (l : List ℕ). shortest (8 * n + 2) ++ l) (append_assoc (shortest (length s)) s rest)
    ∙ sym (append_assoc (shortest (8 * n + 2)) (shortest (length s)) (s ++ rest))
    ∙ sym (append_assoc (shortest (8 * n + 2) ++ shortest (length s)) s rest))

-- a start tag, the records of the group and its end tag are a record
pub group_split : (n : ℕ) (g : Group) (b rest : List ℕ) → b ≡ shortest_group g ++ tagged n 4 rest → tagged n 3 b ≡ shortest_record n (group g) ++ rest
group_split n g b rest e =
    ap (λ (l : List ℕ). shortest (8 * n + 3) ++ l) e
    ∙ sym (append_assoc (shortest (8 * n + 3)) (shortest_group g) (tagged n 4 rest))
    ∙ sym (append_assoc (shortest (8 * n + 3) ++ shortest_group g) (shortest (8 * n + 4)) rest)

-- bytes that begin with one part and go on with another
pub joined_split : (s t b mid rest : List ℕ) → b ≡ s ++ mid → mid ≡ t ++ rest → b ≡ (s ++ t) ++ rest
joined_split s t b mid rest e f = e ∙ ap (λ (l : List ℕ). s ++ l) f ∙ sym (append_assoc s t rest)

pub one_split : (n : ℕ) (p : Payload) (b rest : List ℕ) → b ≡ shortest_record n p ++ rest → b ≡ shortest_records (record_of n p ∷ []) ++ rest
one_split n p b rest e = e ∙ ap (λ (l : List ℕ). l ++ rest) (sym (append-nil (shortest_record n p)))

pub shortest_records-append : (rs ss : List Record) → shortest_records (rs ++ ss) ≡ shortest_records rs ++ shortest_records ss
shortest_records-append [] ss = refl
shortest_records-append (r ∷ rs) ss =
    ap (λ (l : List ℕ). shortest_record r.number r.payload ++ l) (shortest_records-append rs ss)
    ∙ sym (append_assoc (shortest_record r.number r.payload) (shortest_records rs) (shortest_records ss))

-- what follows a record is shorter
tag_shorter : (n w : ℕ) (s rest b : List ℕ) → b ≡ (shortest (8 * n + w) ++ s) ++ rest → length rest < length b
tag_shorter n w s rest b e =
    let tail = varint_shorter (8 * n + w) b (s ++ rest) (e ∙ append_assoc (shortest (8 * n + w)) s rest) in omega (arith, tail, length-append s rest)

pub record_shorter : (n : ℕ) (p : Payload) (b rest : List ℕ) → b ≡ shortest_record n p ++ rest → length rest < length b
record_shorter n (varint v) b rest e = tag_shorter n 0 (shortest v) rest b e
record_shorter n (fixed64 v) b rest e = tag_shorter n 1 (to_le_bytes w64 v) rest b e
record_shorter n (fixed32 v) b rest e = tag_shorter n 5 (to_le_bytes w32 v) rest b e
record_shorter n (len s) b rest e =
    tag_shorter n 2 (shortest (length s) ++ s) rest b (e ∙ ap (λ (l : List ℕ). l ++ rest) (append_assoc (shortest (8 * n + 2)) (shortest (length s)) s))
record_shorter n (group g) b rest e =
    tag_shorter n 3 (shortest_group g ++ shortest (8 * n + 4)) rest b
    (e ∙ ap (λ (l : List ℕ). l ++ rest) (append_assoc (shortest (8 * n + 3)) (shortest_group g) (shortest (8 * n + 4))))

pub records_shorter : (n : ℕ) (p : Payload) (rs : List Record) (b rest : List ℕ) → b ≡ shortest_records (record_of n p ∷ rs) ++ rest → length rest < length b
records_shorter n p rs b rest e =
    let tail = record_shorter n p b (shortest_records rs ++ rest) (e ∙ append_assoc (shortest_record n p) (shortest_records rs) rest) in
    omega (arith, tail, length-append (shortest_records rs) rest)

pub payload_shorter : (p : Payload) (b rest : List ℕ) → wire_type p ≢ 3 → b ≡ payload_bytes p ++ rest → length rest < length b
payload_shorter (varint n) b rest w e = varint_shorter n b rest e
payload_shorter (fixed64 n) b rest w e = rw e (omega (arith, length-append (to_le_bytes w64 n) rest))
payload_shorter (fixed32 n) b rest w e = rw e (omega (arith, length-append (to_le_bytes w32 n) rest))
payload_shorter (group g) b rest w e = absurd (w refl)
payload_shorter (len s) b rest w e =
    let tail = varint_shorter (length s) b (s ++ rest) (e ∙ append_assoc (shortest (length s)) s rest) in omega (arith, tail, length-append s rest)
