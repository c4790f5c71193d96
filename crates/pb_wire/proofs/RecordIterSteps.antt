-- What each call of an iterator over records gives is the first of what is left.
use Rattle.std.proofs.Common.{◌≡◌, ℕ, ◌<◌, List, [], ◌∷◌, ◌++◌, length, drop, refl, sym, ap, ◌∙◌, arith, append_assoc, length-drop, Bool, true, false, Ok, Err}
use Rattle.std.specs.Prelude.{if◌then◌else◌}
use Rattle.std.proofs.Math.Seq.{drop-length}
use Rattle.std.proofs.lemmas.List.{append_cancel_left}
use Rattle.pb_wire.specs.Record.{Record, group_of}
use Rattle.pb_wire.specs.Spell.{AreRecords}
use Rattle.pb_wire.specs.Fault.{Fault, fault, Place, place, Moves}
use Rattle.pb_wire.specs.Schema.{blank, records}
use Rattle.pb_wire.specs.Sound.{AllSound, one}
use Rattle.pb_wire.specs.Grammar.{RecordFault, beyond}
use Rattle.pb_wire.specs.Ranges.{IsNumber}
use Rattle.pb_wire.specs.declared.fault.PathStep.{PathStep}
use Rattle.pb_wire.specs.declared.fault.Cause.{Cause}
use Rattle.pb_wire.specs.declared.fault.Cause.TheVariants.{Truncated}
use Rattle.pb_wire.specs.Rest.{Rest}
use Rattle.pb_wire.specs.RecordIter.{Seen, varint, fixed64, len, group, fixed32, Item, Shows, AreShown, ShowsRecord, Passes, Gives, to_end, to_fault, all_ok, without_path, too_large}
use Rattle.pb_wire.proofs.Places.{moves_split, moved_nothing, moves_nothing, same_place_by, fewer}
use Rattle.pb_wire.proofs.Unique.{same_varint, same_spelling}
use Rattle.pb_wire.proofs.Fronts.{RecordAt, record_some}
use Rattle.pb_wire.proofs.Behind.{behind}
use Rattle.pb_wire.proofs.OneFault.{bad_not_record, one_record_fault}

-- ---- a record is shown in one way

-- what comes before the end tag
same_inside :
    (rs us : List Record) (s t e f : List ℕ) → group_of rs ≡ group_of us → AreRecords rs s → AreRecords us t → s ++ e ≡ t ++ f → s ≡ t
same_inside [] [] s t e f g h k is = h ∙ sym k
same_inside [] (u ∷ us) s t e f g h k is = absurd (cc)
same_inside (r ∷ rs) [] s t e f g h k is = absurd (cc)
same_inside (r ∷ rs) (u ∷ us) s t e f g h k is =
    let both : h.0 ++ (h.1 ++ e) ≡ k.0 ++ (k.1 ++ f) =
    sym (append_assoc h.0 h.1 e) ∙ ap (λ (z : List ℕ). z ++ e) (sym h.4) ∙ is ∙ ap (λ (z : List ℕ). z ++ f) k.4 ∙ append_assoc k.0 k.1 f in
    let first : h.0 ≡ k.0 = (same_spelling r u h.0 k.0 (h.1 ++ e) (k.1 ++ f) h.2 k.2 both).1 in
    let rest : h.1 ++ e ≡ k.1 ++ f =
    append_cancel_left k.0 (h.1 ++ e) (k.1 ++ f) (ap (λ (z : List ℕ). z ++ (h.1 ++ e)) (sym first) ∙ both) in
    let groups : group_of rs ≡ group_of us = cc in
    h.4 ∙ ap (λ (z : List ℕ). z ++ h.1) first ∙ ap (λ (z : List ℕ). k.0 ++ z) (same_inside rs us h.1 k.1 e f groups h.3 k.3 rest) ∙ sym k.4

same_seen : (x y : Seen) (r : Record) (b : List ℕ) → Shows x r b → Shows y r b → x ≡ y
same_seen (varint m) (varint n) r b s t = let e : m ≡ n = cc in ap varint e
same_seen (fixed64 m) (fixed64 n) r b s t = let e : m ≡ n = cc in ap fixed64 e
same_seen (len m) (len n) r b s t = let e : m ≡ n = cc in ap len e
same_seen (fixed32 m) (fixed32 n) r b s t = let e : m ≡ n = cc in ap fixed32 e
same_seen (group m) (group n) r b s t =
    let both : s.3.start ++ (m ++ s.3.end) ≡ t.3.start ++ (n ++ t.3.end) = sym s.3.joined ∙ t.3.joined in
    let rest = (same_varint s.3.start t.3.start (m ++ s.3.end) (n ++ t.3.end) s.3.starts t.3.starts both).2 in
    let p = s.1 in let q = t.1 in
    let groups : group_of s.0 ≡ group_of t.0 = cc in
    ap group (same_inside s.0 t.0 m n s.3.end t.3.end groups s.2 t.2 rest)
same_seen (varint m) (fixed64 n) r b s t = absurd (cc)
same_seen (varint m) (len n) r b s t = absurd (cc)
same_seen (varint m) (group n) r b s t = let q = t.1 in absurd (cc)
same_seen (varint m) (fixed32 n) r b s t = absurd (cc)
same_seen (fixed64 m) (varint n) r b s t = absurd (cc)
same_seen (fixed64 m) (len n) r b s t = absurd (cc)
same_seen (fixed64 m) (group n) r b s t = let q = t.1 in absurd (cc)
same_seen (fixed64 m) (fixed32 n) r b s t = absurd (cc)
same_seen (len m) (varint n) r b s t = absurd (cc)
same_seen (len m) (fixed64 n) r b s t = absurd (cc)
same_seen (len m) (group n) r b s t = let q = t.1 in absurd (cc)
same_seen (len m) (fixed32 n) r b s t = absurd (cc)
same_seen (group m) (varint n) r b s t = let p = s.1 in absurd (cc)
same_seen (group m) (fixed64 n) r b s t = let p = s.1 in absurd (cc)
same_seen (group m) (len n) r b s t = let p = s.1 in absurd (cc)
same_seen (group m) (fixed32 n) r b s t = let p = s.1 in absurd (cc)
same_seen (fixed32 m) (varint n) r b s t = absurd (cc)
same_seen (fixed32 m) (fixed64 n) r b s t = absurd (cc)
same_seen (fixed32 m) (len n) r b s t = absurd (cc)
same_seen (fixed32 m) (group n) r b s t = let q = t.1 in absurd (cc)

pub same_shown : {depth : ℕ} {p q r : Place} {x y : ℕ × Seen} → ShowsRecord depth p x q → ShowsRecord depth p y r → (x ≡ y) × (q ≡ r)
same_shown {depth} {p} {q} {r} {x} {y} h g =
    let one = same_spelling h.it g.it h.front g.front q.rest r.rest h.shown.spelled g.shown.spelled (sym h.moves.given ∙ g.moves.given) in
    let theirs : Shows x.1 g.it g.front = rw (one.0, one.1) at h.shown.payload in
    let number : x.0 ≡ y.0 = h.shown.number ∙ ap (λ (z : Record). z.number) one.0 ∙ sym g.shown.number in
    let payload : x.1 ≡ y.1 = same_seen x.1 y.1 g.it g.front theirs g.shown.payload in (
      ap (λ (z : ℕ). let w : ℕ × Seen = (z, x.1) in w) number ∙ ap (λ (z : Seen). let w : ℕ × Seen = (y.0, z) in w) payload,
      same_place_by h.front g.front one.1 h.moves g.moves,
    )

-- ---- records that lead on

abbrev record_at : {depth : ℕ} {p q : Place} {x : ℕ × Seen} → ShowsRecord depth p x q → RecordAt blank tt depth p
record_at {depth} {p} {q} h = (h.it, h.front, q, h.shown.spelled, h.sound, h.moves)

-- no records lead on, or one record and then the others
data Parts (depth : ℕ) (p : Place) (xs : List (ℕ × Seen)) (q : Place) : Type 0 where
  no_more : xs ≡ [] → p ≡ q → Parts depth p xs q
  more :
      {x : ℕ × Seen} {others : List (ℕ × Seen)} {mid : Place} → xs ≡ x ∷ others → ShowsRecord depth p x mid → Passes depth mid others q
      → Parts depth p xs q

parts : {depth : ℕ} {p q : Place} (xs : List (ℕ × Seen)) → Passes depth p xs q → Parts depth p xs q
parts {depth} {p} {q} xs h = go h.rs xs h.front h.shown h.sound h.moves
  where
    go : (rs : List Record) (xs : List (ℕ × Seen)) (front : List ℕ) → AreShown rs xs front → AllSound blank tt depth rs → Moves p front q → Parts depth p xs q
    go [] [] front shown sound m = no_more refl (moved_nothing (rw shown at m))
    go [] (x ∷ xs) front shown sound m = absurd shown
    go (r ∷ rs) [] front shown sound m = absurd shown
    go (r ∷ rs) (x ∷ xs) front shown (one s others) m =
        let split = moves_split {p = p} {r = q} shown.0 shown.1 (rw shown.4 at m) in
        more refl
        (record { it = r; front = shown.0; shown = shown.2; sound = s; moves = split.1 })
        (record { rs = rs; front = shown.1; shown = shown.3; sound = others; moves = split.2 })

-- nothing is at p
ends_here : {depth : ℕ} {p q : Place} (xs : List (ℕ × Seen)) → p.rest ≡ [] → Passes depth p xs q → (xs ≡ []) × (p ≡ q)
ends_here {depth} {p} {q} xs none h = judge (parts xs h)
  where
    judge : Parts depth p xs q → (xs ≡ []) × (p ≡ q)
    judge (no_more e same) = (e, same)
    judge (more {mid = mid} e first others) =
        let size = fewer first.front first.moves in let n : length p.rest ≡ 0 = ap length none in let some = record_some (record_at first) in
        absurd (omega (arith, size, n, some))

-- a fault is at p
fails_here : {before : List Record} {depth : ℕ} {p q : Place} {f : Fault} (xs : List (ℕ × Seen)) → RecordFault blank (records tt) before depth p f → Passes depth p xs q → (xs ≡ []) × (p ≡ q)
fails_here {depth} {p} {q} xs bad h = judge (parts xs h)
  where
    judge : Parts depth p xs q → (xs ≡ []) × (p ≡ q)
    judge (no_more e same) = (e, same)
    judge (more e first others) = absurd (bad_not_record bad (record_at first))

pub shown_number : {depth : ℕ} {p q : Place} {x : ℕ × Seen} → ShowsRecord depth p x q → IsNumber x.0
shown_number h = rw h.shown.number h.shown.spelled.number

-- ---- the four answers

abbrev pub rest_of : List ℕ → Bool → ℕ → ℕ → Rest
rest_of text is_cut at depth = record { text = text; is_cut = is_cut; at = at; depth = depth }

nothing_at_end : (text : List ℕ) (at : ℕ) → at ≡ length text → drop at text ≡ []
nothing_at_end text at e = rw e (drop-length text)

passes_nothing : (depth : ℕ) (p : Place) → Passes depth p [] p
passes_nothing depth p = record { rs = []; front = []; shown = refl; sound = AllSound.none; moves = moves_nothing p }

pub gives_nothing : (text : List ℕ) (at depth : ℕ) → at ≡ length text → Gives (rest_of text false at depth) []
gives_nothing text at depth e = to_end (passes_nothing depth (place text at)) (nothing_at_end text at e) refl

-- the end
pub none_left :
    (text : List ℕ) (at depth : ℕ) (items : List Item) → at ≡ length text → Gives (rest_of text false at depth) items
    → (items ≡ []) × Gives (rest_of text false at depth) []
none_left text at depth items e (to_end {xs = xs} h over is) =
    let none = ends_here xs (nothing_at_end text at e) h in
    (is ∙ ap (λ (z : List (ℕ × Seen)). all_ok z ++ []) none.0, gives_nothing text at depth e)
none_left text at depth items e (to_fault {xs = xs} h goes bad is) =
    let none = ends_here xs (nothing_at_end text at e) h in
    absurd (goes (sym (ap (λ (z : Place). z.rest) none.1) ∙ nothing_at_end text at e))

-- the limit
pub limit_left :
    (text : List ℕ) (at depth : ℕ) (items : List Item) → at ≡ length text → Gives (rest_of text true at depth) items
    → (others : List Item) × (items ≡ Err (without_path (too_large (rest_of text true at depth))) ∷ others) × Gives (rest_of text false at depth) others
limit_left text at depth items e (to_end {xs = xs} h over is) =
    let none = ends_here xs (nothing_at_end text at e) h in
    ([], is ∙ ap (λ (z : List (ℕ × Seen)). all_ok z ++ Err (without_path (too_large (rest_of text true at depth))) ∷ []) none.0, gives_nothing text at depth e)
limit_left text at depth items e (to_fault {xs = xs} h goes bad is) =
    let none = ends_here xs (nothing_at_end text at e) h in
    absurd (goes (sym (ap (λ (z : Place). z.rest) none.1) ∙ nothing_at_end text at e))

-- a record
pub record_left :
    (text : List ℕ) (is_cut : Bool) (at after depth : ℕ) (x : ℕ × Seen) (items : List Item)
    → ShowsRecord depth (place text at) x (place text after) → Gives (rest_of text is_cut at depth) items
    → (others : List Item) × (items ≡ Ok x ∷ others) × Gives (rest_of text is_cut after depth) others
record_left text is_cut at after depth x items shown (to_end {xs = xs} {q = q} h over is) = judge (parts xs h)
  where
    judge : Parts depth (place text at) xs q → (others : List Item) × (items ≡ Ok x ∷ others) × Gives (rest_of text is_cut after depth) others
    judge (no_more e same) =
        let none : drop at text ≡ [] = ap (λ (z : Place). z.rest) same ∙ over in
        let size = fewer shown.front shown.moves in let n : length (drop at text) ≡ 0 = ap length none in let some = record_some (record_at shown) in
        absurd (omega (arith, size, n, some))
    judge (more {x = y} {others = ys} {mid = mid} e first others) =
        let same = same_shown shown first in (
          all_ok ys ++ (if is_cut then Err (without_path (too_large (rest_of text is_cut at depth))) ∷ [] else []),
          rw (e, ← same.0) at is,
          to_end (rw (← same.1) at others) over refl,
        )
record_left text is_cut at after depth x items shown (to_fault {xs = xs} {q = q} {f = f} h goes bad is) = judge (parts xs h)
  where
    judge : Parts depth (place text at) xs q → (others : List Item) × (items ≡ Ok x ∷ others) × Gives (rest_of text is_cut after depth) others
    judge (no_more e same) = absurd (bad_not_record (rw (← same) at bad) (record_at shown))
    judge (more {x = y} {others = ys} {mid = mid} e first others) =
        let same = same_shown shown first in (
          all_ok ys ++ Err (without_path (if is_cut then beyond (length text) f else f)) ∷ [],
          rw (e, ← same.0) at is,
          to_fault (rw (← same.1) at others) goes bad refl,
        )

-- what is reported of a fault has no path
told_alike :
    (is_cut : Bool) (end byte : ℕ) (c : Cause) (a b : List PathStep)
    → without_path (if is_cut then beyond end (fault byte a c) else fault byte a c) ≡ without_path (if is_cut then beyond end (fault byte b c) else fault byte b c)
told_alike false end byte c a b = refl
told_alike true end byte Truncated a b = refl
told_alike true end byte _ a b = refl

-- a fault
pub fault_left :
    (text : List ℕ) (is_cut : Bool) (at depth : ℕ) (f : Fault) (items : List Item) → at < length text
    → RecordFault blank (records tt) [] depth (place text at) f → Gives (rest_of text is_cut at depth) items
    → (others : List Item) × (items ≡ Err (without_path (if is_cut then beyond (length text) f else f)) ∷ others)
    × Gives (rest_of text false (length text) depth) others
fault_left text is_cut at depth f items within bad (to_end {xs = xs} h over is) =
    let none = fails_here xs bad h in
    let n : length (drop at text) ≡ 0 = ap length (ap (λ (z : Place). z.rest) none.1 ∙ over) in
    absurd (omega (arith, n, length-drop at text))
fault_left text is_cut at depth f items within bad (to_fault {xs = xs} {f = g} {before = before} h goes other is) =
    let none = fails_here xs bad h in
    let told = behind before bad in
    let same : g ≡ fault f.byte told.0 f.cause = one_record_fault (rw (← none.1) at other) told.1 in
    ([], rw (none.0, same, told_alike is_cut (length text) f.byte f.cause told.0 f.path) at is, gives_nothing text (length text) depth refl)
