-- Places after bytes of an input with no known end, and the record that begins them.
use Rattle.std.proofs.Common.{◌≡◌, ◌≢◌, ℕ, zero, suc, ◌+◌, ◌-◌, ◌*◌, ◌/◌, ◌%◌, ◌^◌, ◌<◌, ◌≤◌, List, [], ◌∷◌, ◌++◌, length, take, drop, filter, refl, sym}
use Rattle.std.proofs.Common.{ap, subst, ◌∙◌, arith, Bool, true, false, ◌==◌, None, Some}
use Rattle.std.proofs.Common.{inl, inr, ◌⊎◌, ⊎_elim, nat_eq, eqb-true, length-append, length-drop, append_assoc, Ok, Err}
use Rattle.std.specs.Prelude.{if◌then◌else◌}
use Rattle.std.proofs.lemmas.List.{drop_at, drop-drop, length-take, take-append-drop}
use Rattle.std.proofs.lemmas.Bool.{cases_lt}
use Rattle.std.proofs.lemmas.List.Elements.{filter-append}
use Rattle.pb_wire.specs.Record.{Payload, Record, wire_type}
use Rattle.pb_wire.specs.Spell.{Body}
use Rattle.pb_wire.specs.Fault.{Fault, Place, Moves, Reads, HasTag, VarintFault, place, step}
use Rattle.pb_wire.specs.Exact.{Exactly, IsSomeText}
use Rattle.pb_wire.specs.Grammar.{HasFault, IsText}
use Rattle.pb_wire.specs.Limits.{full}
use Rattle.pb_wire.specs.Reading.{Front}
use Rattle.pb_wire.specs.Rest.{Rest}
use Rattle.pb_wire.specs.RecordIter.{Seen, varint, fixed64, len, group, fixed32, Item, AreShown}
use Rattle.pb_wire.specs.RecordIter.{ShowsFront, ShowsRecord, Passes, Gives, to_end, to_fault, all_ok, without_path, too_large}
use Rattle.pb_wire.specs.Schema.{blank}
use Rattle.pb_wire.specs.Sound.{AllSound, one}
use Rattle.pb_wire.specs.Scan.{TellsVarint, given_at, passed}
use Rattle.pb_wire.specs.declared.fault.Cause.{Cause}
use Rattle.pb_wire.specs.declared.fault.PathStep.{PathStep}
use Rattle.pb_wire.specs.declared.fault.WireFault.{WireFault}
use Rattle.pb_wire.specs.declared.scan.Scanned.{Scanned}
use Rattle.pb_wire.specs.declared.scan.Scanned.TheVariants as scanned
use Rattle.pb_wire.proofs.Fronts.{RecordAt, record_some}
use Rattle.pb_wire.proofs.OneFault.{bad_not_record}
use Rattle.pb_wire.proofs.Places.{fewer, moved_nothing, moves_split, same_parts}
use Rattle.pb_wire.proofs.ReadingLemmas.{AllSound-push, AreRecords-push, moves_both}
use Rattle.pb_wire.proofs.Unique.{wire_type_known}
use Rattle.pb_wire.proofs.Tokens.{one_reads, ends_some, varint_not_both}
use Rattle.pbtool_explain.specs.Records.{IsFound, IsStepAt, IsValueAt, IsWholeAt, here}
use Rattle.pbtool_explain.specs.Turns.{IsReached, ShowsValue}
use Rattle.pbtool_explain.specs.declared.find.Found.{Found}

-- ---- places

pub moved_passed : (at : ℕ) (rest front : List ℕ) (q : Place) → Moves (given_at at None rest) front q → q ≡ passed (given_at at None rest) (length front)
moved_passed at rest front q m =
    same_parts q (passed (given_at at None rest) (length front)) m.at m.known
    (sym (drop_at front q.rest (length front) refl) ∙ ap (drop (length front)) (sym m.given))

pub passed_twice : (at m n : ℕ) (rest : List ℕ) → passed (passed (given_at at None rest) m) n ≡ passed (given_at at None rest) (m + n)
passed_twice at m n rest = same_parts _ _ (omega arith) refl (drop-drop n m rest)

pub join_passed :
    (at a b total : ℕ) (rest : List ℕ) (q : Place) → q ≡ passed (passed (given_at at None rest) a) b → total ≡ a + b
    → q ≡ passed (given_at at None rest) total
join_passed at a b total rest q e t = e ∙ passed_twice at a b rest ∙ ap (λ (n : ℕ). passed (given_at at None rest) n) (sym t)

pub moves_within : (at : ℕ) (rest front : List ℕ) (q : Place) → Moves (given_at at None rest) front q → length front ≤ length rest
moves_within at rest front q m = let size : length rest ≡ length front + length q.rest = fewer front m in omega (arith, size)

pub reads_within : (at size n : ℕ) (rest : List ℕ) → Reads (given_at at None rest) n (passed (given_at at None rest) size) → size ≤ length rest
reads_within at size n rest r = let within = moves_within at rest r.0 _ r.2 in let e : at + size ≡ at + length r.0 = r.2.at in omega (arith, within, e)

-- a varint takes some bytes
pub reads_some : (at size n : ℕ) (rest : List ℕ) → Reads (given_at at None rest) n (passed (given_at at None rest) size) → 0 < size
reads_some at size n rest r = let some = ends_some r.0 r.1.ends in let e : at + size ≡ at + length r.0 = r.2.at in omega (arith, some, e)

-- where a varint fails, none is read
pub no_varint :
    (at n size : ℕ) (q : Place) (rest : List ℕ) → (f : Fault) × VarintFault (given_at at None rest) f → Reads (given_at at None rest) n q
    → q ≡ passed (given_at at None rest) size
no_varint at n size q rest bad r = absurd (varint_not_both bad.1 r)

pub not_scanned : (p : Place) (t : Scanned ℕ) → (t ≡ scanned.Short) ⊎ ((x : Cause) × (t ≡ scanned.Fault x)) → TellsVarint p t → (f : Fault) × VarintFault p f
not_scanned p scanned.Short e h = (_, h)
not_scanned p (scanned.Fault c) e h = (_, h.1)
not_scanned p (scanned.Whole n s) (inl e) h = absurd (cc)
not_scanned p (scanned.Whole n s) (inr e) h = let same = e.1 in absurd (cc)

-- the parts of the tag that is read
pub tag_read :
    (at size tag k w : ℕ) (q : Place) (rest : List ℕ) → Reads (given_at at None rest) tag (passed (given_at at None rest) size)
    → HasTag (given_at at None rest) k w q → (0 < k) × (k < 2 ^ 29) × (tag / 8 ≡ k) × (tag % 8 ≡ w) × (w < 6)
tag_read at size tag k w q rest reads has =
    let same : tag ≡ 8 * k + w = (one_reads reads has.tag).0 in let type = has.type in
    (has.number.0, has.number.1, omega arith, omega arith, type)

pub tag_of :
    {k tag : ℕ} {p q : Place} → 0 < k → k < 2 ^ 29 → tag / 8 ≡ k → tag % 8 < 6 → Reads p tag q → HasTag p k (tag % 8) q
tag_of {k} {tag} some small number type reads =
    let e : 8 * k + tag % 8 ≡ tag = omega arith in record { tag = rw e reads; number = (some, small); type = type }

-- ---- the first record

-- a record that is shown, as its tag and its value
pub value_shown : {depth k : ℕ} {p q : Place} (x : Seen) → ShowsRecord depth p (k, x) q → (mid : Place) × (tag : ℕ) × Reads p tag mid × ShowsValue mid x q
value_shown {depth} {k} {p} {q} (group s) h =
    let around = h.shown.payload.3 in
    let parts = moves_split {p = p} {r = q} around.start (s ++ around.end) (subst (λ (z : List ℕ). Moves p z q) around.joined h.moves) in
    let inside = moves_split {p = parts.0} {r = q} s around.end parts.2 in
    (parts.0, 8 * h.it.number + 3, (around.start, around.starts, parts.1), (inside.0, 8 * h.it.number + 4, inside.1, (around.end, around.ends, inside.2)))
value_shown {depth} {k} {p} {q} (varint n) h =
    let parts = moves_split {p = p} {r = q} h.shown.spelled.tag h.shown.spelled.body (subst (λ (z : List ℕ). Moves p z q) h.shown.spelled.joined h.moves) in
    let body = subst (λ (z : Payload). Body h.it.number z h.shown.spelled.body) h.shown.payload h.shown.spelled.follows in
    (parts.0, _, (h.shown.spelled.tag, h.shown.spelled.tagged, parts.1), (h.shown.spelled.body, body.1, parts.2))
value_shown {depth} {k} {p} {q} (fixed64 n) h =
    let parts = moves_split {p = p} {r = q} h.shown.spelled.tag h.shown.spelled.body (subst (λ (z : List ℕ). Moves p z q) h.shown.spelled.joined h.moves) in
    let body = subst (λ (z : Payload). Body h.it.number z h.shown.spelled.body) h.shown.payload h.shown.spelled.follows in
    (parts.0, _, (h.shown.spelled.tag, h.shown.spelled.tagged, parts.1), (h.shown.spelled.body, ap length body.1, parts.2))
value_shown {depth} {k} {p} {q} (fixed32 n) h =
    let parts = moves_split {p = p} {r = q} h.shown.spelled.tag h.shown.spelled.body (subst (λ (z : List ℕ). Moves p z q) h.shown.spelled.joined h.moves) in
    let body = subst (λ (z : Payload). Body h.it.number z h.shown.spelled.body) h.shown.payload h.shown.spelled.follows in
    (parts.0, _, (h.shown.spelled.tag, h.shown.spelled.tagged, parts.1), (h.shown.spelled.body, ap length body.1, parts.2))
value_shown {depth} {k} {p} {q} (len s) h =
    let parts = moves_split {p = p} {r = q} h.shown.spelled.tag h.shown.spelled.body (subst (λ (z : List ℕ). Moves p z q) h.shown.spelled.joined h.moves) in
    let body = subst (λ (z : Payload). Body h.it.number z h.shown.spelled.body) h.shown.payload h.shown.spelled.follows in
    let value = moves_split {p = parts.0} {r = q} body.1 s (subst (λ (z : List ℕ). Moves parts.0 z q) body.3 parts.2) in
    (parts.0, _, (h.shown.spelled.tag, h.shown.spelled.tagged, parts.1), (value.0, (body.1, body.2, value.1), value.2))

-- what an iterator gives from its start on
pub gives_some :
    {b : List ℕ} {r : Rest} → Exactly (IsSomeText blank tt full b) (HasFault blank tt full b)
    → ((rs : List Record) → IsText blank tt full b rs → (xs : List (ℕ × Seen)) × AreShown rs xs b × Gives r (all_ok xs))
    → ((f : Fault) → HasFault blank tt full b f → (xs : List (ℕ × Seen)) × ShowsFront xs b × Gives r (all_ok xs ++ Err (without_path f) ∷ []))
    → (items : List Item) × Gives r items
gives_some {b} {r} told text fault = by told.either
  where
    by : IsSomeText blank tt full b ⊎ ((f : Fault) × HasFault blank tt full b f) → (items : List Item) × Gives r items
    by (inl is) = let given = text is.0 is.1 in (all_ok given.0, given.2)
    by (inr has) = let given = fault has.0 has.1 in (all_ok given.0 ++ Err (without_path has.0) ∷ [], given.2)

first_of : {depth : ℕ} {p q : Place} (x : ℕ × Seen) (others : List (ℕ × Seen)) → Passes depth p (x ∷ others) q → (r : Place) × ShowsRecord depth p x r
first_of {depth} {p} {q} x others h = go h.rs h.front h.shown h.sound h.moves
  where
    go :
        (rs : List Record) (front : List ℕ) → AreShown rs (x ∷ others) front → AllSound blank tt depth rs → Moves p front q
        → (r : Place) × ShowsRecord depth p x r
    go [] front shown sound m = absurd shown
    go (r ∷ rs) front shown (one s more) m =
        let split = moves_split {p = p} {r = q} shown.0 shown.1 (rw shown.4 at m) in
        (split.0, record { it = r; front = shown.0; shown = shown.2; sound = s; moves = split.1 })

none_of : {depth : ℕ} {p q : Place} → Passes depth p [] q → p ≡ q
none_of {depth} {p} {q} h = go h.rs h.front h.shown h.moves
  where
    go : (rs : List Record) (front : List ℕ) → AreShown rs [] front → Moves p front q → p ≡ q
    go [] front shown m = moved_nothing (rw shown at m)
    go (r ∷ rs) front shown m = absurd shown

-- where a record is given first, one is there
pub first_given :
    {s : Rest} {x : ℕ × Seen} {items others : List Item} → Gives s items → items ≡ Ok x ∷ others
    → (q : Place) × ShowsRecord s.depth (place s.text s.at) x q
first_given {s} {x} {items} {others} (to_end {xs = []} {q = q} h end is) e = by s.is_cut is
  where
    by : (b : Bool) → items ≡ [] ++ (if b then Err (without_path (too_large s)) ∷ [] else []) → (q : Place) × ShowsRecord s.depth (place s.text s.at) x q
    by true i = absurd (cc)
    by false i = absurd (cc)
first_given {s} {x} (to_end {xs = y ∷ ys} h end is) e = let same : y ≡ x = cc in first_of x ys (rw same at h)
first_given {s} {x} (to_fault {xs = []} h some bad is) e = absurd (cc)
first_given {s} {x} (to_fault {xs = y ∷ ys} h some bad is) e = let same : y ≡ x = cc in first_of x ys (rw same at h)

-- no record is given first
pub data IsNoRecord (items : List Item) : Type 0 where
  nothing : items ≡ [] → IsNoRecord items
  a_fault : {e : WireFault} {others : List Item} → items ≡ Err e ∷ others → IsNoRecord items

no_first : {x : ℕ × Seen} {items others : List Item} → IsNoRecord items → items ≡ Ok x ∷ others → ⊥
no_first (nothing n) e = cc
no_first (a_fault n) e = cc

-- where none is given first, none is there
pub none_given : {s : Rest} {items : List Item} → Gives s items → IsNoRecord items → RecordAt blank tt s.depth (place s.text s.at) → ⊥
none_given {s} (to_end {xs = []} {q = q} h end is) lacks at =
    let some = record_some at in
    let size = fewer at.1 at.5 in
    let e : (place s.text s.at).rest ≡ [] = ap (λ (z : Place). z.rest) (none_of h) ∙ end in
    let none : length (place s.text s.at).rest ≡ 0 = ap length e in
    omega (arith, some, size, none)
none_given {s} (to_end {xs = y ∷ ys} h end is) lacks at = no_first lacks is
none_given {s} (to_fault {xs = []} h some bad is) lacks at = bad_not_record bad (rw (none_of h) at at)
none_given {s} (to_fault {xs = y ∷ ys} h some bad is) lacks at = no_first lacks is

-- ---- the bytes within a limit

take_past : (a x : List ℕ) (m : ℕ) → length a ≤ m → take m (a ++ x) ≡ a ++ take (m - length a) x
take_past [] x m h = let e : m - 0 ≡ m = omega arith in rw e refl
take_past (b ∷ a) x zero h = absurd (omega arith)
take_past (b ∷ a) x (suc m) h =
    let e : suc m - length (b ∷ a) ≡ m - length a = omega arith in rw e (ap (λ (z : List ℕ). b ∷ z) (take_past a x m (omega arith)))

-- a record of the first bytes is one of all
pub shown_longer :
    {depth : ℕ} {x : ℕ × Seen} {q : Place} (at m : ℕ) (b : List ℕ) → ShowsRecord depth (place (take m b) 0) x q
    → (r : Place) × (h : ShowsRecord depth (given_at at None b) x r) × (length h.front ≤ m)
shown_longer {depth} {x} {q} at m b h =
    let all : b ≡ h.front ++ (q.rest ++ drop m b) =
    sym (take-append-drop m b) ∙ ap (λ (z : List ℕ). z ++ drop m b) h.moves.given ∙ append_assoc h.front q.rest (drop m b) in
    let size : length (take m b) ≡ length h.front + length q.rest = fewer h.front h.moves in (
      record { at = at + length h.front; known = None; rest = q.rest ++ drop m b },
      record {
        it = h.it;
        front = h.front;
        shown = h.shown;
        sound = h.sound;
        moves = record { given = all; within = tt; at = refl; known = refl };
      },
      omega (arith, size, length-take m b),
    )

-- a small record of all is one of the first bytes
pub whole_shorter : (at m : ℕ) (b : List ℕ) → (w : IsWholeAt (given_at at None b)) → length w.bytes ≤ m → RecordAt blank tt 100 (place (take m b) 0)
whole_shorter at m b w small = (
  w.it,
  w.bytes,
  record { at = 0 + length w.bytes; known = None; rest = take (m - length w.bytes) w.end.rest },
  w.spelled,
  w.sound,
  record { given = ap (take m) w.moves.given ∙ take_past w.bytes w.end.rest m small; within = tt; at = refl; known = refl },
)

-- ---- records that lead to an index

pub front_more :
    (b : List ℕ) (from at size : ℕ) {rs : List Record} {x : ℕ × Seen} → Front 100 (place b from) rs (place b at)
    → (h : ShowsRecord 100 (place b at) x (passed (place b at) size)) → Front 100 (place b from) (rs ++ h.it ∷ []) (place b (at + size))
front_more b from at size {rs} f h =
    let same : passed (place b at) size ≡ place b (at + size) = same_parts _ _ refl refl (drop-drop size at b) in record {
      spelled = (
        f.spelled.0 ++ h.front,
        AreRecords-push rs h.it _ _ f.spelled.1 h.shown.spelled,
        rw same at (moves_both _ _ f.spelled.2 h.moves),
      );
      sound = AllSound-push rs h.it f.sound h.sound;
    }

pub counted_more :
    (k : ℕ) (rs : List Record) (r : Record) (is : Bool) → (r.number == k) ≡ is
    → (step k (rs ++ r ∷ [])).occurrence ≡ (step k rs).occurrence + (if is then 1 else 0)
counted_more k rs r true e =
    ap length (filter-append (λ (x : Record). x.number == k) rs (r ∷ []))
    ∙ length-append (filter (λ x. x.number == k) rs) (filter (λ x. x.number == k) (r ∷ []))
    ∙ rw e refl
counted_more k rs r false e =
    ap length (filter-append (λ (x : Record). x.number == k) rs (r ∷ []))
    ∙ length-append (filter (λ x. x.number == k) rs) (filter (λ x. x.number == k) (r ∷ []))
    ∙ rw e refl

-- the tag of a record that is shown
tag_shown : {depth : ℕ} {p q : Place} {x : ℕ × Seen} → ShowsRecord depth p x q → (w : ℕ) × (mid : Place) × HasTag p x.0 w mid × (w ≢ 4)
tag_shown {depth} {p} {q} {x} h =
    let spelled = h.shown.spelled in
    let parts = moves_split {p = p} {r = q} spelled.tag spelled.body (subst (λ (z : List ℕ). Moves p z q) spelled.joined h.moves) in
    let known = wire_type_known h.it.payload in
    let tag : HasTag p h.it.number (wire_type h.it.payload) parts.0 =
    record { tag = (spelled.tag, spelled.tagged, parts.1); number = spelled.number; type = known.0 } in
    (wire_type h.it.payload, parts.0, rw (sym h.shown.number) at tag, known.1)

-- what is found at an index that is reached
pub found_here :
    {b : List ℕ} {from at before w : ℕ} {s : PathStep} {rs : List Record} {q : Place} (f : Found) → IsReached b from s rs at before → before ≡ s.occurrence
    → HasTag (place b at) s.number w q → w ≢ 4 → f.start ≡ at → IsValueAt w q f.payload f.end → IsFound b from s (Some f)
found_here {b} {from} {at} {before} {w} {s} {rs} {q} f reached last tag no_end start value =
    let step_at : IsStepAt s rs w (place b at) q = record { counted = reached.counted ∙ last; tag = tag; no_end = no_end } in
    here {before = rs} {w = w} {q = q} {f = f} (rw start reached.front) (rw start step_at) value refl

below_unless : (m n : ℕ) → m ≤ n → m ≢ n → m < n
below_unless m n le ne = ⊎_elim (λ (l : m < n). l) (λ (g : n ≤ m). absurd (ne (omega arith))) (cases_lt m n)

-- a record is passed over
pub passed_on :
    (b : List ℕ) (from at size before after : ℕ) {s : PathStep} {rs : List Record} {x : ℕ × Seen} → IsReached b from s rs at before
    → ShowsRecord 100 (place b at) x (passed (place b at) size) → before ≤ s.occurrence
    → (nat_eq x.0 s.number ≡ true → before < s.occurrence → after ≡ before + 1) → (nat_eq x.0 s.number ≡ false → after ≡ before)
    → (before ≡ s.occurrence → (w : ℕ) (q : Place) → HasTag (place b at) s.number w q → w ≢ 4 → ⊥)
    → (us : List Record) × IsReached b from s us (at + size) after × (at < at + size) × (at + size ≤ length b) × (after ≤ s.occurrence)
passed_on b from at size before after {s} {rs} {x} reached h few more same no_tag = by (nat_eq x.0 s.number) refl
  where
    some : 0 < size
    some = let n = record_some {depth_left = 100} (h.it, h.front, passed (place b at) size, h.shown.spelled, h.sound, h.moves) in
        let e : at + size ≡ at + length h.front = h.moves.at in omega (arith, n, e)

    within : at + size ≤ length b
    within = let n = moves_within at (drop at b) h.front _ h.moves in
        let e : at + size ≡ at + length h.front = h.moves.at in let n2 = some in omega (arith, n, e, n2, length-drop at b)

    count : (is : Bool) → nat_eq x.0 s.number ≡ is → (step s.number (rs ++ h.it ∷ [])).occurrence ≡ before + (if is then 1 else 0)
    count is e =
        counted_more s.number rs h.it is (ap (λ (z : ℕ). nat_eq z s.number) (sym h.shown.number) ∙ e)
        ∙ ap (λ (z : ℕ). z + (if is then 1 else 0)) reached.counted

    by : (is : Bool) → nat_eq x.0 s.number ≡ is
        → (us : List Record) × IsReached b from s us (at + size) after × (at < at + size) × (at + size ≤ length b) × (after ≤ s.occurrence)
    by true e =
        let tag = tag_shown h in
        let is : x.0 ≡ s.number = eqb-true x.0 s.number e in
        let not_last : before ≢ s.occurrence = λ l. no_tag l tag.0 tag.1 (subst (λ (z : ℕ). HasTag (place b at) z tag.0 tag.1) is tag.2) tag.3 in
        let below : before < s.occurrence = below_unless before s.occurrence few not_last in
        let one = more e below in
        let front = front_more b from at size reached.front h in
        (rs ++ h.it ∷ [], record { front = front; counted = count true e ∙ sym one }, omega (arith, some), within, omega (arith, one, below))
    by false e =
        let none = same e in
        let front = front_more b from at size reached.front h in
        let as_before : before + 0 ≡ before = omega arith in
        (rs ++ h.it ∷ [], record { front = front; counted = count false e ∙ as_before ∙ sym none }, omega (arith, some), within, omega (arith, none, few))

-- ---- the first record, by an iterator at its start

pub first_whole :
    {b : List ℕ} {r : Rest} {x : ℕ × Seen} {items others : List Item} (m : ℕ) (is_cut : Bool) (at : ℕ)
    → r ≡ record { text = take m b; is_cut = is_cut; at = 0; depth = 100 } → Gives r items → items ≡ Ok x ∷ others
    → (q : Place) × (h : ShowsRecord 100 (given_at at None b) x q) × (length h.front ≤ m)
first_whole {b} {r} m is_cut at begins given is = let shown = first_given (rw begins at given) is in shown_longer at m b shown.1

pub none_whole :
    {b : List ℕ} {r : Rest} {items : List Item} (m : ℕ) (is_cut : Bool) (at : ℕ)
    → r ≡ record { text = take m b; is_cut = is_cut; at = 0; depth = 100 } → Gives r items → IsNoRecord items → (w : IsWholeAt (given_at at None b))
    → length w.bytes ≤ m → ⊥
none_whole {b} m is_cut at begins given lacks w small = none_given (rw begins at given) lacks (whole_shorter at m b w small)
