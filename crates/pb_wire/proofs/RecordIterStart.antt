-- What an iterator over the records of an input gives from its start on.
use Rattle.std.proofs.Common.{◌≡◌, ◌≢◌, ℕ, ◌<◌, ◌≤◌, min, List, [], ◌∷◌, ◌++◌, length, take, drop, refl, sym, ap, ◌∙◌, arith, append-nil, append_assoc, None, Bool, true, false, nat_lt, Err, ⊎_elim}
use Rattle.std.proofs.lemmas.List.{take_all, length-take-le, take-append-drop}
use Rattle.std.proofs.lemmas.Bool.{cases_lt, lt-ltb, le-ltb}
use Rattle.pb_wire.specs.Record.{Payload, Group, no_more, more, Record, group_of, records_in}
use Rattle.pb_wire.specs.Record as wire
use Rattle.pb_wire.specs.Spell.{Spells, AreRecords}
use Rattle.pb_wire.specs.Fault.{Fault, Place, place}
use Rattle.pb_wire.specs.Limits.{Bounds}
use Rattle.pb_wire.specs.Schema.{blank, Open, records}
use Rattle.pb_wire.specs.Grammar.{Whole, Bad, RecordFault, IsText, HasFault}
use Rattle.pb_wire.specs.Rest.{Rest}
use Rattle.pb_wire.specs.RecordIter.{Seen, varint, fixed64, len, group, fixed32, Shows, IsShown, AreShown, ShowsFront, Passes, Gives, to_end, to_fault, all_ok, without_path, start}
use Rattle.pb_wire.proofs.Fronts.{AreRecords-from_group}
use Rattle.pb_wire.proofs.RecordIterSteps.{rest_of}

-- ---- every record is shown

group_of-records_in : (g : Group) → group_of (records_in g) ≡ g
group_of-records_in no_more = refl
group_of-records_in (more k p g) = ap (λ (z : Group). more k p z) (group_of-records_in g)

shown_of : (r : Record) (b : List ℕ) → Spells r b → (x : ℕ × Seen) × IsShown r x b
shown_of r b h = by r.payload refl
  where
    is : (x : Seen) → Shows x r b → (x : ℕ × Seen) × IsShown r x b
    is x s = ((r.number, x), record { spelled = h; number = refl; payload = s })

    by : (p : Payload) → r.payload ≡ p → (x : ℕ × Seen) × IsShown r x b
    by (wire.varint n) e = is (varint n) e
    by (wire.fixed64 n) e = is (fixed64 n) e
    by (wire.len s) e = is (len s) e
    by (wire.fixed32 n) e = is (fixed32 n) e
    by (wire.group g) e =
        let body = rw e at h.follows in
        let tag = rw e at h.tagged in
        is (group body.0) (
          records_in g,
          e ∙ ap (λ (z : Group). wire.group z) (sym (group_of-records_in g)),
          AreRecords-from_group (records_in g) body.0 (rw group_of-records_in body.2),
          record { start = h.tag; end = body.1; starts = tag; ends = body.3; joined = h.joined ∙ ap (λ (z : List ℕ). h.tag ++ z) body.4 },
        )

pub all_shown : (rs : List Record) (b : List ℕ) → AreRecords rs b → (xs : List (ℕ × Seen)) × AreShown rs xs b
all_shown [] b h = ([], h)
all_shown (r ∷ rs) b h =
    let x = shown_of r h.0 h.2 in let xs = all_shown rs h.1 h.3 in
    (x.0 ∷ xs.0, (h.0, h.1, x.1, xs.1, h.4))

-- ---- the start

start-short : (limits : Bounds) (b : List ℕ) → length b ≤ limits.bytes → start limits b ≡ rest_of b false 0 limits.depth
start-short limits b h =
    ap (λ (z : List ℕ). rest_of z (nat_lt limits.bytes (length b)) 0 limits.depth) (take_all limits.bytes b h)
    ∙ ap (λ (z : Bool). rest_of b z 0 limits.depth) (le-ltb limits.bytes (length b) h)

start-long : (limits : Bounds) (b : List ℕ) → limits.bytes < length b → start limits b ≡ rest_of (take limits.bytes b) true 0 limits.depth
start-long limits b h = ap (λ (z : Bool). rest_of (take limits.bytes b) z 0 limits.depth) (lt-ltb limits.bytes (length b) h)

-- the start as the code has it
pub start-min :
    (limits : Bounds) (b : List ℕ)
    → rest_of (take (min (length b) limits.bytes) b) (nat_lt (min (length b) limits.bytes) (length b)) 0 limits.depth ≡ start limits b
start-min limits b = ⊎_elim (λ (h : limits.bytes < length b). long h) (λ (h : length b ≤ limits.bytes). short h) (cases_lt limits.bytes (length b))
  where
    at_most : ℕ → Rest
    at_most n = rest_of (take n b) (nat_lt n (length b)) 0 limits.depth

    long : limits.bytes < length b → at_most (min (length b) limits.bytes) ≡ start limits b
    long h = let n : min (length b) limits.bytes ≡ limits.bytes = omega arith in ap at_most n

    short : length b ≤ limits.bytes → at_most (min (length b) limits.bytes) ≡ start limits b
    short h =
        let n : min (length b) limits.bytes ≡ length b = omega arith in
        ap at_most n ∙ ap (λ (z : List ℕ). rest_of z (nat_lt (length b) (length b)) 0 limits.depth) (take_all (length b) b (omega arith))
        ∙ ap (λ (z : Bool). rest_of b z 0 limits.depth) (le-ltb (length b) (length b) (omega arith)) ∙ sym (start-short limits b h)

abbrev end_of : List ℕ → Place
end_of b = record { at = length b; known = None; rest = [] }

-- all of the bytes are records
passes_all : (depth : ℕ) (b : List ℕ) → (w : Whole blank tt depth b) → (xs : List (ℕ × Seen)) × AreShown w.0 xs b × Passes depth (place b 0) xs (end_of b)
passes_all depth b w =
    let xs = all_shown w.0 b w.1 in (
      xs.0,
      xs.1,
      record { rs = w.0; front = b; shown = xs.1; sound = w.2; moves = record { given = sym (append-nil b); within = tt; at = omega arith; known = refl } },
    )

-- a front of the bytes that are read begins the text
front_of_more : (xs : List (ℕ × Seen)) (n : ℕ) (b : List ℕ) → ShowsFront xs (take n b) → ShowsFront xs b
front_of_more xs n b h = record {
  rs = h.rs;
  front = h.front;
  others = h.others ++ drop n b;
  shown = h.shown;
  begins =
      sym (take-append-drop n b) ∙ ap (λ (z : List ℕ). z ++ drop n b) h.begins ∙ append_assoc h.front h.others (drop n b);
}

-- the records before a fault, and it
record BadParts (depth : ℕ) (b : List ℕ) (f : Fault) : Type 0 where
  pub xs : List (ℕ × Seen)
  pub at : Place
  pub front : ShowsFront xs b
  pub passes : Passes depth (place b 0) xs at
  pub goes : at.rest ≢ []
  pub before : List Record
  pub bad : RecordFault blank (records tt) before depth at f

bad_parts : {o : Open (Unit {0})} {depth : ℕ} {p : Place} {f : Fault} (b : List ℕ) → o ≡ records tt → p ≡ place b 0 → Bad blank o depth p f → BadParts depth b f
bad_parts b top from (Bad.at_record {q = q} {front = front} w m goes bad) =
    let xs = all_shown w.0 front w.1 in
    let begins = rw top at goes in
    record {
      xs = xs.0;
      at = q;
      front = record { rs = w.0; front = front; others = q.rest; shown = xs.1; begins = rw from at m.given };
      passes = record { rs = w.0; front = front; shown = xs.1; sound = w.2; moves = rw from at m };
      goes = begins.1 (rw from at m.known);
      before = w.0;
      bad = rw top at bad;
    }
bad_parts b top from (Bad.at_end is w m end e) = absurd (cc)

pub text_given :
    (limits : Bounds) (b : List ℕ) (rs : List Record) → IsText blank tt limits b rs
    → (xs : List (ℕ × Seen)) × AreShown rs xs b × Gives (start limits b) (all_ok xs)
text_given limits b rs t =
    let all = passes_all limits.depth b (rs, t.spelled, t.sound) in
    (all.0, all.1, rw (start-short limits b t.size) (to_end all.2 refl (sym (append-nil (all_ok all.0)))))

pub fault_given :
    (limits : Bounds) (b : List ℕ) (f : Fault) → HasFault blank tt limits b f
    → (xs : List (ℕ × Seen)) × ShowsFront xs b × Gives (start limits b) (all_ok xs ++ Err (without_path f) ∷ [])
fault_given limits b f (HasFault.bad h x) =
    let parts = bad_parts b refl refl x in
    (parts.xs, parts.front, rw (start-short limits b h) (to_fault parts.passes parts.goes parts.bad refl))
fault_given limits b f (HasFault.bad_front {g = g} h x e) =
    let parts = bad_parts (take limits.bytes b) refl refl x in
    let size : length (take limits.bytes b) ≡ limits.bytes = length-take-le limits.bytes b (omega arith) in
    (parts.xs, front_of_more parts.xs limits.bytes b parts.front, rw (start-long limits b h, e) (to_fault parts.passes parts.goes parts.bad (rw size refl)))
fault_given limits b f (HasFault.too_large h w e) =
    let all = passes_all limits.depth (take limits.bytes b) w in
    let size : length (take limits.bytes b) ≡ limits.bytes = length-take-le limits.bytes b (omega arith) in (
      all.0,
      front_of_more all.0 limits.bytes b (record { rs = w.0; front = take limits.bytes b; others = []; shown = all.1; begins = sym (append-nil (take limits.bytes b)) }),
      rw (start-long limits b h, e) (to_end all.2 refl (rw size refl)),
    )
