-- Records that an iterator gives, put one after another.
use Rattle.std.proofs.Common.{◌≡◌, ℕ, suc, ◌+◌, ◌-◌, ◌≤◌, List, [], ◌∷◌, ◌++◌, length, refl, sym, ap, ◌∙◌, subst, arith, append_assoc, append-nil, length-append, Some, None, Ok, Err}
use Rattle.pb_wire.specs.Record.{Record, group_of, group_depth}
use Rattle.pb_wire.specs.Record as wire
use Rattle.pb_wire.specs.RecordIter.{Seen, seen, group, AreShown, Gives, NextGives, all_ok}
use Rattle.pb_wire.specs.Rest.{Rest}
use Rattle.pb_wire.specs.Schema.{blank}
use Rattle.pb_wire.specs.Sound.{AllSound, one}
use Rattle.pb_wire.specs.Grammar.{IsText}
use Rattle.pb_wire.specs.Limits.{Bounds, full}
use Rattle.pb_wire.specs.declared.fault.WireFault.{WireFault}
use Rattle.pb_wire.specs.declared.iter.Payload.{Payload}
use Rattle.pb_wire.proofs.DepthLemmas.{sound_higher, sound_depth, group_records_sound}
use Rattle.pb_listing.specs.Borrowed.{IsBorrowed, limits_inside}

-- a text of less deep records is a text
pub full_text : (level : ℕ) (b : List ℕ) (rs : List Record) → IsText blank tt (limits_inside level) b rs → IsText blank tt full b rs
full_text level b rs t = record { size = t.size; spelled = t.spelled; sound = sound_higher 100 (omega arith) t.sound }

-- a text within any limits is one
pub text_in_full : {limits : Bounds} {b : List ℕ} {rs : List Record} → limits.bytes ≤ full.bytes → limits.depth ≤ 100 → IsText blank tt limits b rs → IsText blank tt full b rs
text_in_full size depth t = record { size = (let s = t.size in omega arith); spelled = t.spelled; sound = sound_higher 100 depth t.sound }

pub top_text : {b : List ℕ} {rs : List Record} → IsText blank tt full b rs → IsText blank tt (limits_inside 0) b rs
top_text t = record { size = t.size; spelled = t.spelled; sound = t.sound }

-- the text inside a group
pub text_inside :
    (level number : ℕ) (r : Record) (s : List ℕ) → IsBorrowed level r (number, group s)
    → (rs : List Record) × (r.payload ≡ wire.group (group_of rs)) × (level + 1 ≤ 100) × IsText blank tt (limits_inside (level + 1)) s rs
text_inside level number r s is =
    let rs : List Record = is.shown.payload.0 in
    let payload : r.payload ≡ wire.group (group_of rs) = is.shown.payload.1 in
    let enclosed = is.shown.payload.3 in
    let deep : suc (group_depth (group_of rs)) ≤ full.depth - level = rw payload at (sound_depth is.sound) in
    let size = ap length enclosed.joined ∙ length-append enclosed.start (s ++ enclosed.end) in
    let inner = length-append s enclosed.end in
    let most = is.size in (
      rs,
      payload,
      omega arith,
      record { size = omega arith; spelled = is.shown.payload.2; sound = group_records_sound rs (full.depth - (level + 1)) (omega arith) },
    )

-- a front of the records, which stand inside so many groups, is put, and the iterator gives the others
pub record IsPut (level : ℕ) (rs : List Record) (put : List Record → Type 0) (s : Rest) : Type 0 where
  pub done : List Record
  pub left : List Record
  pub xs : List (ℕ × Seen)
  pub bytes : List ℕ
  pub joined : rs ≡ done ++ left
  pub shown : AreShown left xs bytes
  pub size : length bytes ≤ full.bytes
  pub sound : AllSound blank tt (full.depth - level) left
  pub gives : Gives s (all_ok xs)
  pub so_far : put done

-- none is put yet
pub none_put :
    (level : ℕ) (rs : List Record) (put : List Record → Type 0) (s : Rest) (b : List ℕ) → IsText blank tt (limits_inside level) b rs
    → (xs : List (ℕ × Seen)) × AreShown rs xs b × Gives s (all_ok xs) → put [] → IsPut level rs put s
none_put level rs put s b t (xs, shown, gives) nothing = record {
  done = [];
  left = rs;
  xs = xs;
  bytes = b;
  joined = refl;
  shown = shown;
  size = t.size;
  sound = t.sound;
  gives = gives;
  so_far = nothing;
}

-- the next record, and what is put with it
pub record Next (level : ℕ) (rs done : List Record) (t : Rest) (y : ℕ × Payload) : Type 1 where
  pub it : Record
  pub others : List Record
  pub is : IsBorrowed level it (y.0, seen y.1)
  pub joined : rs ≡ (done ++ it ∷ []) ++ others
  pub again : (put : List Record → Type 0) → put (done ++ it ∷ []) → IsPut level rs put t

pub next_put :
    (level : ℕ) (rs : List Record) (put : List Record → Type 0) (s t : Rest) (y : ℕ × Payload) (p : IsPut level rs put s) → NextGives s (Some (Ok y)) t
    → Next level rs p.done t y
next_put level rs put s t y p step = by p.left p.xs p.bytes p.joined p.shown p.size p.sound p.gives
  where
    by :
        (left : List Record) (xs : List (ℕ × Seen)) (b : List ℕ) → rs ≡ p.done ++ left → AreShown left xs b → length b ≤ full.bytes
        → AllSound blank tt (full.depth - level) left → Gives s (all_ok xs) → Next level rs p.done t y
    by left [] b joined shown size sound gives = let first = step.first [] gives in let e = first.1 in absurd (cc)
    by [] (x ∷ xs) b joined shown size sound gives = absurd shown
    by (r ∷ left) (x ∷ xs) b joined shown size (one sound others) gives =
        let first = step.first (all_ok (x ∷ xs)) gives in
        let e = first.1 in
        let same : x ≡ (y.0, seen y.1) = cc in
        let rest : all_ok xs ≡ first.0 = cc in
        let whole : rs ≡ (p.done ++ r ∷ []) ++ left = joined ∙ sym (append_assoc p.done (r ∷ []) left) in
        let total : length b ≡ length shown.0 + length shown.1 = ap length shown.4 ∙ length-append shown.0 shown.1 in
        record {
          it = r;
          others = left;
          is = record { bytes = shown.0; shown = rw (← same) shown.2; size = omega arith; sound = sound };
          joined = whole;
          again = λ after more. record {
            done = p.done ++ r ∷ [];
            left = left;
            xs = xs;
            bytes = shown.1;
            joined = whole;
            shown = shown.3;
            size = omega arith;
            sound = others;
            gives = subst (Gives t) (sym rest) first.2;
            so_far = more;
          };
        }

-- no more come, and all are put
pub last_put : (level : ℕ) (rs : List Record) (put : List Record → Type 0) (s t : Rest) (p : IsPut level rs put s) → NextGives s None t → put rs
last_put level rs put s t p step = by p.left p.xs p.bytes p.joined p.shown p.gives
  where
    by : (left : List Record) (xs : List (ℕ × Seen)) (b : List ℕ) → rs ≡ p.done ++ left → AreShown left xs b → Gives s (all_ok xs) → put rs
    by [] [] b joined shown gives = subst put (sym (joined ∙ append-nil p.done)) p.so_far
    by (r ∷ left) [] b joined shown gives = absurd shown
    by left (x ∷ xs) b joined shown gives = let e = (step.first (all_ok (x ∷ xs)) gives).0 in absurd (cc)

-- no fault comes
pub no_fault_put : (level : ℕ) (rs : List Record) (put : List Record → Type 0) (s t : Rest) (w : WireFault) (p : IsPut level rs put s) → NextGives s (Some (Err w)) t → ⊥
no_fault_put level rs put s t w p step = by p.xs p.gives
  where
    by : (xs : List (ℕ × Seen)) → Gives s (all_ok xs) → ⊥
    by [] gives = let e = (step.first [] gives).1 in cc
    by (x ∷ xs) gives = let e = (step.first (all_ok (x ∷ xs)) gives).1 in cc
