-- What an iterator gives of bytes that encode one record.
use Rattle.std.proofs.Common.{◌≡◌, ℕ, ◌+◌, ◌<◌, ◌^◌, List, [], ◌∷◌, ◌++◌, length, sym, ap, subst, ◌∙◌, arith, length-append, Some, None, Ok, Err}
use Rattle.pb_wire.specs.Record.{Record, group_of}
use Rattle.pb_wire.specs.Record as wire
use Rattle.pb_wire.specs.RecordIter.{Seen, seen, varint, fixed64, len, group, fixed32, Shows, IsShown, AreShown, Gives, NextGives, all_ok}
use Rattle.pb_wire.specs.Rest.{Rest}
use Rattle.pb_wire.specs.Inside.{records_spelled}
use Rattle.pb_wire.specs.Schema.{blank}
use Rattle.pb_wire.specs.Grammar.{IsText}
use Rattle.pb_wire.specs.Limits.{full}
use Rattle.pb_wire.specs.declared.fault.WireFault.{WireFault}
use Rattle.pb_wire.specs.declared.iter.Payload.{Payload}
use Rattle.pb_wire.proofs.InsideLemmas.{records_spelled-AreRecords}
use Rattle.pb_find.specs.Loops.{payload_of, IsOne}

pub only_text : {b : List ℕ} → (one : IsOne b) → IsText blank tt full b (one.only ∷ [])
only_text {b} one = record { size = (let small = one.size in omega (arith, small)); spelled = one.spelled; sound = one.sound }

-- what is shown of a payload
shown_payload : (x : Seen) (r : Record) (b : List ℕ) → Shows x r b → length b < 2 ^ 31 → payload_of x ≡ r.payload
shown_payload (varint n) r b e size = sym e
shown_payload (fixed64 n) r b e size = sym e
shown_payload (fixed32 n) r b e size = sym e
shown_payload (len s) r b e size = sym e
shown_payload (group s) r b (rs, e, inside, encloses) size =
    let whole : length b ≡ length encloses.start + (length s + length encloses.end) =
    ap length encloses.joined ∙ length-append encloses.start (s ++ encloses.end) ∙ ap (λ (n : ℕ). length encloses.start + n) (length-append s encloses.end) in
    let same : records_spelled s ≡ rs = records_spelled-AreRecords rs s inside (omega (arith, whole, size)) in
    sym (e ∙ ap (λ (xs : List Record). wire.group (group_of xs)) (sym same))

-- what is given is the record
pub only_given :
    {b : List ℕ} (one : IsOne b) (s t : Rest) (z : ℕ × Payload) → (xs : List (ℕ × Seen)) × AreShown (one.only ∷ []) xs b × Gives s (all_ok xs)
    → NextGives s (Some (Ok z)) t → payload_of (seen z.1) ≡ one.only.payload
only_given {b} one s t z (xs, shown, gives) next = by xs shown gives
  where
    by : (xs : List (ℕ × Seen)) → AreShown (one.only ∷ []) xs b → Gives s (all_ok xs) → payload_of (seen z.1) ≡ one.only.payload
    by [] shown gives = absurd shown
    by (w ∷ ws) shown gives =
        let e = (next.first (all_ok (w ∷ ws)) gives).1 in
        let same : w ≡ (z.0, seen z.1) = cc in
        let total : length b ≡ length shown.0 + length shown.1 = ap length shown.4 ∙ length-append shown.0 shown.1 in
        let small = one.size in
        let is : IsShown one.only (z.0, seen z.1) shown.0 = subst (λ (v : ℕ × Seen). IsShown one.only v shown.0) same shown.2 in
        shown_payload (seen z.1) one.only shown.0 is.payload (omega (arith, total, small))

pub one_given :
    {b : List ℕ} (one : IsOne b) (s t : Rest) → (xs : List (ℕ × Seen)) × AreShown (one.only ∷ []) xs b × Gives s (all_ok xs) → NextGives s None t → ⊥
one_given {b} one s t (xs, shown, gives) next = by xs shown gives
  where
    by : (xs : List (ℕ × Seen)) → AreShown (one.only ∷ []) xs b → Gives s (all_ok xs) → ⊥
    by [] shown gives = shown
    by (w ∷ ws) shown gives = let e = (next.first (all_ok (w ∷ ws)) gives).0 in cc

pub no_fault_given :
    {b : List ℕ} (one : IsOne b) (s t : Rest) (w : WireFault) → (xs : List (ℕ × Seen)) × AreShown (one.only ∷ []) xs b × Gives s (all_ok xs)
    → NextGives s (Some (Err w)) t → ⊥
no_fault_given {b} one s t w (xs, shown, gives) next = by xs shown gives
  where
    by : (xs : List (ℕ × Seen)) → AreShown (one.only ∷ []) xs b → Gives s (all_ok xs) → ⊥
    by [] shown gives = shown
    by (v ∷ vs) shown gives = let e = (next.first (all_ok (v ∷ vs)) gives).1 in cc
