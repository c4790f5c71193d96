-- Laws of records as an iterator shows them.
use Rattle.std.proofs.Common.{◌≡◌, ℕ, zero, suc, ◌+◌, ◌-◌, ◌^◌, ◌<◌, List, [], ◌∷◌, ◌++◌, length, take, drop, refl, ap, ◌∙◌, arith, ◌⊎◌, inl, inr}
use Rattle.std.specs.Int.{w32, w64, to_le_bytes}
use Rattle.std.proofs.lemmas.List.{take_at}
use Rattle.pb_wire.specs.Record.{Record, group_of}
use Rattle.pb_wire.specs.Record as wire
use Rattle.pb_wire.specs.Spell.{Body}
use Rattle.pb_wire.specs.Fault.{fault, step, VarintFault, FixedFault, LengthFault, CutFault, Place, place, HasTag, Reads, Leads, Moves}
use Rattle.pb_wire.specs.Schema.{blank, records, in_group}
use Rattle.pb_wire.specs.Sound.{Sound}
use Rattle.pb_wire.specs.Grammar.{Bad, RecordFault}
use Rattle.pb_wire.specs.Reading.{Front, ReadsValue}
use Rattle.pb_wire.specs.RecordIter.{Seen, group, Shows, ShowsRecord, IsValueFault}
use Rattle.pb_wire.specs.declared.fault.PathStep.{PathStep}
use Rattle.pb_wire.specs.declared.fault.WireFault.{WireFault}
use Rattle.pb_wire.proofs.ReadingLemmas.{moves_both, SpellsGroup-from_records}

-- ---- values

pub varint_read : (depth_left k n : ℕ) (p q : Place) → n < 2 ^ 64 → Reads p n q → ReadsValue depth_left k 0 p (wire.varint n) q
varint_read depth_left k n p q fits r = record { type = refl; spelled = (r.0, (fits, r.1), r.2); sound = Sound.is_varint }

pub fixed64_read : (depth_left k n : ℕ) (p q : Place) → n < 2 ^ 64 → Leads (λ s. s ≡ to_le_bytes w64 n) p q → ReadsValue depth_left k 1 p (wire.fixed64 n) q
fixed64_read depth_left k n p q fits r = record { type = refl; spelled = (r.0, (fits, r.1), r.2); sound = Sound.is_fixed64 }

pub fixed32_read : (depth_left k n : ℕ) (p q : Place) → n < 2 ^ 32 → Leads (λ s. s ≡ to_le_bytes w32 n) p q → ReadsValue depth_left k 5 p (wire.fixed32 n) q
fixed32_read depth_left k n p q fits r = record { type = refl; spelled = (r.0, (fits, r.1), r.2); sound = Sound.is_fixed32 }

pub len_read : (depth_left k : ℕ) (s : List ℕ) (p q : Place) → Leads (Body k (wire.len s)) p q → ReadsValue depth_left k 2 p (wire.len s) q
len_read depth_left k s p q r = record { type = refl; spelled = r; sound = Sound.some_bytes refl }

-- ---- faults of values

pub varint_fault : (code : ℕ) (p : Place) (e : WireFault) → code ≡ 0 → VarintFault p (fault e.byte [] e.cause) → IsValueFault code p e
varint_fault code p e is v = rw is (λ o before depth_left k tag h. RecordFault.varint h v refl)

pub fixed64_fault : (code : ℕ) (p : Place) (e : WireFault) → code ≡ 1 → FixedFault 8 p (fault e.byte [] e.cause) → IsValueFault code p e
fixed64_fault code p e is v = rw is (λ o before depth_left k tag h. RecordFault.fixed64 h v refl)

pub fixed32_fault : (code : ℕ) (p : Place) (e : WireFault) → code ≡ 5 → FixedFault 4 p (fault e.byte [] e.cause) → IsValueFault code p e
fixed32_fault code p e is v = rw is (λ o before depth_left k tag h. RecordFault.fixed32 h v refl)

pub len_fault :
    (code : ℕ) (p : Place) (e : WireFault) → code ≡ 2 → LengthFault p (fault e.byte [] e.cause) ⊎ CutFault p (fault e.byte [] e.cause)
    → IsValueFault code p e
len_fault code p e is (inl v) = rw is (λ o before depth_left k tag h. RecordFault.length_of h tt v refl)
len_fault code p e is (inr v) = rw is (λ o before depth_left k tag h. RecordFault.cut_payload h (inl refl) v refl)

-- ---- faults of records

-- the record that begins at p has this fault, below some path
abbrev pub FaultAt : ℕ → Place → WireFault → Type 0
FaultAt depth p e = (path : List PathStep) × RecordFault blank (records tt) [] depth p (fault e.byte path e.cause)

pub fault_of_value : (depth code k : ℕ) (p q : Place) (e : WireFault) → HasTag p k code q → IsValueFault code q e → FaultAt depth p e
fault_of_value depth code k p q e tag bad = (step k [] ∷ [], bad (records tt) [] depth k p tag)

pub fault_of_group :
    (depth k : ℕ) (p q : Place) (e : WireFault) → 0 < depth → HasTag p k 3 q
    → (path : List PathStep) × Bad blank (in_group k tt) (depth - 1) q (fault e.byte path e.cause) → FaultAt depth p e
fault_of_group zero k p q e some tag bad = absurd (omega arith)
fault_of_group (suc depth) k p q e some tag bad =
    let same : suc depth - 1 ≡ depth = omega arith in
    let inner = rw same at bad.1 in
    (step k [] ∷ bad.0, RecordFault.in_a_group tag inner refl)

-- ---- records as they are shown

pub shows_record :
    {depth k w : ℕ} {p q r : Place} (x : Seen) (payload : wire.Payload) → (tag : HasTag p k w q) → (value : ReadsValue depth k w q payload r)
    → Shows x (record { number = k; payload = payload }) (tag.tag.0 ++ value.spelled.0) → ShowsRecord depth p (k, x) r
shows_record {depth} {k} {w} {p} {q} {r} x payload tag value shows = record {
  it = record { number = k; payload = payload };
  front = tag.tag.0 ++ value.spelled.0;
  shown = record {
    spelled = record {
      number = tag.number;
      tag = tag.tag.0;
      tagged = rw value.type tag.tag.1;
      body = value.spelled.0;
      follows = value.spelled.1;
      joined = refl;
    };
    number = refl;
    payload = shows;
  };
  sound = value.sound;
  moves = moves_both _ _ tag.tag.2 value.spelled.2;
}

-- the bytes that lead from one place of a text to another
pub moved_bytes : (b : List ℕ) (i j : ℕ) (a : List ℕ) → Moves (place b i) a (place b j) → take (j - i) (drop i b) ≡ a
moved_bytes b i j a m =
    let at : j ≡ i + length a = m.at in
    ap (take (j - i)) m.given ∙ take_at a (drop j b) (j - i) (omega arith)

pub shows_group :
    (depth depth_left k : ℕ) (p q m r : Place) (rs : List Record) (s : List ℕ) → depth ≡ suc depth_left → HasTag p k 3 q → (f : Front depth_left q rs m)
    → HasTag m k 4 r → s ≡ f.spelled.0 → ShowsRecord depth p (k, group s) r
shows_group depth depth_left k p q m r rs s level tag f end is =
    let value : ReadsValue (suc depth_left) k 3 q (wire.group (group_of rs)) r = record {
      type = refl;
      spelled = (
        f.spelled.0 ++ end.tag.0,
        (f.spelled.0, end.tag.0, SpellsGroup-from_records rs _ f.spelled.1, end.tag.1, refl),
        moves_both _ _ f.spelled.2 end.tag.2,
      );
      sound = Sound.a_group refl f.sound;
    } in
    rw (level, is) (shows_record (group f.spelled.0) (wire.group (group_of rs)) tag value (
      rs,
      refl,
      f.spelled.1,
      record { start = tag.tag.0; end = end.tag.0; starts = tag.tag.1; ends = end.tag.1; joined = refl },
    ))
