-- Bytes from position 0 on, with no known end: an input onto what the reader began with, or its fault.
use Rattle.std.proofs.Common.{◌≡◌, ℕ, zero, suc, ◌+◌, ◌<◌, ◌≤◌, ◌^◌, List, [], ◌++◌, take, length, refl, sym, ap, ◌∙◌, subst, arith, append-nil, length-append, inl, inr, ◌⊎◌, All, Some, None}
use Rattle.pb_wire.specs.Record.{Payload, Record}
use Rattle.pb_wire.specs.Ranges.{IsByte}
use Rattle.pb_wire.specs.Spell.{AreRecords}
use Rattle.pb_wire.specs.Sound.{Sound, AllSound}
use Rattle.pb_wire.specs.Schema.{Schema}
use Rattle.pb_wire.specs.Limits.{Bounds, full}
use Rattle.pb_wire.specs.declared.fault.Cause.TheVariants.{InputTooLarge}
use Rattle.pb_wire.specs.Fault.{Fault, fault}
use Rattle.pb_wire.specs.Grammar.{HasFault}
use Rattle.pb_wire.specs.Exact.{Exactly, IsSomeText}
use Rattle.pb_wire.proofs.ExactLemmas.{exactly, text_not_both}
use Rattle.pb_wire.proofs.Longer.{beyond_settled}
use Rattle.pb_wire.proofs.Unique.{same_records}
use Rattle.pb_schema.specs.Types.{Types}
use Rattle.pb_schema.specs.Rules.{IsPool}
use Rattle.pb_schema.specs.Context.{a_message, schema_of}
use Rattle.pb_value.specs.Data.{Message, empty}
use Rattle.pb_value.specs.Value.{value}
use Rattle.pb_value.specs.Derives.{Derives, Text}
use Rattle.pb_value.specs.Canon.{canon, canon_bytes}
use Rattle.pb_value.specs.Onto.{onto}
use Rattle.pb_value.specs.Joining.{IsOnto}
use Rattle.pb_value.specs.WellFormed.{IsWellFormed}
use Rattle.pb_value.proofs.BodyBack.{value-canon}
use Rattle.pb_value.proofs.MessageSteps.{value_of_nothing}
use Rattle.pb_value.proofs.OntoLemmas.{onto_joined}
use Rattle.pb_value.proofs.RoundTrip.{canonical_text}
use Rattle.pb_value.proofs.JoinedTexts.{AreRecords-append, AllSound-append, AllSound-behind, records_behind}
use Rattle.pb_decode.specs.Reader.{State, Stops, over, cut}
use Rattle.pb_decode.specs.Reader.Start.{starting, further, TookFrom, IsWhole, BadFrom, ReportedFrom}
use Rattle.pb_decode.specs.Onto.{IsTextOnto}
use Rattle.pb_decode.specs.Push.{Took}
use Rattle.pb_decode_whole.proofs.Top.{nothing_good}
use Rattle.pb_decode.proofs.StartLemmas.{is_message, whole_there}

-- THE START: the canonical records have the message as their value
pub begun_onto :
    {pool : Types} {k : ℕ} {v : Message} (depth_left depth : ℕ) (s : State) (held : List ℕ) → depth_left ≡ depth → IsPool pool → k < length pool.messages → IsWellFormed pool k v
    → ((p : Types) (base : List Record) → k < length p.messages → IsWellFormed p k v → v ≡ value p k base → TookFrom p (starting k depth_left base None) s held) → TookFrom pool (starting k depth (canon pool k v) None) s held
begun_onto {pool} {k} {v} depth_left depth s held same rules within good begun =
    subst (λ (d : ℕ). TookFrom pool (starting k d (canon pool k v) None) s held) same (begun pool (canon pool k v) within good (sym (value-canon pool k v rules good)))

-- THE ONE ANSWER
-- the records before the end are all
pub whole_front : {pool : Types} {k depth : ℕ} {base : List Record} {b : List ℕ} {v : Message} (w : IsWhole pool (further (starting k depth base None) b) v) → w.front ≡ b
whole_front {b = b} w = by_end w.over
  where
    by_end : (w.after.known ≡ Some 0) ⊎ ((w.after.known ≡ None) × (w.after.rest ≡ [])) → w.front ≡ b
    by_end (inl ended) = absurd (let known = w.moves.known in let e : None ≡ Some 0 = sym known ∙ ended in cc)
    by_end (inr ended) = sym (w.moves.given ∙ ap (λ (z : List ℕ). w.front ++ z) ended.1 ∙ append-nil w.front)

pub text_onto :
    {pool : Types} {m : ℕ} {limits : Bounds} {v : Message} {b : List ℕ} (w : Message) → length b ≤ limits.bytes → IsWhole pool (further (starting m limits.depth (canon pool m v) None) b) w → IsTextOnto pool m limits v b w
unfolding onto
text_onto w size h = record {
  size = size;
  onto = record { records = h.records; spelled = subst (AreRecords h.records) (whole_front h) h.spelled; sound = h.sound; valued = h.valued };
}

-- onto nothing
pub text_from :
    {pool : Types} {m : ℕ} {limits : Bounds} {b : List ℕ} (w : Message) → length b ≤ limits.bytes → IsWhole pool (further (starting m limits.depth [] None) b) w → Text pool m limits b w
text_from w size h = record {
  size = size;
  derives = record { records = h.records; spelled = subst (AreRecords h.records) (whole_front h) h.spelled; sound = h.sound; valued = h.valued };
}

-- what a decoder has taken of an encoding, as a reader that began there
pub from_took : {pool : Types} {m : ℕ} {limits : Bounds} {b : List ℕ} (s : State) (held : List ℕ) → Took pool m limits b s held → TookFrom pool (further (starting m limits.depth [] None) b) s held
from_took s held h = record { reads = h.reads; stops = h.stops; at = let at = h.at in omega (arith, at) }

pub took_none : (pool : Types) (m : ℕ) (limits : Bounds) (s : State) (held : List ℕ) → TookFrom pool (starting m limits.depth [] None) s held → Took pool m limits [] s held
took_none pool m limits s held h = record { reads = h.reads; stops = h.stops; at = let at = h.at in omega (arith, at); size = omega arith }

some_text : {pool : Types} {m : ℕ} {limits : Bounds} {v w : Message} {b : List ℕ} → IsTextOnto pool m limits v b w → IsSomeText (schema_of pool) (a_message m) limits b
some_text t = (t.onto.records, record { size = t.size; spelled = t.onto.spelled; sound = t.onto.sound })

pub never_both : {pool : Types} {m : ℕ} {limits : Bounds} {v w : Message} {b : List ℕ} (f : Fault) → HasFault (schema_of pool) (a_message m) limits b f → IsTextOnto pool m limits v b w → ⊥
never_both f fails t = text_not_both fails (some_text t)

pub same_onto : {pool : Types} {m : ℕ} {limits : Bounds} {v : Message} {b : List ℕ} (w x : Message) → IsTextOnto pool m limits v b w → IsTextOnto pool m limits v b x → w ≡ x
same_onto {pool} {m} {v = v} {b = b} w x t u =
    t.onto.valued ∙ ap (onto pool m v) (same_records t.onto.records u.onto.records b t.onto.spelled u.onto.spelled) ∙ sym u.onto.valued

pub exactly_onto :
    (pool : Types) (m : ℕ) (limits : Bounds) (v : Message) (b : List ℕ) → All IsByte b → Exactly ((w : Message) × IsTextOnto pool m limits v b w) (HasFault (schema_of pool) (a_message m) limits b)
exactly_onto pool m limits v b bytes = record {
  either = by_text law.either;
  not_both = λ f bad t. never_both f bad t.1;
  one = law.one;
}
  where
    law : Exactly (IsSomeText (schema_of pool) (a_message m) limits b) (HasFault (schema_of pool) (a_message m) limits b)
    law = exactly (schema_of pool) (a_message m) limits b bytes

    by_text : IsSomeText (schema_of pool) (a_message m) limits b ⊎ ((f : Fault) × HasFault (schema_of pool) (a_message m) limits b f)
        → ((w : Message) × IsTextOnto pool m limits v b w) ⊎ ((f : Fault) × HasFault (schema_of pool) (a_message m) limits b f)
    by_text (inl (rs, t)) = inl (onto pool m v rs, record { size = t.size; onto = record { records = rs; spelled = t.spelled; sound = t.sound; valued = refl } })
    by_text (inr bad) = inr bad

-- ONTO NOTHING
nothing_derives : (pool : Types) (m depth : ℕ) (v : Message) → v ≡ empty → Derives pool m depth [] v
unfolding value
nothing_derives pool m depth v none = record { records = []; spelled = refl; sound = AllSound.none; valued = none ∙ sym (value_of_nothing pool 101 m) }

-- FAULTS
pub whole_fault :
    (pool : Types) {k : ℕ} {limits : Bounds} (base : List Record) {b : List ℕ} (f : Fault) → length b ≤ limits.bytes → BadFrom pool (further (starting k limits.depth base None) b) f → HasFault (schema_of pool) (a_message k) limits b f
whole_fault pool base f size h = HasFault.bad size h

front_fault :
    {pool : Types} {k : ℕ} {limits : Bounds} (base : List Record) {b : List ℕ} (f : Fault) → limits.bytes < length b → ReportedFrom pool (further (starting k limits.depth base None) (take limits.bytes b)) f
    → HasFault (schema_of pool) (a_message k) limits b f
front_fault {limits = limits} base f more h = HasFault.bad_front more h.bad (beyond_settled limits.bytes f h.settled)

-- a fault of the bytes within the limit
pub front_reported :
    {pool : Types} {k : ℕ} {limits : Bounds} (base : List Record) {b : List ℕ} (most : ℕ) (f : Fault) → most ≡ limits.bytes → most < length b → ReportedFrom pool (further (starting k limits.depth base None) (take most b)) f
    → HasFault (schema_of pool) (a_message k) limits b f
front_reported {pool} {k} {limits} base {b} most f is more h =
    front_fault base f (omega (arith, is, more)) (subst (λ (n : ℕ). ReportedFrom pool (further (starting k limits.depth base None) (take n b)) f) is h)

beyond_fault :
    {pool : Types} {k : ℕ} {limits : Bounds} {base : List Record} {b : List ℕ} (s : State) (held : List ℕ) → limits.bytes < length b → TookFrom pool (further (starting k limits.depth base None) (take limits.bytes b)) s held
    → HasFault (schema_of pool) (a_message k) limits b (fault limits.bytes [] InputTooLarge)
beyond_fault {pool} {k} {limits} {base} {b} s held more h = by_stops h.stops
  where
    from_whole : (w : Message) → IsWhole pool (further (starting k limits.depth base None) (take limits.bytes b)) w → HasFault (schema_of pool) (a_message k) limits b (fault limits.bytes [] InputTooLarge)
    from_whole w whole = HasFault.too_large more (whole.records, subst (AreRecords whole.records) (whole_front whole) whole.spelled, whole.sound) refl

    by_stops : Stops pool k limits.depth (further (starting k limits.depth base None) (take limits.bytes b)).place s held → HasFault (schema_of pool) (a_message k) limits b (fault limits.bytes [] InputTooLarge)
    by_stops (cut bad) = HasFault.bad_front more bad refl
    by_stops (over none tag ended) =
        let (w, form) = is_message (further (starting k limits.depth base None) (take limits.bytes b)) s held (record { parents = none; next = tag; over = ended }) h in
        from_whole w (whole_there (further (starting k limits.depth base None) (take limits.bytes b)) s held k w (record { parents = none; next = tag; over = ended }) form h)

-- more bytes than the limit allows: those within it are whole, or cut short
pub beyond_reported :
    {pool : Types} {k : ℕ} {limits : Bounds} {base : List Record} {b : List ℕ} (most : ℕ) (s : State) (held : List ℕ) → most ≡ limits.bytes → most < length b
    → TookFrom pool (further (starting k limits.depth base None) (take most b)) s held → HasFault (schema_of pool) (a_message k) limits b (fault most [] InputTooLarge)
beyond_reported {pool} {k} {limits} {base} {b} most s held is more h =
    subst (λ (n : ℕ). HasFault (schema_of pool) (a_message k) limits b (fault n [] InputTooLarge)) (sym is)
    (beyond_fault s held (omega (arith, is, more)) (subst (λ (n : ℕ). TookFrom pool (further (starting k limits.depth base None) (take n b)) s held) is h))

-- JOINED INPUTS: after bytes that the message derives from
module _ (pool : Types) (rules : IsPool pool) (m depth : ℕ) (v : Message) (good : IsWellFormed pool m v) where
  pub onto_derives : (a b : List ℕ) (w : Message) → Derives pool m depth a v → IsOnto pool m depth v b w → Derives pool m depth (a ++ b) w
  onto_derives a b w h t = record {
    records = h.records ++ t.records;
    spelled = AreRecords-append h.records t.records a b h.spelled t.spelled;
    sound = AllSound-append h.records t.records h.sound t.sound;
    valued = t.valued ∙ onto_joined pool m v h.records t.records rules good (sym h.valued);
  }

  pub derives_onto : (a b : List ℕ) (w : Message) → Derives pool m depth a v → Derives pool m depth (a ++ b) w → IsOnto pool m depth v b w
  derives_onto a b w h g =
      let after = records_behind h.records g.records a b h.spelled g.spelled in
      record {
        records = after.0;
        spelled = after.2;
        sound = AllSound-behind h.records after.0 (subst (AllSound (schema_of pool) (a_message m) depth) after.1 g.sound);
        valued = g.valued ∙ ap (value pool m) after.1 ∙ sym (onto_joined pool m v h.records after.0 rules good (sym h.valued));
      }

-- an encoding onto the empty message is one of its value
pub text_onto_none : {pool : Types} {m : ℕ} {limits : Bounds} {b : List ℕ} (rules : IsPool pool) (v w : Message) → v ≡ empty → IsTextOnto pool m limits v b w → Text pool m limits b w
text_onto_none {pool} {m} {limits} {b} rules v w none t = record {
  size = t.size;
  derives = onto_derives pool rules m limits.depth v (nothing_good pool m v none) [] b w (nothing_derives pool m limits.depth v none) t.onto;
}

-- more levels
mutual
  sound_deeper : {S : Schema} {c : S.Context} {depth_left k : ℕ} {p : Payload} (more : ℕ) → depth_left ≤ more → Sound S c depth_left k p → Sound S c more k p
  sound_deeper more enough Sound.is_varint = Sound.is_varint
  sound_deeper more enough Sound.is_fixed64 = Sound.is_fixed64
  sound_deeper more enough Sound.is_fixed32 = Sound.is_fixed32
  sound_deeper more enough (Sound.some_bytes re) = Sound.some_bytes re
  sound_deeper more enough (Sound.a_text re utf8) = Sound.a_text re utf8
  sound_deeper more enough (Sound.a_list re es) = Sound.a_list re es
  sound_deeper zero enough (Sound.a_message re spelled h) = absurd (omega (arith, enough))
  sound_deeper (suc more) enough (Sound.a_message re spelled h) = Sound.a_message re spelled (all_deeper more (omega (arith, enough)) h)
  sound_deeper more enough (Sound.a_value re spelled h) = Sound.a_value re spelled (all_deeper more enough h)
  sound_deeper zero enough (Sound.a_group is h) = absurd (omega (arith, enough))
  sound_deeper (suc more) enough (Sound.a_group is h) = Sound.a_group is (all_deeper more (omega (arith, enough)) h)

  all_deeper : {S : Schema} {c : S.Context} {depth_left : ℕ} {rs : List Record} (more : ℕ) → depth_left ≤ more → AllSound S c depth_left rs → AllSound S c more rs
  all_deeper more enough AllSound.none = AllSound.none
  all_deeper more enough (AllSound.one s h) = AllSound.one (sound_deeper more enough s) (all_deeper more enough h)

-- after the canonical bytes of the message, where the wire can hold both
pub joined_text :
    (pool : Types) (rules : IsPool pool) (m : ℕ) (limits : Bounds) (v : Message) (b : List ℕ) (w : Message) → limits.depth ≤ 100 → IsWellFormed pool m v → length (canon_bytes pool m v ++ b) < 2 ^ 31 → IsTextOnto pool m limits v b w
    → Text pool m full (canon_bytes pool m v ++ b) w
joined_text pool rules m limits v b w deep good small t =
    let size : length (canon_bytes pool m v) + length b < 2 ^ 31 = subst (λ (n : ℕ). n < 2 ^ 31) (length-append (canon_bytes pool m v) b) small in
    record {
      size = omega (arith, small);
      derives =
          onto_derives pool rules m 100 v good (canon_bytes pool m v) b w (canonical_text pool m v rules good (omega (arith, size))).derives
          (record { records = t.onto.records; spelled = t.onto.spelled; sound = all_deeper 100 deep t.onto.sound; valued = t.onto.valued });
    }
