-- Laws of tags and records.
use Rattle.std.proofs.Common.{◌≡◌, ℕ, ◌+◌, ◌-◌, ◌*◌, ◌/◌, ◌%◌, ◌^◌, ◌<◌, ◌≤◌, List, [], ◌∷◌, ◌++◌, length, take, drop, refl, sym, ap, subst, ◌∙◌, arith, append_assoc, length-append, Option, Some, None}
use Rattle.std.proofs.Common.{zero, suc, inl, inr, ◌⊎◌}
use Rattle.pb_wire.specs.Schema.{Schema, blank}
use Rattle.pb_wire.specs.Sound.{Sound, AllSound, one}
use Rattle.pb_wire.specs.Grammar.{Bad, RecordFault, Begins, HasFault, beyond}
use Rattle.pb_wire.specs.Limits.{Bounds}
use Rattle.pb_wire.specs.Reading.{Front, ReadsAll, ReadsValue, BadValue, BadFrom, opened}
use Rattle.pb_wire.specs.Reading.{IfFault, IfRawFault}
use Rattle.pb_wire.specs.declared.fault.RawError.{RawError}
use Rattle.pb_wire.specs.declared.fault.RawError.TheVariants as raw
use Rattle.pb_wire.specs.declared.fault.PathStep.{PathStep}
use Rattle.pb_wire.specs.declared.unknown.Unknown.{Unknown}
use Rattle.pb_wire.specs.Unknown.{payload_of, records_of}
use Rattle.pb_wire.specs.declared.fault.WireFault.{WireFault}
use Rattle.pb_wire.specs.declared.fault.ReadError.{ReadError}
use Rattle.pb_wire.specs.declared.fault.ReadError.TheVariants as errors
use Rattle.std.specs.Prelude.{option_map, MatchOption, reverse, filter, ◌==◌, Bool, true, false, cond}
use Rattle.std.proofs.lemmas.List.{take-append-drop, drop-drop, length-take-le, length-drop, append-nil, reverse-append}
use Rattle.pb_wire.specs.Record.{Payload, len, group, Record, group_of}
use Rattle.pb_wire.specs.Spell.{Body, Spells, AreRecords, SpellsGroup}
use Rattle.pb_wire.specs.Fault.{Fault, fault, step, VarintFault, FixedFault, LengthFault, CutFault, TagFault, Place, place, HasTag, Reads, Leads, Moves}

-- the two parts of a tag
pub tag_parts :
    {p q : Place} {n : ℕ} → Reads p n q → (w : ℕ) → n % 8 ≡ w → w < 6 → 8 ≤ n → n < 2 ^ 32 → HasTag p (n / 8) w q
tag_parts {p} {q} {n} r w is_type known some small = record {
  tag = let e : 8 * (n / 8) + w ≡ n = omega arith in rw e r;
  number = (omega arith, omega arith);
  type = known;
}

-- ---- moving over bytes

within_sum : (e : Option ℕ) (a b : ℕ) → MatchOption e (Unit {0}) (λ n. a ≤ n) → MatchOption (option_map (λ n. n - a) e) (Unit {0}) (λ n. b ≤ n) → MatchOption e (Unit {0}) (λ n. a + b ≤ n)
within_sum None a b h g = tt
within_sum (Some n) a b h g = omega arith

known_sum : (e : Option ℕ) (a b : ℕ) → option_map (λ n. n - b) (option_map (λ n. n - a) e) ≡ option_map (λ n. n - (a + b)) e
known_sum None a b = refl
known_sum (Some n) a b = ap (λ (m : ℕ). Some m) (omega arith)

pub moves_both : {p q r : Place} (a b : List ℕ) → Moves p a q → Moves q b r → Moves p (a ++ b) r
moves_both {p} {q} {r} a b h g = record {
  given = h.given ∙ ap (λ (s : List ℕ). a ++ s) g.given ∙ sym (append_assoc a b r.rest);
  within = rw (length-append a b) (within_sum p.known (length a) (length b) h.within (let W : Option ℕ → Type 0 = λ e. MatchOption e (Unit {0}) (λ n. length b ≤ n) in subst W h.known g.within));
  at = rw (length-append a b) (omega (arith, h.at, g.at));
  known = g.known ∙ ap (λ (e : Option ℕ). option_map (λ n. n - length b) e) h.known ∙ rw (length-append a b) (known_sum p.known (length a) (length b));
}

pub moves_none : (p : Place) → (e : p.known ≡ None) → Moves p [] p
moves_none p e = record {
  given = refl;
  within = rw e tt;
  at = omega arith;
  known = rw e refl;
}

-- n bytes of a text are passed
pub moves_at : (b : List ℕ) (i n : ℕ) → i + n ≤ length b → Moves (place b i) (take n (drop i b)) (place b (i + n))
moves_at b i n h =
    let size : length (take n (drop i b)) ≡ n = length-take-le n (drop i b) (simp length-drop (omega arith)) in
    record {
      given = rw (← drop-drop n i b) (sym (take-append-drop n (drop i b)));
      within = tt;
      at = rw size refl;
      known = refl;
    }

-- a length and its bytes
pub leads_to_bytes :
    (b : List ℕ) (at start size k : ℕ) → Reads (place b at) size (place b start) → start + size ≤ length b → size < 2 ^ 31
    → Leads (Body k (len (take (start + size - start) (drop start b)))) (place b at) (place b (start + size))
leads_to_bytes b at start size k r h small =
    let e : start + size - start ≡ size = omega arith in
    let n : length (take size (drop start b)) ≡ size = length-take-le size (drop start b) (simp length-drop (omega arith)) in
    rw e (r.0 ++ take size (drop start b), (rw n small, r.0, rw n r.1, refl), moves_both r.0 (take size (drop start b)) r.2 (moves_at b start size h))

-- ---- records

pub AreRecords-push : (rs : List Record) (r : Record) (a b : List ℕ) → AreRecords rs a → Spells r b → AreRecords (rs ++ r ∷ []) (a ++ b)
AreRecords-push [] r a b e s = rw e (b, [], s, refl, sym (append-nil b))
AreRecords-push (q ∷ rs) r a b h s =
    (h.0, h.1 ++ b, h.2, AreRecords-push rs r h.1 b h.3 s, rw h.4 (append_assoc h.0 h.1 b))

pub AllSound-push : {S : Schema} {c : S.Context} {depth_left : ℕ} (rs : List Record) (r : Record) → AllSound S c depth_left rs → Sound S c depth_left r.number r.payload → AllSound S c depth_left (rs ++ r ∷ [])
AllSound-push [] r h s = AllSound.one s AllSound.none
AllSound-push (q ∷ rs) r (one x xs) s = AllSound.one x (AllSound-push rs r xs s)

pub SpellsGroup-from_records : (rs : List Record) (b : List ℕ) → AreRecords rs b → SpellsGroup (group_of rs) b
SpellsGroup-from_records [] b h = h
SpellsGroup-from_records (r ∷ rs) b h = (h.0, h.1, h.2, SpellsGroup-from_records rs h.1 h.3, h.4)

pub front_none : (depth_left : ℕ) (b : List ℕ) (at : ℕ) → Front depth_left (place b at) [] (place b at)
front_none depth_left b at = record { spelled = ([], refl, moves_none (place b at) refl); sound = AllSound.none }

pub front_push :
    {depth_left k w : ℕ} {p q s r : Place} (rs : List Record) (payload : Payload) → Front depth_left p rs q → HasTag q k w s
    → ReadsValue depth_left k w s payload r → Front depth_left p (rs ++ record { number = k; payload = payload } ∷ []) r
front_push {depth_left} {k} {w} {p} {q} {s} {r} rs payload f tag value =
    let the_record : Record = record { number = k; payload = payload } in
    let spelled : Spells the_record (tag.tag.0 ++ value.spelled.0) = record {
      number = tag.number;
      tag = tag.tag.0;
      tagged = rw value.type tag.tag.1;
      body = value.spelled.0;
      follows = value.spelled.1;
      joined = refl;
    } in
    record {
      spelled = (
        f.spelled.0 ++ (tag.tag.0 ++ value.spelled.0),
        AreRecords-push rs the_record _ _ f.spelled.1 spelled,
        moves_both _ _ f.spelled.2 (moves_both _ _ tag.tag.2 value.spelled.2),
      );
      sound = AllSound-push rs the_record f.sound value.sound;
    }

pub group_value :
    (depth_left k : ℕ) (p q : Place) (rs : List Record) → 0 < depth_left → ReadsAll (depth_left - 1) (Some k) p rs q → ReadsValue depth_left k 3 p (group (group_of rs)) q
group_value zero k p q rs h r = absurd (omega arith)
group_value (suc n) k p q rs h r =
    let e : suc n - 1 ≡ n = omega arith in
    let inside = rw e at r.1 in
    record {
      type = refl;
      spelled = (
        inside.spelled.0 ++ r.2.0,
        (inside.spelled.0, r.2.0, SpellsGroup-from_records rs _ inside.spelled.1, r.2.1, refl),
        moves_both _ _ inside.spelled.2 r.2.2,
      );
      sound = Sound.a_group refl inside.sound;
    }

-- ---- faults

pub begins : (innermost : Option ℕ) (b : List ℕ) (at : ℕ) → (innermost ≡ None → at < length b) → Begins (opened innermost) (place b at)
begins None b at h =
    (λ e. cc, λ _ e. let n : length (drop at b) ≡ 0 = ap length e in let k : at < length b = h refl in omega (arith, n, length-drop at b))
begins (Some k) b at h = λ e. cc

pub bad_from :
    (innermost : Option ℕ) (b : List ℕ) (at here depth_left : ℕ) (rs : List Record) (f : Fault) → (innermost ≡ None → here < length b)
    → Front depth_left (place b at) rs (place b here) → RecordFault blank (opened innermost) rs depth_left (place b here) f
    → Bad blank (opened innermost) depth_left (place b at) f
bad_from innermost b at here depth_left rs f h front bad =
    Bad.at_record (rs, front.spelled.1, front.sound) front.spelled.2 (begins innermost b here h) bad

pub bad_tag :
    (innermost : Option ℕ) (p : Place) (before : List Record) (depth_left : ℕ) (f : Fault) → TagFault innermost p f
    → RecordFault blank (opened innermost) before depth_left p f
bad_tag None p before depth_left f h = RecordFault.tag h
bad_tag (Some k) p before depth_left f h = RecordFault.tag h

pub bad_varint_value : (depth_left k : ℕ) (q : Place) (w : WireFault) → VarintFault q (fault w.byte [] w.cause) → BadValue depth_left k 0 q [] w
bad_varint_value depth_left k q w h = λ o before p tag. RecordFault.varint tag h refl

pub bad_fixed64_value : (depth_left k : ℕ) (q : Place) (w : WireFault) → FixedFault 8 q (fault w.byte [] w.cause) → BadValue depth_left k 1 q [] w
bad_fixed64_value depth_left k q w h = λ o before p tag. RecordFault.fixed64 tag h refl

pub bad_fixed32_value : (depth_left k : ℕ) (q : Place) (w : WireFault) → FixedFault 4 q (fault w.byte [] w.cause) → BadValue depth_left k 5 q [] w
bad_fixed32_value depth_left k q w h = λ o before p tag. RecordFault.fixed32 tag h refl

pub bad_bytes_value :
    (depth_left k : ℕ) (q : Place) (w : WireFault) → LengthFault q (fault w.byte [] w.cause) ⊎ CutFault q (fault w.byte [] w.cause)
    → BadValue depth_left k 2 q [] w
bad_bytes_value depth_left k q w (inl h) = λ o before p tag. RecordFault.length_of tag tt h refl
bad_bytes_value depth_left k q w (inr h) = λ o before p tag. RecordFault.cut_payload tag (inl refl) h refl

pub bad_group_value :
    (depth_left k : ℕ) (q : Place) (steps : List PathStep) (w : WireFault) → 0 < depth_left → BadFrom (depth_left - 1) (Some k) q steps w
    → BadValue depth_left k 3 q steps w
bad_group_value zero k q steps w h bad = absurd (omega arith)
bad_group_value (suc n) k q steps w h bad =
    let e : suc n - 1 ≡ n = omega arith in
    let inner = rw e at bad in
    λ o before p tag. RecordFault.in_a_group tag inner refl

pub value_from_group :
    (depth_left k : ℕ) (q : Place) (steps : List PathStep) (e : ReadError) → 0 < depth_left → IfFault e (BadFrom (depth_left - 1) (Some k) q steps)
    → IfFault e (BadValue depth_left k 3 q steps)
value_from_group depth_left k q steps (errors.Fault w) h bad = bad_group_value depth_left k q steps w h bad
value_from_group depth_left k q steps errors.Memory h bad = tt

-- a value has a fault, after a prefix of whole records
pub bad_after :
    (innermost : Option ℕ) (b : List ℕ) (at here start depth_left k code : ℕ) (rs : List Record) (old new : List PathStep) (e : ReadError)
    → (innermost ≡ None → here < length b) → (front : Front depth_left (place b at) rs (place b here)) → HasTag (place b here) k code (place b start)
    → new ≡ old ++ step k rs ∷ [] → IfFault e (BadValue depth_left k code (place b start) old)
    → IfFault e (BadFrom depth_left innermost (place b at) new)
bad_after innermost b at here start depth_left k code rs old new errors.Memory goes front tag e bad = tt
bad_after innermost b at here start depth_left k code rs old new (errors.Fault w) goes front tag e bad =
    let last : reverse new ≡ step k rs ∷ reverse old = ap reverse e ∙ reverse-append old (step k rs ∷ []) in
    rw last (bad_from innermost b at here depth_left rs (fault w.byte (step k rs ∷ reverse old) w.cause) goes front
    (bad (opened innermost) rs (place b here) tag))

-- a fault of the bytes within the limit
pub from_front :
    (e : RawError) (limits : Bounds) (b : List ℕ) (steps : List PathStep) (max depth_left : ℕ) (w : WireFault) → limits.bytes < length b
    → max ≡ limits.bytes → depth_left ≡ limits.depth → BadFrom depth_left None (place (take max b) 0) steps w
    → IfRawFault e (λ f. f ≡ beyond max (fault w.byte (reverse steps) w.cause)) → IfRawFault e (HasFault blank tt limits b)
from_front raw.Memory limits b steps max depth_left w long is_max is_depth bad told = tt
from_front (raw.Fault byte path cause) limits b steps max depth_left w long is_max is_depth bad told =
    HasFault.bad_front long (rw (is_max, is_depth) at bad) (rw (← is_max) told)

-- the records of a number among those that a list means
pub same_count : (k : ℕ) (xs : List (ℕ × Unknown)) → length (filter (λ r. r.number == k) (records_of xs)) ≡ length (filter (λ x. x.0 == k) xs)
same_count k [] = refl
same_count k (x ∷ xs) = by_test (x.0 == k) (same_count k xs)
  where
    records_after : List Record
    records_after = filter (λ r. r.number == k) (records_of xs)

    after : List (ℕ × Unknown)
    after = filter (λ y. y.0 == k) xs

    by_test :
        (t : Bool) → length records_after ≡ length after
        → length (cond t (record { number = x.0; payload = payload_of x.1 } ∷ records_after) records_after) ≡ length (cond t (x ∷ after) after)
    by_test true e = ap suc e
    by_test false e = e
