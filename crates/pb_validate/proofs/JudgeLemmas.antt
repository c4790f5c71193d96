-- Whole records from one place to another, and what refuses the others.
use Rattle.std.proofs.Common.{◌≡◌, ◌≢◌, ℕ, zero, suc, ◌+◌, ◌-◌, ◌<◌, ◌≤◌, ◌^◌, List, [], ◌∷◌, ◌++◌, length, take, drop, refl, sym, ap, subst, ◌∙◌, arith, length-drop, Option, Some, None, Result, Ok, Err, inl, inr, ◌⊎◌}
use Rattle.std.specs.Prelude.{reverse, IfOk, IfErr, IsErrAnd}
use Rattle.std.specs.Result.{result_ok}
use Rattle.std.proofs.lemmas.List.{reverse-append, take_at, length-take}
use Rattle.pb_wire.specs.Record.{Payload, varint, fixed64, fixed32, len, group, Record, group_of}
use Rattle.pb_wire.specs.Spell.{Body, Spells, AreRecords}
use Rattle.pb_wire.specs.Fault.{Fault, fault, step, inside, Place, window, Leads, Reads, HasTag, HasLength, VarintFault, TagFault}
use Rattle.pb_wire.specs.Schema.{Schema, blank, Element, unread, text, message, same_level, packed, Open, records, in_group}
use Rattle.pb_wire.specs.Sound.{Sound, AllSound}
use Rattle.pb_wire.specs.Grammar.{Bad, RecordFault, Begins, HasFault, beyond}
use Rattle.pb_wire.specs.Exact.{IsOver, IsSomeText}
use Rattle.pb_wire.specs.Limits.{Bounds}
use Rattle.pb_wire.specs.Scan.{given_at, NumberFault}
use Rattle.pb_wire.specs.declared.scan.Number.TheVariants as number
use Rattle.pb_wire.specs.declared.fault.Cause.TheVariants.{TooDeep, PastEnd}
use Rattle.pb_wire.specs.declared.fault.PathStep.{PathStep}
use Rattle.pb_wire.specs.declared.fault.WireFault.{WireFault}
use Rattle.pb_wire.specs.declared.fault.RawError.{RawError}
use Rattle.pb_wire.specs.declared.fault.RawError.TheVariants as raw
use Rattle.pb_wire.specs.Reading.{IfRawFault}
use Rattle.pb_wire.proofs.Places.{moves_nothing, none_before, fewer}
use Rattle.pb_wire.proofs.Tokens.{ends_some, known_is}
use Rattle.pb_wire.proofs.ReadingLemmas.{moves_both, AreRecords-push, AllSound-push, SpellsGroup-from_records}
use Rattle.pb_wire.proofs.ExactLemmas.{text_not_both, one_text_fault}
use Rattle.pb_wire.proofs.Fronts.{ValueAt, record_of}
use Rattle.pb_wire.proofs.OneFault.{bad_not_record}
use Rattle.pb_schema.specs.Types.{Types}
use Rattle.pb_schema.specs.Context.{Context, schema_of, group_in}
use Rattle.pb_validate.specs.declared.refusal.Refusal.{Refusal}
use Rattle.pb_validate.specs.declared.refusal.Refusal.TheVariants as refusal
use Rattle.pb_wire.specs.Scan.{here}
use Rattle.pb_validate.specs.Payloads.{IsNumberOfType, ReadsPayload, UnreadFault, TextFault, ListFault, MessageFault}
use Rattle.pb_validate.specs.Judging.{Front, ReadsAll, ReadsValue, ReadsRecord, opened, Refuses, RefusesBelow, IsRefusal, IsFault}
use Rattle.pb_validate.specs.Whole.{AreWhole}
use Rattle.pb_validate.proofs.HereLemmas.{payload_leads}

-- ---- answers

-- what is open from p on is refused, and the record of a number that begins there
abbrev pub Refused : Types → Open Context → ℕ → Place → Refusal → List PathStep → Type 0
Refused pool o levels p e steps = Refuses e steps (Bad (schema_of pool) o levels p)

abbrev pub RefusedOne : Types → Open Context → ℕ → ℕ → Place → Refusal → List PathStep → Type 0
RefusedOne pool o levels k p e steps =
    (before : List Record) → RefusesBelow e (step k before) steps (RecordFault (schema_of pool) o before levels p)

pub ok_map : {A E : Type 0} (r : Result A E) (P Q : A → Type 0) → ((a : A) → P a → Q a) → IfOk r P → IfOk r Q
ok_map (Ok a) P Q f h = f a h
ok_map (Err e) P Q f h = tt

pub err_map : {A E : Type 0} (r : Result A E) (P Q : E → Type 0) → ((e : E) → P e → Q e) → IfErr r P → IfErr r Q
err_map (Ok a) P Q f h = tt
err_map (Err e) P Q f h = f e h

pub both_ok : {A E : Type 0} (r : Result A E) (P Q R : A → Type 0) → ((a : A) → P a → Q a → R a) → IfOk r P → IfOk r Q → IfOk r R
both_ok (Ok a) P Q R f h g = f a h g
both_ok (Err e) P Q R f h g = tt

pub refuses_map : (e : Refusal) (steps : List PathStep) (P Q : Fault → Type 0) → ((f : Fault) → P f → Q f) → Refuses e steps P → Refuses e steps Q
refuses_map (refusal.Fault w) steps P Q g h = g (fault w.byte (reverse steps) w.cause) h
refuses_map refusal.Memory steps P Q g h = (h.0, g h.0 h.1)

-- ---- whole records

mutual
  blank_one : {S : Schema} {c : S.Context} {depth_left k : ℕ} {p : Payload} → Sound S c depth_left k p → Sound blank tt depth_left k p
  blank_one Sound.is_varint = Sound.is_varint
  blank_one Sound.is_fixed64 = Sound.is_fixed64
  blank_one Sound.is_fixed32 = Sound.is_fixed32
  blank_one (Sound.some_bytes e) = Sound.some_bytes refl
  blank_one (Sound.a_text e u) = Sound.some_bytes refl
  blank_one (Sound.a_list e l) = Sound.some_bytes refl
  blank_one (Sound.a_message e r s) = Sound.some_bytes refl
  blank_one (Sound.a_value e r s) = Sound.some_bytes refl
  blank_one (Sound.a_group e s) = Sound.a_group e (blank_sound s)

  -- records that are sound by a schema are sound where no field is known
  pub blank_sound : {S : Schema} {c : S.Context} {depth_left : ℕ} {rs : List Record} → AllSound S c depth_left rs → AllSound blank tt depth_left rs
  blank_sound AllSound.none = AllSound.none
  blank_sound (AllSound.one s others) = AllSound.one (blank_one s) (blank_sound others)

pub front_none : (S : Schema) (c : S.Context) (depth_left : ℕ) (p : Place) → Front S c depth_left p [] p
front_none S c depth_left p = record { spelled = ([], refl, moves_nothing p); sound = AllSound.none }

pub front_push :
    {S : Schema} {c : S.Context} {depth_left k w : ℕ} {p q s r : Place} (rs : List Record) (payload : Payload) → Front S c depth_left p rs q → HasTag q k w s
    → ReadsValue S c depth_left k w s payload r → Front S c depth_left p (rs ++ record { number = k; payload = payload } ∷ []) r
front_push {S} {c} {depth_left} {k} {w} {p} {q} {s} {r} rs payload f tag value =
    let the_record : Record = record { number = k; payload = payload } in
    let spelled : Spells the_record (tag.tag.0 ++ value.spelled.0) = record {
      number = tag.number;
      tag = tag.tag.0;
      tagged = rw value.type tag.tag.1;
      body = value.spelled.0;
      follows = value.spelled.1;
      joined = refl;
    } in
    record {
      spelled = (
        f.spelled.0 ++ (tag.tag.0 ++ value.spelled.0),
        AreRecords-push rs the_record _ _ f.spelled.1 spelled,
        moves_both _ _ f.spelled.2 (moves_both _ _ tag.tag.2 value.spelled.2),
      );
      sound = AllSound-push rs the_record f.sound value.sound;
    }

-- the bytes between two places spell the records
pub records_between :
    {S : Schema} {c : S.Context} (depth_left : ℕ) (b : List ℕ) (at end : ℕ) (to : Option ℕ) (rs : List Record)
    → Front S c depth_left (here b at to) rs (here b end to) → AreRecords rs (take (end - at) (drop at b))
records_between depth_left b at end to rs front =
    let moves = front.spelled.2 in
    let size : length front.spelled.0 ≡ end - at = let e = moves.at in omega (arith, e) in
    subst (AreRecords rs) (sym (ap (take (end - at)) moves.given ∙ take_at front.spelled.0 (drop end b) (end - at) size)) front.spelled.1

-- the records of a group, as its payload
pub group_value :
    (S : Schema) (c : S.Context) (levels k : ℕ) (p q : Place) → 0 < levels
    → (rs : List Record) × ReadsAll S (in_group k (S.group_context c k)) (levels - 1) p rs q → (payload : Payload) × ReadsValue S c levels k 3 p payload q
group_value S c zero k p q some all = absurd (omega arith)
group_value S c (suc n) k p q some (rs, all) =
    let e : suc n - 1 ≡ n = omega arith in
    let front = all.1 in
    let tag = all.2 in
    let sound = rw e at front.sound in (
      group (group_of rs),
      record {
        type = refl;
        spelled = (
          front.spelled.0 ++ tag.tag.0,
          (front.spelled.0, tag.tag.0, SpellsGroup-from_records rs _ front.spelled.1, tag.tag.1, refl),
          moves_both _ _ front.spelled.2 tag.tag.2,
        );
        sound = Sound.a_group refl sound;
      },
    )

pub number_value :
    (S : Schema) (c : S.Context) (levels k w : ℕ) (p q : Place) → IsNumberOfType w p q → (payload : Payload) × ReadsValue S c levels k w p payload q
number_value S c levels k w p q (number.Varint n, type, follows) =
    (varint n, record { type = type; spelled = follows; sound = Sound.is_varint })
number_value S c levels k w p q (number.I64 n, type, follows) =
    (fixed64 n, record { type = type; spelled = follows; sound = Sound.is_fixed64 })
number_value S c levels k w p q (number.I32 n, type, follows) =
    (fixed32 n, record { type = type; spelled = follows; sound = Sound.is_fixed32 })

-- a varint is a number of the wire type 0
pub varint_number : {p q : Place} (n : ℕ) → Reads p n q → IsNumberOfType 0 p q
varint_number n reads =
    let is = reads.1.value in
    let small : n < 2 ^ 64 = omega (arith, is) in
    (number.Varint n, refl, (reads.0, (small, reads.1), reads.2))

pub message_sound :
    (S : Schema) (c d : S.Context) (levels k : ℕ) (s : List ℕ) (rs : List Record) → 0 < levels → S.reading c k ≡ message d → AreRecords rs s
    → AllSound S d (levels - 1) rs → Sound S c levels k (len s)
message_sound S c d zero k s rs some read spelled sound = absurd (omega arith)
message_sound S c d (suc n) k s rs some read spelled sound =
    let e : suc n - 1 ≡ n = omega arith in Sound.a_message read spelled (rw e at sound)

-- the records of a payload, whose end is known
pub message_whole :
    (S : Schema) (c : S.Context) (levels : ℕ) (b : List ℕ) (at start size end : ℕ) (to : Option ℕ) → HasLength (here b at to) size (here b start to)
    → end ≤ length b → (rs : List Record) × ReadsAll S (records c) levels (here b start (Some (start + size))) rs (here b end (Some (start + size)))
    → ReadsPayload (AreWhole S c levels) (here b at to) (here b end to)
message_whole S c levels b at start size end to l within (rs, all) =
    let front = all.0 in
    let moves = front.spelled.2 in
    let past : start + size ≤ end = ends all.1 in
    let n : length front.spelled.0 ≡ size = let h = moves.at in let w = moves.within in omega (arith, h, w, past) in
    let there : start + size ≡ end = let h = moves.at in omega (arith, h, n) in
    let same : front.spelled.0 ≡ take size (drop start b) = sym (ap (take size) moves.given ∙ take_at front.spelled.0 (drop end b) size n) in (
      take size (drop start b),
      (rs, subst (AreRecords rs) same front.spelled.1, front.sound),
      λ k. subst (λ (z : ℕ). Leads (Body k (len (take size (drop start b)))) (here b at to) (here b z to)) there
          (payload_leads b at start size to l (omega (arith, there, within)) k),
    )
  where
    ends : IsOver (here b end (Some (start + size))) → start + size ≤ end
    ends (inl e) = let z : start + size - end ≡ 0 = cc in omega (arith, z)
    ends (inr e) = let none = e.0 in absurd cc

-- ---- faults

-- a record begins before the end of the input, where there is no known end
pub begins_given :
    (g : Option ℕ) (c : Context) (b : List ℕ) (at : ℕ) (to : Option ℕ) → g ≡ None → to ≡ None → at ≤ length b → (at ≡ length b → ⊥)
    → Begins (opened g c) (here b at to)
begins_given None c b at None no_group no_end within more =
    (λ e. cc, λ _ e. let n : length (drop at b) ≡ 0 = ap length e in let left = length-drop at b in more (omega (arith, n, left, within)))
begins_given None c b at (Some n) no_group no_end within more = absurd cc
begins_given (Some k) c b at to no_group no_end within more = absurd cc

-- a record begins where a tag does
begins_number : (g : Option ℕ) (c : Context) {q u : Place} {n : ℕ} → Reads q n u → Begins (opened g c) q
begins_number g c {q} {u} {n} h = by_group g
  where
    not_at_end : q.known ≡ Some 0 → ⊥
    not_at_end e = let none = none_before h.0 h.2 e in let some = ends_some h.0 h.1.ends in omega (arith, none, some)

    not_in_nothing : q.rest ≡ [] → ⊥
    not_in_nothing e = let all = fewer h.0 h.2 in let some = ends_some h.0 h.1.ends in let nothing : length q.rest ≡ 0 = ap length e in omega (arith, all, some, nothing)

    by_group : (g : Option ℕ) → Begins (opened g c) q
    by_group None = (not_at_end, λ known e. not_in_nothing e)
    by_group (Some k) = not_at_end

pub bad_from :
    (pool : Types) (g : Option ℕ) (c : Context) (levels : ℕ) (p q : Place) (rs : List Record) (f : Fault)
    → Front (schema_of pool) c levels p rs q → Begins (opened g c) q → RecordFault (schema_of pool) (opened g c) rs levels q f
    → Bad (schema_of pool) (opened g c) levels p f
bad_from pool None c levels p q rs f front begins bad = Bad.at_record (rs, front.spelled.1, front.sound) front.spelled.2 begins bad
bad_from pool (Some k) c levels p q rs f front begins bad = Bad.at_record (rs, front.spelled.1, front.sound) front.spelled.2 begins bad

-- nothing lies before a known end
window_none : (at : ℕ) (known : Option ℕ) (rest : List ℕ) → known ≡ Some 0 → length (window (given_at at known rest)) ≡ 0
window_none at None rest e = absurd cc
window_none at (Some n) rest e = let z : n ≡ 0 = cc in let l = length-take n rest in omega (arith, z, l)

no_number : {q u : Place} {n : ℕ} → q.known ≡ Some 0 → Reads q n u → ⊥
no_number e h = let none = none_before h.0 h.2 e in let some = ends_some h.0 h.1.ends in omega (arith, none, some)

-- at the known end a tag passes it
tag_past_end : (g : Option ℕ) (q : Place) (f : Fault) → q.known ≡ Some 0 → TagFault g q f → f ≡ fault q.at [] PastEnd
tag_past_end g q f e (TagFault.token (VarintFault.too_long some high is)) = absurd (let n = window_none q.at q.known q.rest e in omega (arith, n, some))
tag_past_end g q f e (TagFault.token (VarintFault.past_end few high known is)) = is
tag_past_end g q f e (TagFault.token (VarintFault.cut_short few high unknown is)) =
    absurd (unknown (e ∙ ap (λ (n : ℕ). Some n) (sym (window_none q.at q.known q.rest e))))
tag_past_end g q f e (TagFault.too_large reads large is) = absurd (no_number e reads)
tag_past_end g q f e (TagFault.number_zero reads small is) = absurd (no_number e reads)
tag_past_end g q f e (TagFault.bad_type reads some small type is) = absurd (no_number e reads)
tag_past_end g q f e (TagFault.stray_end has none is) = absurd (no_number e has.tag)
tag_past_end g q f e (TagFault.wrong_end has open_is other is) = absurd (no_number e has.tag)

-- a tag that is refused, after whole records
pub tag_refused :
    (pool : Types) (g : Option ℕ) (c : Context) (levels : ℕ) (p q : Place) (rs : List Record) (f : Fault)
    → Front (schema_of pool) c levels p rs q → (g ≡ None → Begins (opened g c) q) → TagFault g q f → Bad (schema_of pool) (opened g c) levels p f
tag_refused pool None c levels p q rs f front goes bad = bad_from pool None c levels p q rs f front (goes refl) (RecordFault.tag bad)
tag_refused pool (Some k) c levels p q rs f front goes bad = by_end (known_is q.known 0)
  where
    by_end : (q.known ≡ Some 0) ⊎ (q.known ≢ Some 0) → Bad (schema_of pool) (in_group k c) levels p f
    by_end (inl e) = Bad.at_end refl (rs, front.spelled.1, front.sound) front.spelled.2 e (tag_past_end (Some k) q f e bad)
    by_end (inr open_here) = bad_from pool (Some k) c levels p q rs f front open_here (RecordFault.tag bad)

-- a record that is refused, after whole records
pub record_refused :
    (pool : Types) (g : Option ℕ) (c : Context) (levels k w : ℕ) (p q u : Place) (rs : List Record) (old new : List PathStep) (e : Refusal)
    → Front (schema_of pool) c levels p rs q → HasTag q k w u → new ≡ old ++ step k rs ∷ [] → RefusedOne pool (opened g c) levels k q e old
    → Refused pool (opened g c) levels p e new
record_refused pool g c levels k w p q u rs old new (refusal.Fault f) front tag is bad =
    let last : reverse new ≡ step k rs ∷ reverse old = ap reverse is ∙ reverse-append old (step k rs ∷ []) in
    rw last (bad_from pool g c levels p q rs (fault f.byte (step k rs ∷ reverse old) f.cause) front (begins_number g c tag.tag) (bad rs))
record_refused pool g c levels k w p q u rs old new refusal.Memory front tag is bad =
    let h = bad rs in (h.0, bad_from pool g c levels p q rs h.0 front (begins_number g c tag.tag) h.1)

-- there is a fault where its path can't be kept
pub some_fault :
    (pool : Types) (g : Option ℕ) (c : Context) (levels k w : ℕ) (p q u : Place) (rs : List Record) (old : List PathStep) (e : Refusal)
    → Front (schema_of pool) c levels p rs q → HasTag q k w u → RefusedOne pool (opened g c) levels k q e old
    → (f : Fault) × Bad (schema_of pool) (opened g c) levels p f
some_fault pool g c levels k w p q u rs old (refusal.Fault f) front tag bad =
    (fault f.byte (step k rs ∷ reverse old) f.cause, bad_from pool g c levels p q rs _ front (begins_number g c tag.tag) (bad rs))
some_fault pool g c levels k w p q u rs old refusal.Memory front tag bad =
    let h = bad rs in (h.0, bad_from pool g c levels p q rs h.0 front (begins_number g c tag.tag) h.1)

-- a record that is refused is none
pub refused_is_none :
    {A : Type 0} (result : Result A Refusal) (pool : Types) (g : Option ℕ) (c : Context) (levels k w : ℕ) (p q : Place) (steps : List PathStep)
    → IfErr result (λ e. RefusedOne pool (opened g c) levels k p e steps) → HasTag p k w q → result_ok result ≡ None
    → (r : Place) → ReadsRecord (schema_of pool) c levels k w q r → ⊥
refused_is_none (Ok a) pool g c levels k w p q steps err tag none r v = absurd cc
refused_is_none (Err e) pool g c levels k w p q steps err tag none r (payload, v) = by_refusal g e err
  where
    value : ValueAt (schema_of pool) c levels k w q r
    value = record { payload = payload; type = v.type; body = v.spelled.0; spelled = v.spelled.1; sound = v.sound; moves = v.spelled.2 }

    by_refusal : (g : Option ℕ) (e : Refusal) → RefusedOne pool (opened g c) levels k p e steps → ⊥
    by_refusal None (refusal.Fault w) bad = bad_not_record (bad []) (record_of tag value)
    by_refusal None refusal.Memory bad = bad_not_record (bad []).1 (record_of tag value)
    by_refusal (Some m) (refusal.Fault w) bad = bad_not_record (bad []) (record_of tag value)
    by_refusal (Some m) refusal.Memory bad = bad_not_record (bad []).1 (record_of tag value)

-- ---- faults of one record

-- a fault of what follows the tag
pub below_tag :
    (pool : Types) (o : Open Context) (levels k : ℕ) (p : Place) (e : Refusal) (steps : List PathStep) (P : Fault → Type 0)
    → ((before : List Record) (f : Fault) → P f → RecordFault (schema_of pool) o before levels p (inside (step k before) f)) → Refuses e steps P
    → RefusedOne pool o levels k p e steps
below_tag pool o levels k p (refusal.Fault w) steps P g h = λ before. g before (fault w.byte (reverse steps) w.cause) h
below_tag pool o levels k p refusal.Memory steps P g h = λ before. (inside (step k before) h.0, g before h.0 h.1)

pub group_too_deep :
    (pool : Types) (o : Open Context) (levels k : ℕ) (p q : Place) (w : WireFault) (steps : List PathStep) → HasTag p k 3 q → levels ≡ 0 → steps ≡ []
    → w ≡ record { byte = p.at; cause = TooDeep } → RefusedOne pool o levels k p (refusal.Fault w) steps
group_too_deep pool o levels k p q w steps tag none no_steps is = λ before. rw (no_steps, is) (RecordFault.group_too_deep tag none refl)

pub message_too_deep :
    (pool : Types) (g : Option ℕ) (c d : Context) (levels k : ℕ) (p q : Place) (w : WireFault) (steps : List PathStep) → HasTag p k 2 q
    → (schema_of pool).reading c k ≡ message d → levels ≡ 0 → steps ≡ [] → w ≡ record { byte = p.at; cause = TooDeep }
    → RefusedOne pool (opened g c) levels k p (refusal.Fault w) steps
message_too_deep pool None c d levels k p q w steps tag read none no_steps is =
    λ before. rw (no_steps, is) (RecordFault.message_too_deep tag read none refl)
message_too_deep pool (Some m) c d levels k p q w steps tag read none no_steps is =
    λ before. rw (no_steps, is) (RecordFault.message_too_deep tag read none refl)

pub number_bad :
    (pool : Types) (o : Open Context) (levels k w : ℕ) (p q : Place) → HasTag p k w q → (before : List Record) (f : Fault) → NumberFault w q f
    → RecordFault (schema_of pool) o before levels p (inside (step k before) f)
number_bad pool o levels k w p q tag before f (NumberFault.a_varint e h) = RecordFault.varint (rw e at tag) h refl
number_bad pool o levels k w p q tag before f (NumberFault.eight_bytes e h) = RecordFault.fixed64 (rw e at tag) h refl
number_bad pool o levels k w p q tag before f (NumberFault.four_bytes e h) = RecordFault.fixed32 (rw e at tag) h refl

pub group_bad :
    (pool : Types) (g : Option ℕ) (c : Context) (levels k : ℕ) (p q : Place) → 0 < levels → HasTag p k 3 q → (before : List Record) (f : Fault)
    → Bad (schema_of pool) (in_group k (group_in pool c k)) (levels - 1) q f
    → RecordFault (schema_of pool) (opened g c) before levels p (inside (step k before) f)
group_bad pool g c zero k p q some tag before f bad = absurd (omega arith)
group_bad pool None c (suc n) k p q some tag before f bad =
    let e : suc n - 1 ≡ n = omega arith in RecordFault.in_a_group tag (rw e at bad) refl
group_bad pool (Some m) c (suc n) k p q some tag before f bad =
    let e : suc n - 1 ≡ n = omega arith in RecordFault.in_a_group tag (rw e at bad) refl

pub unread_bad :
    (pool : Types) (g : Option ℕ) (c : Context) (levels k : ℕ) (p q : Place) → HasTag p k 2 q → (schema_of pool).reading c k ≡ unread
    → (before : List Record) (f : Fault) → UnreadFault q f → RecordFault (schema_of pool) (opened g c) before levels p (inside (step k before) f)
unread_bad pool None c levels k p q tag read before f (UnreadFault.a_length h) = RecordFault.length_of tag (rw read tt) h refl
unread_bad pool None c levels k p q tag read before f (UnreadFault.cut h) = RecordFault.cut_payload tag (inl read) h refl
unread_bad pool (Some m) c levels k p q tag read before f (UnreadFault.a_length h) = RecordFault.length_of tag (rw read tt) h refl
unread_bad pool (Some m) c levels k p q tag read before f (UnreadFault.cut h) = RecordFault.cut_payload tag (inl read) h refl

pub text_bad :
    (pool : Types) (g : Option ℕ) (c : Context) (levels k : ℕ) (p q : Place) → HasTag p k 2 q → (schema_of pool).reading c k ≡ text
    → (before : List Record) (f : Fault) → TextFault q f → RecordFault (schema_of pool) (opened g c) before levels p (inside (step k before) f)
text_bad pool None c levels k p q tag read before f (TextFault.unread (UnreadFault.a_length h)) = RecordFault.length_of tag (rw read tt) h refl
text_bad pool None c levels k p q tag read before f (TextFault.unread (UnreadFault.cut h)) = RecordFault.cut_payload tag (inr read) h refl
text_bad pool None c levels k p q tag read before f (TextFault.bad_text l given not_utf8 is) = RecordFault.bad_text tag read l given not_utf8 (rw is refl)
text_bad pool (Some m) c levels k p q tag read before f (TextFault.unread (UnreadFault.a_length h)) = RecordFault.length_of tag (rw read tt) h refl
text_bad pool (Some m) c levels k p q tag read before f (TextFault.unread (UnreadFault.cut h)) = RecordFault.cut_payload tag (inr read) h refl
text_bad pool (Some m) c levels k p q tag read before f (TextFault.bad_text l given not_utf8 is) = RecordFault.bad_text tag read l given not_utf8 (rw is refl)

pub list_bad :
    (pool : Types) (g : Option ℕ) (c : Context) (e : Element) (levels k : ℕ) (p q : Place) → HasTag p k 2 q → (schema_of pool).reading c k ≡ packed e
    → (before : List Record) (f : Fault) → ListFault e q f → RecordFault (schema_of pool) (opened g c) before levels p (inside (step k before) f)
list_bad pool None c e levels k p q tag read before f (ListFault.a_length h) = RecordFault.length_of tag (rw read tt) h refl
list_bad pool None c e levels k p q tag read before f (ListFault.elements l bad) = RecordFault.in_a_list tag read l bad refl
list_bad pool (Some m) c e levels k p q tag read before f (ListFault.a_length h) = RecordFault.length_of tag (rw read tt) h refl
list_bad pool (Some m) c e levels k p q tag read before f (ListFault.elements l bad) = RecordFault.in_a_list tag read l bad refl

pub message_bad :
    (pool : Types) (g : Option ℕ) (c d : Context) (levels k : ℕ) (p q : Place) → 0 < levels → HasTag p k 2 q → (schema_of pool).reading c k ≡ message d
    → (before : List Record) (f : Fault) → MessageFault (schema_of pool) d (levels - 1) q f
    → RecordFault (schema_of pool) (opened g c) before levels p (inside (step k before) f)
message_bad pool g c d zero k p q some tag read before f bad = absurd (omega arith)
message_bad pool None c d (suc n) k p q some tag read before f (MessageFault.a_length h) = RecordFault.length_of tag (rw read some) h refl
message_bad pool None c d (suc n) k p q some tag read before f (MessageFault.inside l bad) =
    let e : suc n - 1 ≡ n = omega arith in RecordFault.in_a_message tag read l (rw e at bad) refl
message_bad pool (Some m) c d (suc n) k p q some tag read before f (MessageFault.a_length h) = RecordFault.length_of tag (rw read some) h refl
message_bad pool (Some m) c d (suc n) k p q some tag read before f (MessageFault.inside l bad) =
    let e : suc n - 1 ≡ n = omega arith in RecordFault.in_a_message tag read l (rw e at bad) refl

pub value_bad :
    (pool : Types) (g : Option ℕ) (c d : Context) (levels k : ℕ) (p q : Place) → HasTag p k 2 q → (schema_of pool).reading c k ≡ same_level d
    → (before : List Record) (f : Fault) → MessageFault (schema_of pool) d levels q f
    → RecordFault (schema_of pool) (opened g c) before levels p (inside (step k before) f)
value_bad pool None c d levels k p q tag read before f (MessageFault.a_length h) = RecordFault.length_of tag (rw read tt) h refl
value_bad pool None c d levels k p q tag read before f (MessageFault.inside l bad) = RecordFault.in_a_value tag read l bad refl
value_bad pool (Some m) c d levels k p q tag read before f (MessageFault.a_length h) = RecordFault.length_of tag (rw read tt) h refl
value_bad pool (Some m) c d levels k p q tag read before f (MessageFault.inside l bad) = RecordFault.in_a_value tag read l bad refl

-- ---- whole inputs

-- a fault of the bytes within the limit
pub from_front :
    (S : Schema) (c : S.Context) (limits : Bounds) (b : List ℕ) (e : RawError) (max levels : ℕ) (f : Fault) → limits.bytes < length b
    → max ≡ limits.bytes → levels ≡ limits.depth → Bad S (records c) levels (here (take max b) 0 None) f → IsFault e (λ g. g ≡ beyond max f)
    → IsRefusal e (HasFault S c limits b)
from_front S c limits b raw.Memory max levels f long is deep bad reported = absurd reported
from_front S c limits b (raw.Fault byte path cause) max levels f long is deep bad reported = HasFault.bad_front long (rw (is, deep) at bad) (rw (← is) reported)

pub some_front :
    (S : Schema) (c : S.Context) (limits : Bounds) (b : List ℕ) (max levels : ℕ) → limits.bytes < length b → max ≡ limits.bytes
    → levels ≡ limits.depth → (f : Fault) × Bad S (records c) levels (here (take max b) 0 None) f → (f : Fault) × HasFault S c limits b f
some_front S c limits b max levels long is deep (f, bad) = (beyond limits.bytes f, HasFault.bad_front long (rw (is, deep) at bad) refl)

pub accepted :
    (S : Schema) (c : S.Context) (limits : Bounds) (b : List ℕ) (r : Result Unit RawError) → IfErr r (λ e. IsRefusal e (HasFault S c limits b))
    → IsSomeText S c limits b → r ≡ Ok tt
accepted S c limits b (Ok u) fault whole = refl
accepted S c limits b (Err raw.Memory) fault whole = absurd (text_not_both fault.1 whole)
accepted S c limits b (Err (raw.Fault byte path cause)) fault whole = absurd (text_not_both fault whole)

pub refused :
    (S : Schema) (c : S.Context) (limits : Bounds) (b : List ℕ) (r : Result Unit RawError) → IfOk r (λ _. IsSomeText S c limits b)
    → IfErr r (λ e. IsRefusal e (HasFault S c limits b)) → (f : Fault) → HasFault S c limits b f → IsErrAnd r (λ e. IfRawFault e (λ g. g ≡ f))
refused S c limits b (Ok u) whole fault f h = text_not_both h whole
refused S c limits b (Err raw.Memory) whole fault f h = tt
refused S c limits b (Err (raw.Fault byte path cause)) whole fault f h = one_text_fault fault h
