-- Records that are read and looked through at once: whole ones, and what refuses the others.
use Rattle.std.proofs.Common.{◌≡◌, ◌≢◌, ℕ, zero, suc, ◌+◌, ◌*◌, ◌-◌, ◌<◌, ◌≤◌, ◌^◌, List, [], ◌∷◌, ◌++◌, length, take, drop, refl, sym, ap, subst, ◌∙◌, arith, length-drop, Option, Some, None, inl, inr, ⊎_elim, IsUtf8}
use Rattle.std.specs.Borrow.{Bor}
use Rattle.std.specs.Prelude.{true, false, is_some, option_and_then, IfSome, MatchOption}
use Rattle.std.proofs.lemmas.List.{take_all, take_at, drop_all, length-take, append-nil}
use Rattle.pb_wire.specs.Record.{Payload, varint, fixed64, len, group, fixed32, Record, group_of, wire_type}
use Rattle.pb_wire.specs.Inside.{records_inside}
use Rattle.pb_wire.specs.Spell.{Body, AreRecords}
use Rattle.pb_wire.specs.Fault.{Place, Moves, Leads, HasTag, HasLength, Fault, TagFault}
use Rattle.pb_wire.specs.Schema.{Schema, records, in_group, message, text}
use Rattle.pb_wire.specs.Sound.{Sound, AllSound}
use Rattle.pb_wire.specs.Grammar.{Whole}
use Rattle.pb_wire.specs.Exact.{IsOver, IsRead}
use Rattle.pb_wire.proofs.DepthLemmas.{sound_higher}
use Rattle.pb_wire.proofs.Fronts.{RecordAt, ValueAt, align, record_parts, value_at, not_end_tag, len_value, group_value, sound_text, sound_message, sound_group, AreRecords-from_group}
use Rattle.pb_wire.proofs.OneFault.{not_both, no_tag_at_end}
use Rattle.pb_wire.proofs.Places.{fewer, moves_from, moves_split}
use Rattle.pb_wire.proofs.ReadingLemmas.{moves_both, SpellsGroup-from_records}
use Rattle.pb_wire.proofs.Tokens.{ends_some, one_tag, one_length, length_not_both, cut_not_both}
use Rattle.pb_schema.specs.declared.types.Kind.{Kind}
use Rattle.pb_schema.specs.declared.types.Kind.TheVariants.{Text}
use Rattle.pb_schema.specs.Kinds.{wire_type_of, message_of_kind, closed_enum, read}
use Rattle.pb_schema.specs.Types.{FieldView, Types, message_fields, field_numbered}
use Rattle.pb_schema.specs.Context.{Context, a_message, schema_of}
use Rattle.pb_schema.specs.Scalar.{Scalar, text as a_text}
use Rattle.pb_schema.specs.View.{field_view}
use Rattle.pb_validate.specs.Here.{here}
use Rattle.pb_validate.specs.Judging.{Front, ReadsAll, ReadsValue, opened}
use Rattle.pb_validate.specs.Payloads.{UnreadFault}
use Rattle.pb_validate.proofs.HereLemmas.{payload_between}
use Rattle.pb_validate.proofs.JudgeLemmas.{front_none, front_push, records_between, blank_sound, begins_given, tag_refused, message_sound}
use Rattle.pb_wire.specs.declared.scan_at.RecordTag.{RecordTag}
use Rattle.pb_find.specs.declared.level.Target.{Target}
use Rattle.pb_find.specs.declared.level.Level.{Level}
use Rattle.pb_find.specs.Loops.{IsOne}
use Rattle.pb_find.specs.Found.{is_single, target, counts_for, kept, after_record, found}
use Rattle.pb_find.specs.Walk.{record_at, CanRead, IsAfterTag, IsRecord, LeadsInto, IsPlain, NoRecord, Breaks, after_target, after}
use Rattle.pb_find.proofs.TargetLemmas.{target_is, message_type_of, reads_message, reads_group, counts_fits, counts_open, closed_message, message_counts, scalar_counts}

-- how much of a path is left, with the field that it leads to
abbrev pub path_left : Option Target → ℕ
path_left None = 0
path_left (Some t) = suc (length t.rest.now)

-- the next target is one of less
pub path_falls :
    (o s : Option Target) (t : Target) → o ≡ Some t → IfSome s (λ u. length u.rest.now < length t.rest.now) → 4 * path_left s + 3 < 4 * path_left o
path_falls o None t is shorter = rw is (omega arith)
path_falls o (Some u) t is shorter = rw is (omega (arith, shorter))

-- ---- what is there, or is not

pub match_by :
    {A : Type 0} (r : Option A) (N : Type 0) (P Q R : A → Type 0) → ((a : A) → P a → Q a → R a) → IfSome r P → IfSome r Q → (r ≡ None → N) → MatchOption r N R
match_by None N P Q R f p q n = n refl
match_by (Some a) N P Q R f p q n = f a p q

-- ---- what holds where there is something implies what follows from it

pub some_more : {A : Type 0} (r : Option A) (P : Type 0) (Q R : A → Type 0) → ((a : A) → Q a → R a) → MatchOption r P Q → MatchOption r P R
some_more None P Q R f h = h
some_more (Some a) P Q R f h = f a h

pub at_none : {A : Type 0} (r : Option A) (P : Type 0) (Q : A → Type 0) → r ≡ None → P → MatchOption r P Q
at_none None P Q e h = h
at_none (Some a) P Q e h = absurd (cc)

pub where_none : {A : Type 0} (r : Option A) (P : Type 0) (Q : A → Type 0) → is_some r ≡ false → MatchOption r P Q → P
where_none None P Q e h = h
where_none (Some a) P Q e h = absurd (cc)

pub map_match : {A : Type 0} (r : Option A) (P O : Type 0) (Q R : A → Type 0) → (P → O) → ((a : A) → Q a → R a) → MatchOption r P Q → MatchOption r O R
map_match None P O Q R f g h = f h
map_match (Some a) P O Q R f g h = g a h

-- ---- no record

-- no tag begins at the end
over_no_tag : {p q : Place} {k w : ℕ} → IsOver p → HasTag p k w q → ⊥
over_no_tag (inl e) tag = no_tag_at_end e tag
over_no_tag {p} {q} (inr e) tag =
    let some = ends_some tag.tag.0 tag.tag.1.ends in
    let all = fewer tag.tag.0 tag.tag.2 in
    let none : length p.rest ≡ 0 = ap length e.1 in
    omega (arith, some, all, none)

reads_value : {S : Schema} {c : S.Context} {levels k w : ℕ} {p q : Place} → (v : ValueAt S c levels k w p q) → ReadsValue S c levels k w p v.payload q
reads_value v = record { type = v.type; spelled = (v.body, v.spelled, v.moves); sound = v.sound }

value_of : (pool : Types) (m levels k w : ℕ) (p q : Place) (payload : Payload) → ReadsValue (schema_of pool) (a_message m) levels k w p payload q → ValueAt (schema_of pool) (a_message m) levels k w p q
value_of pool m levels k w p q payload v = record { payload = payload; type = v.type; body = v.spelled.0; spelled = v.spelled.1; sound = v.sound; moves = v.spelled.2 }

-- where a tag has no record after whole ones, all is not read
pub not_read :
    (pool : Types) (m levels k w : ℕ) (g : Option ℕ) (p q s : Place) (rs : List Record) → Front (schema_of pool) (a_message m) levels p rs q
    → HasTag q k w s → w ≢ 4 → NoRecord pool m levels k w s → IsRead (schema_of pool) (opened g (a_message m)) levels p → ⊥
not_read pool m levels k w None p q s rs front tag no_end unread good =
    ⊎_elim (λ (e : q ≡ good.1). over_no_tag (subst IsOver (sym e) good.4) tag)
    (⊎_elim (λ (h : RecordAt (schema_of pool) (a_message m) levels q). let v = value_at h tag in unread v.1.payload v.0 (reads_value v.1))
    (λ (h : RecordAt (schema_of pool) (a_message m) levels good.1). over_no_tag good.4 (record_parts h).tag))
    (align rs good.2.0 front.spelled.0 good.0 front.spelled.1 good.2.1 front.sound good.2.2 front.spelled.2 good.3)
not_read pool m levels k w (Some n) p q s rs front tag no_end unread good =
    ⊎_elim (λ (e : q ≡ good.1). no_end (one_tag tag (rw (sym e) at good.4.1)).1)
    (⊎_elim (λ (h : RecordAt (schema_of pool) (a_message m) levels q). let v = value_at h tag in unread v.1.payload v.0 (reads_value v.1))
    (λ (h : RecordAt (schema_of pool) (a_message m) levels good.1). not_end_tag h good.4.1))
    (align rs good.2.0 front.spelled.0 good.0 front.spelled.1 good.2.1 front.sound good.2.2 front.spelled.2 good.3)

pub broken : {pool : Types} {m levels : ℕ} {p : Place} (g : Option ℕ) → Breaks pool m levels p → IsRead (schema_of pool) (opened g (a_message m)) levels p → ⊥
broken {pool} {m} {levels} {p} g b = not_read pool m levels b.number b.type g p b.at b.start b.before b.front b.tag b.no_end b.none

-- nor where a tag is refused
pub no_tag :
    (pool : Types) (m levels : ℕ) (g : Option ℕ) (b : List ℕ) (at now : ℕ) (rs : List Record) (f : Fault)
    → Front (schema_of pool) (a_message m) levels (here b at None) rs (here b now None) → now ≤ length b → (g ≡ None → now < length b)
    → TagFault g (here b now None) f → IsRead (schema_of pool) (opened g (a_message m)) levels (here b at None) → ⊥
no_tag pool m levels g b at now rs f front within more bad good =
    not_both
    (tag_refused pool g (a_message m) levels (here b at None) (here b now None) rs f front
    (λ none. begins_given g (a_message m) b now None none refl within (λ e. let less = more none in omega (arith, e, less))) bad)
    good

-- ---- all records

-- ---- one record by itself

pub one_alone :
    (pool : Types) (m levels k w : ℕ) (b : List ℕ) (at start end : ℕ) (payload : Payload) → length b < 2 ^ 31 → levels ≤ 100
    → HasTag (here b at None) k w (here b start None) → ReadsValue (schema_of pool) (a_message m) levels k w (here b start None) payload (here b end None)
    → (one : IsOne (take (end - at) (drop at b))) × (one.only ≡ record_at k payload)
one_alone pool m levels k w b at start end payload small most tag value =
    let front : Front (schema_of pool) (a_message m) levels (here b at None) (record_at k payload ∷ []) (here b end None) =
    front_push [] payload (front_none (schema_of pool) (a_message m) levels (here b at None)) tag value in (
      record {
        only = record_at k payload;
        size = let e = length-take (end - at) (drop at b) in let f = length-drop at b in omega (arith, e, f, small);
        spelled = records_between levels b at end None (record_at k payload ∷ []) front;
        sound = sound_higher 100 most (blank_sound front.sound);
      },
      refl,
    )

pub only_record :
    (l : Level) (tag : RecordTag) (end : ℕ) → IsAfterTag l tag → (h : (p : Payload) × IsRecord l tag p end)
    → (one : IsOne (take (end - tag.at) (drop tag.at l.bytes.now))) × (one.only ≡ record_at tag.number h.0)
only_record l tag end a h =
    one_alone l.pool.now l.message_type.0 l.levels tag.number tag.wire_type l.bytes.now tag.at tag.end end h.0 a.can.small a.can.levels a.is_tag h.1.value

-- the payload that is read of it is that of the record
pub payload_read :
    (l : Level) (tag : RecordTag) (end : ℕ) (payload : Payload) → IsAfterTag l tag → (p : Payload) × IsRecord l tag p end
    → ((one : IsOne (take (end - tag.at) (drop tag.at l.bytes.now))) → payload ≡ one.only.payload) → IsRecord l tag payload end
payload_read l tag end payload a h is =
    let one = only_record l tag end a h in subst (λ (p : Payload). IsRecord l tag p end) (sym (is one.0 ∙ ap (λ (r : Record). r.payload) one.1)) h.1

-- ---- messages and groups

-- the payload of a message, from records that are all of it
pub message_value :
    (pool : Types) (m t levels k w : ℕ) (b : List ℕ) (at start end : ℕ) (rs : List Record) → 0 < levels → w ≡ 2
    → (schema_of pool).reading (a_message m) k ≡ message (a_message t) → HasLength (here b at None) (end - start) (here b start None) → start ≤ end → end ≤ length b
    → AreRecords rs (take (end - start) (drop start b)) → AllSound (schema_of pool) (a_message t) (levels - 1) rs
    → ReadsValue (schema_of pool) (a_message m) levels k w (here b at None) (len (take (end - start) (drop start b))) (here b end None)
message_value pool m t levels k w b at start end rs some is_len read size rises within spelled sound = record {
  type = sym is_len;
  spelled = payload_between b at start end None size rises within k;
  sound = message_sound (schema_of pool) (a_message m) (a_message t) levels k (take (end - start) (drop start b)) rs some read spelled sound;
}

-- records up to the end of a slice are all of it
pub all_of :
    (pool : Types) (t levels : ℕ) (s : List ℕ) (end : ℕ) (rs : List Record) → end ≤ length s
    → ReadsAll (schema_of pool) (records (a_message t)) levels (here s 0 None) rs (here s end None)
    → AreRecords rs s × AllSound (schema_of pool) (a_message t) levels rs
all_of pool t levels s end rs within all =
    let spelled = records_between levels s 0 end None rs all.0 in
    let ends : length s ≤ end = by_end all.1 in
    (subst (AreRecords rs) (take_all (end - 0) s (omega (arith, ends))) spelled, all.0.sound)
  where
    by_end : IsOver (here s end None) → length s ≤ end
    by_end (inl e) = absurd (cc)
    by_end (inr e) = let none : length (drop end s) ≡ 0 = ap length e.1 in let left = length-drop end s in omega (arith, none, left)

-- the records of a group, as its payload
pub group_value_of :
    (pool : Types) (m t levels k w : ℕ) (p q : Place) (rs : List Record) → 0 < levels → w ≡ 3 → (schema_of pool).group_context (a_message m) k ≡ a_message t
    → ReadsAll (schema_of pool) (in_group k (a_message t)) (levels - 1) p rs q
    → ReadsValue (schema_of pool) (a_message m) levels k w p (group (group_of rs)) q
group_value_of pool m t zero k w p q rs some is_group read all = absurd (omega arith)
group_value_of pool m t (suc n) k w p q rs some is_group read (end, front, tag) =
    let e : suc n - 1 ≡ n = omega arith in
    let sound : AllSound (schema_of pool) ((schema_of pool).group_context (a_message m) k) n rs = subst (λ (c : Context). AllSound (schema_of pool) c n rs) (sym read) (rw e at front.sound) in
    record {
      type = sym is_group;
      spelled = (
        front.spelled.0 ++ tag.tag.0,
        (front.spelled.0, tag.tag.0, SpellsGroup-from_records rs _ front.spelled.1, tag.tag.1, refl),
        moves_both _ _ front.spelled.2 tag.tag.2,
      );
      sound = Sound.a_group refl sound;
    }

-- a group whose records are not read is none
pub no_group :
    (pool : Types) (m t levels k w : ℕ) (p : Place) → w ≡ 3 → (0 < k) × (k < 2 ^ 29) → (schema_of pool).group_context (a_message m) k ≡ a_message t
    → (IsRead (schema_of pool) (in_group k (a_message t)) (levels - 1) p → ⊥) → NoRecord pool m levels k w p
no_group pool m t levels k w p is_group number read unread payload q v =
    let value : ValueAt (schema_of pool) (a_message m) levels k 3 p q = rw is_group at (value_of pool m levels k w p q payload v) in
    let it = group_value value in
    let inside = sound_group it.inside it.sound refl in
    let deeper = inside.1 in
    let less : levels - 1 ≡ inside.0 = omega (arith, deeper) in
    let end : HasTag it.start k 4 q = record { tag = it.end; number = number; type = let e : 4 < 6 = omega arith in e } in
    let sound : AllSound (schema_of pool) (a_message t) (levels - 1) inside.2 =
    rw less (subst (λ (c : Context). AllSound (schema_of pool) c inside.0 inside.2) read inside.4) in
    unread (it.bytes, it.start, (inside.2, AreRecords-from_group inside.2 it.bytes (rw inside.3 at it.spelled), sound), it.moves, (q, end))

-- a length and bytes, as they lie in the input
pub len_read :
    (k : ℕ) (p q : Place) (s : List ℕ) → Leads (Body k (len s)) p q → (start : Place) × HasLength p (length s) start × Moves start s q
len_read k p q s (body, (small, size, is_size, joined), moves) =
    let parts = moves_split {p = p} {r = q} size s (rw joined at moves) in
    (parts.0, record { length_is = (size, is_size, parts.1); small = small; within = parts.2.within }, parts.2)

-- a payload that is not whole is none
pub no_payload : (k : ℕ) (p q : Place) (f : Fault) (s : List ℕ) → UnreadFault p f → Leads (Body k (len s)) p q → ⊥
no_payload k p q f s (UnreadFault.a_length bad) leads = length_not_both bad (len_read k p q s leads).1
no_payload k p q f s (UnreadFault.cut bad) leads =
    let it = len_read k p q s leads in let all = fewer s it.2 in cut_not_both bad it.1 (omega (arith, all))

-- the payload is the bytes of its length
pub same_payload :
    (k : ℕ) (b : List ℕ) (at start end : ℕ) (q : Place) (s : List ℕ) → HasLength (here b at None) (end - start) (here b start None)
    → Leads (Body k (len s)) (here b at None) q → s ≡ take (end - start) (drop start b)
same_payload k b at start end q s size leads =
    let it = len_read k (here b at None) q s leads in
    let same = one_length size it.1 in
    let moves : Moves (here b start None) s q = moves_from s (sym same.1) it.2 in
    sym (ap (take (end - start)) moves.given ∙ take_at s q.rest (end - start) (sym same.0))

-- bytes that are all records are read
pub whole_read :
    (pool : Types) (t levels : ℕ) (s : List ℕ) → Whole (schema_of pool) (a_message t) levels s → IsRead (schema_of pool) (records (a_message t)) levels (here s 0 None)
whole_read pool t levels s whole = (
  s,
  here s (length s) None,
  whole,
  record {
    given = sym (ap (λ (l : List ℕ). s ++ l) (drop_all (length s) s (omega arith)) ∙ append-nil s);
    within = tt;
    at = omega arith;
    known = refl;
  },
  inr (refl, drop_all (length s) s (omega arith)),
)

-- a message whose records are not read is none
pub no_message :
    (pool : Types) (m t levels k w : ℕ) (b : List ℕ) (at start end : ℕ) → w ≡ 2 → (schema_of pool).reading (a_message m) k ≡ message (a_message t)
    → HasLength (here b at None) (end - start) (here b start None)
    → (IsRead (schema_of pool) (records (a_message t)) (levels - 1) (here (take (end - start) (drop start b)) 0 None) → ⊥)
    → NoRecord pool m levels k w (here b at None)
no_message pool m t levels k w b at start end is_len read size unread payload q v =
    let value : ValueAt (schema_of pool) (a_message m) levels k 2 (here b at None) q = rw is_len at (value_of pool m levels k w (here b at None) q payload v) in
    let it = len_value value in
    let inside = sound_message it.bytes (a_message t) it.sound refl read in
    let deeper = inside.1 in
    let less : levels - 1 ≡ inside.0 = omega (arith, deeper) in
    let same = one_length size it.size in
    let moves : Moves (here b start None) it.bytes q = moves_from it.bytes (sym same.1) it.moves in
    let bytes : it.bytes ≡ take (end - start) (drop start b) = sym (ap (take (end - start)) moves.given ∙ take_at it.bytes q.rest (end - start) (sym same.0)) in
    unread (whole_read pool t (levels - 1) (take (end - start) (drop start b)) (rw (less, sym bytes) inside.2))

-- ---- strings

pub no_cut_message : (pool : Types) (m levels k w : ℕ) (p : Place) (f : Fault) → w ≡ 2 → UnreadFault p f → NoRecord pool m levels k w p
no_cut_message pool m levels k w p f is_len bad payload q v =
    let value : ValueAt (schema_of pool) (a_message m) levels k 2 p q = rw is_len at (value_of pool m levels k w p q payload v) in
    let it = len_value value in by_fault bad it.size (let all = fewer it.bytes it.moves in omega (arith, all))
  where
    by_fault : {n : ℕ} {r : Place} → UnreadFault p f → HasLength p n r → n ≤ length r.rest → ⊥
    by_fault (UnreadFault.a_length bad) size whole = length_not_both bad size
    by_fault (UnreadFault.cut bad) size whole = cut_not_both bad size whole

-- a record of a string, and none where no string is
pub string_value :
    (pool : Types) (m levels k w : ℕ) (p q : Place) (s : List ℕ) → w ≡ 2 → (schema_of pool).reading (a_message m) k ≡ text → IsUtf8 s
    → ((k : ℕ) → Leads (Body k (len s)) p q) → ReadsValue (schema_of pool) (a_message m) levels k w p (len s) q
string_value pool m levels k w p q s is_len read utf8 leads = record { type = sym is_len; spelled = leads k; sound = Sound.a_text read utf8 }

pub no_string :
    (pool : Types) (m levels k w : ℕ) (p : Place) → w ≡ 2 → (schema_of pool).reading (a_message m) k ≡ text
    → ((s : List ℕ) (k : ℕ) (q : Place) → Leads (Body k (len s)) p q → IsUtf8 s → ⊥) → NoRecord pool m levels k w p
no_string pool m levels k w p is_len read none payload q v = by_payload payload v.type v
  where
    by_payload : (payload : Payload) → wire_type payload ≡ w → ReadsValue (schema_of pool) (a_message m) levels k w p payload q → ⊥
    by_payload (len s) e v = none s k q v.spelled (sound_text s v.sound refl read)
    by_payload (varint n) e v = absurd (omega (arith, e, is_len))
    by_payload (fixed64 n) e v = absurd (omega (arith, e, is_len))
    by_payload (fixed32 n) e v = absurd (omega (arith, e, is_len))
    by_payload (group g) e v = absurd (omega (arith, e, is_len))

-- ---- a message on the path

module _ (l : Level) (tag : RecordTag) (t : ℕ) (rest : Bor (List ℕ)) (can : CanRead l) (leads : LeadsInto l tag t rest) where
  own : target l.pool.now l.message_type.0 leads.field.now.number ≡ Some (field_view leads.field.now)
  own = rw leads.is at can.own

  is : (field_numbered leads.field.now.number (message_fields l.pool.now l.message_type.0) ≡ Some (field_view leads.field.now)) × (is_single leads.field.now.shape ≡ true)
  is = target_is l.pool.now l.message_type.0 leads.field.now.number (field_view leads.field.now) own

  pub leads_number_two : tag.wire_type ≢ 3 → tag.wire_type ≡ 2
  leads_number_two no_group = message_type_of leads.field.now.kind t tag.wire_type leads.inner leads.fits no_group

  pub leads_group : tag.wire_type ≡ 3 → (schema_of l.pool.now).group_context (a_message l.message_type.0) tag.number ≡ a_message t
  leads_group is_group =
      rw leads.number (reads_group l.pool.now l.message_type.0 (field_view leads.field.now) is.0 is.1 t tag.wire_type leads.inner leads.fits is_group)

  pub leads_message : tag.wire_type ≢ 3 → (schema_of l.pool.now).reading (a_message l.message_type.0) tag.number ≡ message (a_message t)
  leads_message no_group =
      rw leads.number (reads_message l.pool.now l.message_type.0 (field_view leads.field.now) is.0 is.1 t tag.wire_type leads.inner leads.fits no_group)

  -- what is found of the records inside is what is found after the record
  pub inside_found : (x : Option Scalar) (p : Payload) → wire_type p ≡ tag.wire_type → found l.pool.now rest.now t x (records_inside p) ≡ after l x (record_at tag.number p ∷ [])
  inside_found x p typed =
      message_counts l.pool.now l.message_type.0 tag.number rest.now (field_view leads.field.now) x p t leads.inner
      (counts_open l.pool.now tag.number (field_view leads.field.now) p is.1 leads.number (typed ∙ leads.fits) (closed_message leads.field.now.kind t leads.inner))
      ∙ sym (ap (λ (o : Option Target). after_target l.pool.now l.message_type.0 o x (record_at tag.number p ∷ [])) leads.is)

-- ---- a target where its path ends, or goes on

module _ (l : Level) (own : Target) (k : ℕ) (x : Option Scalar) (p : Payload) (is : l.target ≡ Some own) (can : CanRead l) where
  abbrev field : FieldView
  field = field_view own.field.now

  at_target : target l.pool.now l.message_type.0 own.field.now.number ≡ Some field
  at_target = rw is at can.own

  pub own_single : is_single own.field.now.shape ≡ true
  own_single = (target_is l.pool.now l.message_type.0 own.field.now.number field at_target).1

  -- what one record makes of what was found
  pub after_one :
      after_record (found l.pool.now own.rest.now) l.pool.now l.message_type.0 own.rest.now field x (record_at k p) ≡ after l x (record_at k p ∷ [])
  after_one = sym (ap (λ (o : Option Target). after_target l.pool.now l.message_type.0 o x (record_at k p ∷ [])) is)

  -- a plain record that counts is a scalar
  pub plain_counts :
      (tag : RecordTag) → tag.number ≡ k → IsPlain l tag → tag.wire_type ≡ wire_type p → counts_for l.pool.now field (record_at k p) ≡ true
      → (message_of_kind own.field.now.kind ≡ None) × (length own.rest.now ≡ 0 → own.field.now.kind ≢ Text)
  plain_counts tag same plain typed e =
      let fits = counts_fits l.pool.now k field p own_single e in (rw is at plain) (same ∙ fits.0) (typed ∙ fits.1)

pub string_found :
    (l : Level) (own : Target) (k : ℕ) (x : Option Scalar) (s : List ℕ) → l.target ≡ Some own → CanRead l → k ≡ own.field.now.number → own.field.now.kind ≡ Text
    → length own.rest.now ≡ 0 → kept own.field.now.shape (a_text s) ≡ after l x (record_at k (len s) ∷ [])
string_found l own k x s is can number of_text ends =
    sym (ap (λ (e : Kind). option_and_then (kept own.field.now.shape) (read e (len s))) of_text)
    ∙ scalar_counts l.pool.now l.message_type.0 k own.rest.now (field_view own.field.now) x (len s) (ap message_of_kind of_text) ends
    (counts_open l.pool.now k (field_view own.field.now) (len s) (own_single l own k x (len s) is can) number (sym (ap wire_type_of of_text)) (ap closed_enum of_text))
    ∙ after_one l own k x (len s) is can
