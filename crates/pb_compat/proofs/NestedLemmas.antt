-- Messages of one field that hold a message which the new type does not read as the same.
use Rattle.std.proofs.Common.{◌≡◌, ℕ, suc, ◌+◌, ◌*◌, ◌<◌, ◌≤◌, ◌^◌, length, List, [], ◌∷◌, ◌++◌, Bool, true, false, not, Option, Some, None, option_map, IsSomeAnd, refl, sym, ◌∙◌, ap, subst, arith, append-nil}
use Rattle.std.specs.Prelude.{unwrap_or, option_and_then, if◌then◌else◌, ◌==◌}
use Rattle.std.proofs.lemmas.List.{length-append}
use Rattle.pb_wire.specs.Varint.{shortest}
use Rattle.pb_wire.specs.Record.{Payload, len, Record, group_of, wire_type}
use Rattle.pb_wire.specs.Inside.{records_inside}
use Rattle.pb_wire.specs.Schema as wire
use Rattle.pb_wire.specs.Schema.{Schema}
use Rattle.pb_wire.specs.Sound.{Sound, AllSound}
use Rattle.pb_wire.specs.Spell.{AreRecords, shortest_record, shortest_records}
use Rattle.pb_wire.proofs.Fronts.{sound_message, sound_value, sound_group}
use Rattle.pb_wire.proofs.InsideLemmas.{records_spelled-shortest}
use Rattle.pb_wire.proofs.ShortestLemmas.{shortest-is_varint, shortest_records-spells}
use Rattle.pb_wire.proofs.Unique.{same_records}
use Rattle.pb_schema.specs.declared.types.Kind.{Kind}
use Rattle.pb_schema.specs.declared.types.Kind.TheVariants as kind
use Rattle.pb_schema.specs.declared.types.MessageId.{MessageId}
use Rattle.pb_schema.specs.declared.types.Shape.{Shape}
use Rattle.pb_schema.specs.declared.types.Shape.TheVariants as shape
use Rattle.pb_schema.specs.Types.{FieldView, Types, message_fields, field_numbered}
use Rattle.pb_schema.specs.Scalar.{Scalar}
use Rattle.pb_schema.specs.Kinds.{wire_type_of, is_packable, message_of_kind, is_of_proto2, closed_enum, written}
use Rattle.pb_schema.specs.Closed.{closed_of, is_list_field, settled}
use Rattle.pb_schema.specs.Context.{Context, a_message, an_entry, read_field, read_shaped, group_of_field, group_shaped, schema_of}
use Rattle.pb_schema.specs.Rules.{IsPool, MayBePacked, MayBeValue}
use Rattle.pb_value.specs.Data.{Datum, scalar, message, Datums, no_datums, datum, Entries, no_entries, entry, Holding, one, list, map as map_of, Message, no_fields, body, fields_of, get_field, message_depth}
use Rattle.pb_value.specs.Value.{unless_default, unless_no_elements, unless_no_entries, one_value, list_values, missing, entry_key, entry_value, held_as, value_within}
use Rattle.pb_value.specs.Canon.{payload_of, record_of, sealed, canon, canon_bytes, canon_each, canon_holding, message_type, packed_bytes, is_packed}
use Rattle.pb_value.specs.WellFormed.{IsOfShape, IsDatum, AreEntries, KeysRise, IsHeld, IsBody, key_of, holds_declared}
use Rattle.pb_value.proofs.BodyBack.{can_pack, canon-good}
use Rattle.pb_value.proofs.CanonLemmas.{AreGood, writable_records, canon-spelled}
use Rattle.pb_value.proofs.GroupLemmas.{inside-wrapped}
use Rattle.pb_value.proofs.HeldBack.{entry_records, entry_records-good}
use Rattle.pb_value.proofs.KnownLemmas.{IsUncut, settled-same}
use Rattle.pb_value.proofs.Numbers.{self_equal, found_number}
use Rattle.pb_value.proofs.Options.{some_of}
use Rattle.pb_compat.specs.Fields.{keeps_kind, keeps_shape, is_map}
use Rattle.pb_compat.specs.Agrees.{Agrees, HoldsNoUnknown, IsSameValue, HoldsSame}
use Rattle.pb_compat.specs.Samples.{IsValue}
use Rattle.pb_compat.specs.Witness.{alone, IsContentOf, AreFieldsAt}
use Rattle.pb_compat.proofs.EncodingLemmas.{reads_message, grouped}
use Rattle.pb_compat.proofs.MapLemmas.{value_by}
use Rattle.pb_compat.proofs.NeverLemmas.{MayHold, may_hold}
use Rattle.pb_compat.proofs.OtherwiseLemmas.{uncut_open, open_shaped}
use Rattle.pb_compat.proofs.ReadingLemmas.{AreAt, read_whole}
use Rattle.pb_compat.proofs.ShortLemmas.{record_short, value_brief}
use Rattle.pb_compat.proofs.ShownLemmas.{field_number}
use Rattle.pb_compat.proofs.FieldReadLemmas.{may_be_value}
use Rattle.pb_compat.proofs.WitnessLemmas.{IsPlain, IsMisread, first_sound, alone_parts, alone_records, same_alone, none_unknown}

-- THE RECORD OF A MESSAGE

-- what a field of the kind b, whose messages are of the type j, reads of the record of a message of the kind a
module _ (old : Types) (inner : ℕ → List Record → Message) (good : (m : ℕ) (v : Message) → IsBody old m v → AreGood (canon old m v)) where
  pub record IsMessageRead (a b : Kind) (i j : ℕ) (v : Message) : Type 0 where
    pub wire : wire_type (payload_of old a (message v)) ≡ wire_type_of b
    pub alone : (n : ℕ) → one_value inner b (record_of n (payload_of old a (message v)) ∷ []) ≡ Some (message (inner j (canon old i v)))
    pub listed : (n : ℕ) → list_values inner b (record_of n (payload_of old a (message v)) ∷ []) ≡ message (inner j (canon old i v)) ∷ []

  read_by_length : (p q : MessageId) (v : Message) → IsBody old p.0 v → IsMessageRead (kind.Message p) (kind.Message q) p.0 q.0 v
  read_by_length p q v w =
      let within : records_inside (sealed (canon old p.0 v)) ≡ canon old p.0 v = inside-wrapped (kind.Message p) p.0 (canon old p.0 v) refl (good p.0 v w) in
      record {
        wire = refl;
        alone = λ n. ap (λ (rs : List Record). Some (message (inner q.0 rs))) (append-nil (records_inside (sealed (canon old p.0 v))) ∙ within);
        listed = λ n. ap (λ (rs : List Record). message (inner q.0 rs) ∷ []) within;
      }

  read_by_tags : (p q : MessageId) (v : Message) → IsBody old p.0 v → IsMessageRead (kind.Group p) (kind.Group q) p.0 q.0 v
  read_by_tags p q v w =
      let within : records_inside (payload_of old (kind.Group p) (message v)) ≡ canon old p.0 v = inside-wrapped (kind.Group p) p.0 (canon old p.0 v) refl (good p.0 v w) in
      record {
        wire = refl;
        alone = λ n. ap (λ (rs : List Record). Some (message (inner q.0 rs))) (append-nil (records_inside (payload_of old (kind.Group p) (message v))) ∙ within);
        listed = λ n. ap (λ (rs : List Record). message (inner q.0 rs) ∷ []) within;
      }

  pub message_is_read : (new : Types) (a b : Kind) (i j : ℕ) (v : Message) → keeps_kind old new a b ≡ true → message_of_kind a ≡ Some i → message_of_kind b ≡ Some j → IsBody old i v → IsMessageRead a b i j v
  message_is_read new (kind.Message p) (kind.Message q) i j v keeps from to w =
      let first : p.0 ≡ i = cc in
      let second : q.0 ≡ j = cc in
      subst (λ (x : ℕ). IsMessageRead (kind.Message p) (kind.Message q) i x v) second
      (subst (λ (x : ℕ). IsMessageRead (kind.Message p) (kind.Message q) x q.0 v) first (read_by_length p q v (subst (λ (x : ℕ). IsBody old x v) (sym first) w)))
  message_is_read new (kind.Group p) (kind.Group q) i j v keeps from to w =
      let first : p.0 ≡ i = cc in
      let second : q.0 ≡ j = cc in
      subst (λ (x : ℕ). IsMessageRead (kind.Group p) (kind.Group q) i x v) second
      (subst (λ (x : ℕ). IsMessageRead (kind.Group p) (kind.Group q) x q.0 v) first (read_by_tags p q v (subst (λ (x : ℕ). IsBody old x v) (sym first) w)))
  message_is_read new (kind.Message p) kind.Bytes i j v keeps from to w = absurd (cc)
  message_is_read new (kind.Message p) b i j v keeps from to w = absurd (cc)
  message_is_read new (kind.Group p) b i j v keeps from to w = absurd (cc)
  message_is_read new a b i j v keeps from to w = absurd (cc)

-- a field that holds messages is of no closed enum
message_unclosed : (b : Kind) (j : ℕ) → message_of_kind b ≡ Some j → closed_enum b ≡ None
message_unclosed (kind.ClosedEnum e) j to = absurd (cc)
message_unclosed b j to = refl

type_at : (o : Option ℕ) (P : ℕ → Type 0) (j : ℕ) → IsSomeAnd o P → o ≡ Some j → P j
type_at o P j h to =
    let x = some_of o P h in
    let is = x.1 in
    let same : x.0 ≡ j = cc in
    subst P same x.2

-- WHAT A FIELD HOLDS

-- a field holds one message: alone, as the one element of a list, or under one key
pub data IsHeldAs (o : Option Holding) (w : Message) : Type 0 where
  as_one : o ≡ Some (one (message w)) → IsHeldAs o w
  as_element : o ≡ Some (list (datum (message w) no_datums)) → IsHeldAs o w
  as_entry : (y : Scalar) → o ≡ Some (map_of (entry y (message w) no_entries)) → IsHeldAs o w

module _ (old new : Types) (s t : Shape) (a b : Kind) (v w : Message) where
  -- where the contents are the same, so are the messages
  pub held_same : (h : Holding) (o : Option Holding) → IsContentOf old s (message v) h → IsHeldAs o w → HoldsSame old new a b t h o → IsSameValue old new a b (message v) (message w)
  held_same (one d) o made (as_one e) same = subst (λ (x : Datum). IsSameValue old new a b x (message w)) made (subst (HoldsSame old new a b t (one d)) e same)
  held_same (one d) o made (as_element e) same = subst (λ (x : Datum). IsSameValue old new a b x (message w)) made (subst (HoldsSame old new a b t (one d)) e same)
  held_same (one d) o made (as_entry y e) same = absurd (subst (HoldsSame old new a b t (one d)) e same)
  held_same (list ds) o made (as_one e) same = absurd (subst (λ (x : Datums). HoldsSame old new a b t (list x) (Some (one (message w)))) made (subst (HoldsSame old new a b t (list ds)) e same))
  held_same (list ds) o made (as_element e) same =
      (subst (λ (x : Datums). HoldsSame old new a b t (list x) (Some (list (datum (message w) no_datums)))) made (subst (HoldsSame old new a b t (list ds)) e same)).0
  held_same (list ds) o made (as_entry y e) same = absurd (subst (λ (x : Datums). HoldsSame old new a b t (list x) (Some (map_of (entry y (message w) no_entries)))) made (subst (HoldsSame old new a b t (list ds)) e same))
  held_same (map_of es) o made (as_one e) same = absurd (subst (λ (x : Entries). HoldsSame old new a b t (map_of x) (Some (one (message w)))) made.2 (subst (HoldsSame old new a b t (map_of es)) e same))
  held_same (map_of es) o made (as_element e) same = absurd (subst (λ (x : Entries). HoldsSame old new a b t (map_of x) (Some (list (datum (message w) no_datums)))) made.2 (subst (HoldsSame old new a b t (map_of es)) e same))
  held_same (map_of es) o made (as_entry y e) same =
      (subst (λ (x : Entries). HoldsSame old new a b t (map_of x) (Some (map_of (entry y (message w) no_entries)))) made.2 (subst (HoldsSame old new a b t (map_of es)) e same)).1

  -- the message is one of the field's kind
  pub held_typed : (o : Option Holding) → IsHeldAs o w → MayHold old new t b o → IsDatum new b (message w)
  held_typed o (as_one e) may = (subst (MayHold old new t b) e may).1
  held_typed o (as_element e) may = (subst (MayHold old new t b) e may).1.0
  held_typed o (as_entry y e) may =
      (some_of (key_of t) (λ key. AreEntries new key b (entry y (message w) no_entries) × KeysRise (entry y (message w) no_entries)) (subst (MayHold old new t b) e may).1).2.0.1

-- what a field that is no map holds of one record
held_of_record : (inner : ℕ → List Record → Message) (t : Shape) (b : Kind) (r : Record) (w : Message) → is_map t ≡ false → one_value inner b (r ∷ []) ≡ Some (message w) → list_values inner b (r ∷ []) ≡ message w ∷ []
    → IsHeldAs (held_as inner t b (r ∷ [])) w
held_of_record inner shape.Implicit b r w plain single listed = as_one (ap (λ (o : Option Datum). option_and_then unless_default o) single)
held_of_record inner shape.Explicit b r w plain single listed = as_one (ap (λ (o : Option Datum). option_map one o) single)
held_of_record inner (shape.OneofMember i) b r w plain single listed = as_one (ap (λ (o : Option Datum). option_map one o) single)
held_of_record inner (shape.List p) b r w plain single listed = as_element (ap unless_no_elements listed)
held_of_record inner (shape.Map key) b r w plain single listed = absurd (cc)

-- LENGTHS

-- the record of a message is little longer than its bytes
message_record_short : (old : Types) (a : Kind) (i k : ℕ) (v : Message) → message_of_kind a ≡ Some i → k < 2 ^ 29 → length (canon_bytes old i v) < 2 ^ 30
    → length (shortest_record k (payload_of old a (message v))) ≤ 20 + length (canon_bytes old i v)
message_record_short old (kind.Message p) i k v from l small =
    let same : p.0 ≡ i = cc in
    let bytes = ap (λ (m : ℕ). length (canon_bytes old m v)) same in
    let s = canon_bytes old p.0 v in
    let tag = (shortest-is_varint (8 * k + 2) (omega (arith, l))).size in
    let size = (shortest-is_varint (length s) (omega (arith, small, bytes))).size in
    let sum = length-append (shortest (8 * k + 2) ++ shortest (length s)) s in
    let front = length-append (shortest (8 * k + 2)) (shortest (length s)) in
    omega (arith, tag, size, sum, front, bytes)
message_record_short old (kind.Group p) i k v from l small =
    let same : p.0 ≡ i = cc in
    let bytes = ap (λ (m : ℕ). length (canon_bytes old m v)) same in
    let s = canon_bytes old p.0 v in
    let begin = (shortest-is_varint (8 * k + 3) (omega (arith, l))).size in
    let end = (shortest-is_varint (8 * k + 4) (omega (arith, l))).size in
    let sum = length-append (shortest (8 * k + 3) ++ s) (shortest (8 * k + 4)) in
    let front = length-append (shortest (8 * k + 3)) s in
    omega (arith, begin, end, sum, front, bytes)
message_record_short old a i k v from l small = absurd (cc)

len_record_short : (k : ℕ) (s : List ℕ) → k < 2 ^ 29 → length s < 2 ^ 31 → length (shortest_record k (len s)) ≤ 20 + length s
len_record_short k s l small =
    let tag = (shortest-is_varint (8 * k + 2) (omega (arith, l))).size in
    let size = (shortest-is_varint (length s) (omega (arith, small))).size in
    let sum = length-append (shortest (8 * k + 2) ++ shortest (length s)) s in
    let front = length-append (shortest (8 * k + 2)) (shortest (length s)) in
    omega (arith, tag, size, sum, front)

entry_short : (old : Types) (key a : Kind) (i : ℕ) (x : Scalar) (v : Message) → IsValue old key (scalar x) → message_of_kind a ≡ Some i → length (canon_bytes old i v) < 2 ^ 30
    → length (shortest_records (record_of 1 (written key x) ∷ record_of 2 (payload_of old a (message v)) ∷ [])) ≤ 41 + length (canon_bytes old i v)
entry_short old key a i x v keyed from small =
    let first = record_short 1 1 (written key x) (omega arith) (omega arith) (value_brief old key (scalar x) keyed) in
    let second = message_record_short old a i 2 v from (omega arith) small in
    let sum = length-append (shortest_record 1 (written key x)) (shortest_record 2 (payload_of old a (message v)) ++ []) in
    let last = ap length (append-nil (shortest_record 2 (payload_of old a (message v)))) in
    omega (arith, first, second, sum, last)

-- SOUND RECORDS

rest_sound : {S : Schema} {c : S.Context} {levels : ℕ} {r : Record} {rs : List Record} → AllSound S c levels (r ∷ rs) → AllSound S c levels rs
rest_sound (AllSound.one x xs) = xs

same_grouped : (rs ss : List Record) → group_of rs ≡ group_of ss → rs ≡ ss
same_grouped [] [] e = refl
same_grouped [] (s ∷ ss) e = absurd (cc)
same_grouped (r ∷ rs) [] e = absurd (cc)
same_grouped (r ∷ rs) (s ∷ ss) e =
    let rest : group_of rs ≡ group_of ss = cc in
    let number : r.number ≡ s.number = cc in
    let payload : r.payload ≡ s.payload = cc in
    ap (λ (k : ℕ). record_of k r.payload ∷ rs) number ∙ ap (λ (p : Payload). record_of s.number p ∷ rs) payload ∙ ap (λ (l : List Record). s ∷ l) (same_grouped rs ss rest)

plain_key : (t : Shape) → is_map t ≡ false → key_of t ≡ None
plain_key (shape.Map key) e = absurd (cc)
plain_key shape.Implicit e = refl
plain_key shape.Explicit e = refl
plain_key (shape.OneofMember o) e = refl
plain_key (shape.List p) e = refl

-- A FIELD THAT HOLDS A MESSAGE

-- the records of a content are one, which the new type reads as one message
pub record IsRoundRecord (old new : Types) (n : ℕ) (f g : FieldView) (i j : ℕ) (v : Message) (h : Holding) : Type 0 where
  pub payload : Payload
  pub single : canon_holding old f h ≡ record_of f.number payload ∷ []
  pub short : length (shortest_record f.number payload) ≤ 61 + length (canon_bytes old i v)
  pub read : (inner : ℕ → List Record → Message) → IsHeldAs (held_as inner g.shape g.kind (record_of f.number payload ∷ [])) (inner j (canon old i v))
  pub inside : (levels : ℕ) → Sound (schema_of new) (a_message n) levels f.number payload → (less : ℕ) × (levels ≡ suc less) × AllSound (schema_of new) (a_message j) less (canon old i v)

module _ (old new : Types) (rules_old : IsPool old) (rules_new : IsPool new) (m n k : ℕ) (f g : FieldView) (at : AreFieldsAt old new m n k f g)
    (kept : keeps_kind old new f.kind g.kind ≡ true) (fit : keeps_shape old new f.shape g.shape ≡ true)
    (i j : ℕ) (from : message_of_kind f.kind ≡ Some i) (to : message_of_kind g.kind ≡ Some j)
    (v : Message) (plain : IsPlain old i v) (level : message_depth v ≤ 99) where
  small : length (canon_bytes old i v) < 2 ^ 30
  small = let short = plain.short in omega (arith, short, level)

  number_small : f.number < 2 ^ 29
  number_small = (field_number old m k f rules_old at.old_field).1

  read : (inner : ℕ → List Record → Message) → IsMessageRead old inner (canon-good old rules_old) f.kind g.kind i j v
  read inner = message_is_read old inner (canon-good old rules_old) new f.kind g.kind i j v kept from to plain.parts

  number : f.number ≡ k
  number = found_number k (message_fields old m) f at.old_field

  there : field_numbered f.number (message_fields new n) ≡ Some g
  there = ap (λ (x : ℕ). field_numbered x (message_fields new n)) number ∙ at.new_field

  spelled : AreRecords (canon old i v) (canon_bytes old i v)
  spelled = let few = small in canon-spelled old i v rules_old plain.parts (omega (arith, few))

  -- THE RECORDS INSIDE ARE SOUND

  -- where the record of the message is
  message_sound : key_of g.shape ≡ None → (levels : ℕ) → Sound (schema_of new) (a_message n) levels f.number (payload_of old f.kind (message v))
      → (less : ℕ) × (levels ≡ suc less) × AllSound (schema_of new) (a_message j) less (canon old i v)
  message_sound none levels = by f.kind g.kind kept from to (ap (read_field (a_message n)) there) (ap group_of_field there)
    where
      by : (a b : Kind) → keeps_kind old new a b ≡ true → message_of_kind a ≡ Some i → message_of_kind b ≡ Some j
          → read_field (a_message n) (field_numbered f.number (message_fields new n)) ≡ read_shaped (a_message n) g.shape b → group_of_field (field_numbered f.number (message_fields new n)) ≡ group_shaped g.shape b
          → Sound (schema_of new) (a_message n) levels f.number (payload_of old a (message v)) → (less : ℕ) × (levels ≡ suc less) × AllSound (schema_of new) (a_message j) less (canon old i v)
      by (kind.Message p) (kind.Message q) keeps from to reading grouping s =
          let first : p.0 ≡ i = cc in
          let second : q.0 ≡ j = cc in
          let r = sound_message (canon_bytes old p.0 v) (a_message q.0) s refl (reading ∙ reads_message (a_message n) g.shape q none) in
          let bytes = ap (λ (x : ℕ). canon_bytes old x v) first in
          let same : r.2.0 ≡ canon old i v = same_records r.2.0 (canon old i v) (canon_bytes old i v) (subst (AreRecords r.2.0) bytes r.2.1) spelled in
          (r.0, r.1, subst (λ (x : ℕ). AllSound (schema_of new) (a_message x) r.0 (canon old i v)) second (subst (AllSound (schema_of new) (a_message q.0) r.0) same r.2.2))
      by (kind.Group p) (kind.Group q) keeps from to reading grouping s =
          let first : p.0 ≡ i = cc in
          let second : q.0 ≡ j = cc in
          let r = sound_group (group_of (canon old p.0 v)) s refl in
          let same : r.2 ≡ canon old i v = sym (same_grouped (canon old p.0 v) r.2 r.3) ∙ ap (λ (x : ℕ). canon old x v) first in (
            r.0,
            r.1,
            subst (λ (x : ℕ). AllSound (schema_of new) (a_message x) r.0 (canon old i v)) second
                (subst (AllSound (schema_of new) (a_message q.0) r.0) same (subst (λ (c : Context). AllSound (schema_of new) c r.0 r.2) (grouping ∙ grouped g.shape q none) r.4)),
          )
      by (kind.Message p) kind.Bytes keeps from to reading grouping s = absurd (cc)
      by (kind.Message p) b keeps from to reading grouping s = absurd (cc)
      by (kind.Group p) b keeps from to reading grouping s = absurd (cc)
      by a b keeps from to reading grouping s = absurd (cc)

  -- or that of the value of an entry, which is at the entry's level
  value_sound : (l : Kind) (levels : ℕ) → is_of_proto2 f.kind ≡ false → Sound (schema_of new) (an_entry l g.kind) levels 2 (payload_of old f.kind (message v)) → AllSound (schema_of new) (a_message j) levels (canon old i v)
  value_sound l levels = by f.kind g.kind kept from to
    where
      by : (a b : Kind) → keeps_kind old new a b ≡ true → message_of_kind a ≡ Some i → message_of_kind b ≡ Some j → is_of_proto2 a ≡ false → Sound (schema_of new) (an_entry l b) levels 2 (payload_of old a (message v))
          → AllSound (schema_of new) (a_message j) levels (canon old i v)
      by (kind.Message p) (kind.Message q) keeps from to alone_in s =
          let first : p.0 ≡ i = cc in
          let second : q.0 ≡ j = cc in
          let r = sound_value (canon_bytes old p.0 v) (a_message q.0) s refl (reads_message (an_entry l (kind.Message q)) shape.Explicit q refl) in
          let bytes = ap (λ (x : ℕ). canon_bytes old x v) first in
          let same : r.0 ≡ canon old i v = same_records r.0 (canon old i v) (canon_bytes old i v) (subst (AreRecords r.0) bytes r.1) spelled in
          subst (λ (x : ℕ). AllSound (schema_of new) (a_message x) levels (canon old i v)) second (subst (AllSound (schema_of new) (a_message q.0) levels) same r.2)
      by (kind.Message p) kind.Bytes keeps from to alone_in s = absurd (cc)
      by (kind.Message p) b keeps from to alone_in s = absurd (cc)
      by (kind.Group p) b keeps from to alone_in s = absurd (cc)
      by a b keeps from to alone_in s = absurd (cc)

  -- ITS RECORD

  -- alone, or in a list that is not packed
  record_alone : (h : Holding) → is_map g.shape ≡ false → canon_holding old f h ≡ record_of f.number (payload_of old f.kind (message v)) ∷ [] → IsRoundRecord old new n f g i j v h
  record_alone h plain_new single = record {
    payload = payload_of old f.kind (message v);
    single = single;
    short = let short = message_record_short old f.kind i f.number v from number_small small in omega (arith, short);
    read = λ inner.
        held_of_record inner g.shape g.kind (record_of f.number (payload_of old f.kind (message v))) (inner j (canon old i v)) plain_new ((read inner).alone f.number) ((read inner).listed f.number);
    inside = λ levels s. message_sound (plain_key g.shape plain_new) levels s;
  }

  -- in a map
  record_entry : (key l : Kind) (x : Scalar) → f.shape ≡ shape.Map key → g.shape ≡ shape.Map l → IsValue old key (scalar x) → IsRoundRecord old new n f g i j v (map_of (entry x (message v) no_entries))
  record_entry key l x maps stays keyed =
      let records = entry_records old key f.kind x (message v) in
      let typed : IsDatum old f.kind (message v) = subst (λ (o : Option ℕ). IsSomeAnd o (λ (y : ℕ). IsBody old y v)) (sym from) plain.parts in
      let good = entry_records-good old (λ y rs. body no_fields rs) 0 (λ y u w q. absurd (omega (arith, q))) (canon-good old rules_old) key f.kind x (message v) keyed.value typed in
      let inside = entry_short old key f.kind i x v keyed from small in
      let whole = len_record_short f.number (shortest_records records) number_small (omega (arith, inside, small)) in
      record {
        payload = sealed records;
        single = ap (λ (s : Shape). canon_holding old (record { name = f.name; number = f.number; kind = f.kind; shape = s }) (map_of (entry x (message v) no_entries))) maps;
        short = omega (arith, inside, whole);
        read = λ inner.
            let r = read inner in
            let wires = ap (λ (w : ℕ). w == wire_type_of g.kind) r.wire ∙ self_equal (wire_type_of g.kind) in
            let value : entry_value inner g.kind records ≡ message (inner j (canon old i v)) =
            value_by old new inner key l f.kind g.kind x (message v) true wires ∙ ap (λ (o : Option Datum). unwrap_or o (missing inner g.kind)) (r.alone 2) in
            as_entry (entry_key inner l records)
            (ap (λ (s : Shape). held_as inner s g.kind (record_of f.number (sealed records) ∷ [])) stays
            ∙ ap (λ (rs : List Record). unless_no_entries ((entry_key inner l rs, entry_value inner g.kind rs) ∷ [])) (records_spelled-shortest records good.in_range good.numbered)
            ∙ ap (λ (d : Datum). Some (map_of (entry (entry_key inner l records) d no_entries))) value);
        inside = λ levels s.
            let reading : read_field (a_message n) (field_numbered f.number (message_fields new n)) ≡ wire.message (an_entry l g.kind) =
            ap (read_field (a_message n)) there ∙ ap (λ (t : Shape). read_shaped (a_message n) t g.kind) stays in
            let r = sound_message (shortest_records records) (an_entry l g.kind) s refl reading in
            let fine = writable_records records good.numbered (omega (arith, inside, small)) in
            let same = same_records r.2.0 records (shortest_records records) r.2.1 (shortest_records-spells records good.in_range fine) in
            let all = subst (AllSound (schema_of new) (an_entry l g.kind) r.0) same r.2.2 in
            let alone_in : is_of_proto2 f.kind ≡ false = subst (λ (t : Shape). MayBeValue t f.kind) maps (may_be_value old m k f rules_old at.old_field) in
            (r.0, r.1, value_sound l r.0 alone_in (first_sound (rest_sound all)));
      }

  -- of each content that a field can hold
  round_record : (h : Holding) → IsContentOf old f.shape (message v) h → IsOfShape f.shape h → IsRoundRecord old new n f g i j v h
  round_record h made shaped = go f.shape refl g.shape refl h made shaped fit
    where
      not_map : (t : Shape) → not (is_map t) ≡ true → is_map t ≡ false
      not_map (shape.Map key) e = absurd (cc)
      not_map t e = refl

      no_packed : f.shape ≡ shape.List true → ⊥
      no_packed e = by_kind f.kind from (subst (λ (s : Shape). MayBePacked s f.kind) e (can_pack old m rules_old k f at.old_field))
        where
          by_kind : (a : Kind) → message_of_kind a ≡ Some i → is_packable a ≡ true → ⊥
          by_kind (kind.Message p) from packs = cc
          by_kind (kind.Group p) from packs = cc
          by_kind a from packs = cc

      lone : (t : Shape) → g.shape ≡ t → (d : Datum) → d ≡ message v → not (is_map t) ≡ true → IsRoundRecord old new n f g i j v (one d)
      lone t e d same plain_new =
          subst (λ (x : Datum). IsRoundRecord old new n f g i j v (one x)) (sym same) (record_alone (one (message v)) (ap is_map e ∙ not_map t plain_new) refl)

      listed : (t : Shape) → g.shape ≡ t → f.shape ≡ shape.List false → (ds : Datums) → ds ≡ datum (message v) no_datums → is_map t ≡ false → IsRoundRecord old new n f g i j v (list ds)
      listed t e loose ds same plain_new =
          subst (λ (x : Datums). IsRoundRecord old new n f g i j v (list x)) (sym same)
          (record_alone (list (datum (message v) no_datums)) (ap is_map e ∙ plain_new)
          (ap (λ (b : Bool). if b then record_of f.number (len (packed_bytes f.kind (datum (message v) no_datums))) ∷ [] else canon_each old f (datum (message v) no_datums)) (ap is_packed loose)))

      go : (s : Shape) → f.shape ≡ s → (t : Shape) → g.shape ≡ t → (h : Holding) → IsContentOf old s (message v) h → IsOfShape s h → keeps_shape old new s t ≡ true → IsRoundRecord old new n f g i j v h
      go shape.Implicit e t q (one d) made shaped fit = lone t q d made fit
      go shape.Explicit e t q (one d) made shaped fit = lone t q d made fit
      go (shape.OneofMember o) e t q (one d) made shaped fit = lone t q d made fit
      go (shape.List true) e t q (list ds) made shaped fit = absurd (no_packed e)
      go (shape.List false) e (shape.List p) q (list ds) made shaped fit = listed (shape.List p) q e ds made refl
      go (shape.List false) e t q (list ds) made shaped fit = absurd (cc)
      go (shape.Map key) e (shape.Map l) q (map_of es) made shaped fit =
          let keyed : IsValue old key (scalar made.0) = made.1 in
          subst (λ (x : Entries). IsRoundRecord old new n f g i j v (map_of x)) (sym made.2) (record_entry key l made.0 e q keyed)
      go (shape.Map key) e t q (map_of es) made shaped fit = absurd (cc)
      go s e t q h made shaped fit = absurd shaped

  -- THE MESSAGE

  module _ (h : Holding) (made : IsContentOf old f.shape (message v) h) (shaped : IsOfShape f.shape h) where
    -- it nests one level more
    pub round_depth : message_depth (alone k h) ≡ suc (message_depth v)
    round_depth = by h made
      where
        by : (h : Holding) → IsContentOf old f.shape (message v) h → message_depth (alone k h) ≡ suc (message_depth v)
        by (one d) made = subst (λ (x : Datum). message_depth (alone k (one x)) ≡ suc (message_depth v)) (sym made) (omega arith)
        by (list ds) made = subst (λ (x : Datums). message_depth (alone k (list x)) ≡ suc (message_depth v)) (sym made) (omega arith)
        by (map_of es) made = subst (λ (x : Entries). message_depth (alone k (map_of x)) ≡ suc (message_depth v)) (sym made.2) (omega arith)

    typed : IsDatum old f.kind (message v)
    typed = subst (λ (o : Option ℕ). IsSomeAnd o (λ (y : ℕ). IsBody old y v)) (sym from) plain.parts

    held : IsHeld old f.shape f.kind h
    held = by h made
      where
        by : (h : Holding) → IsContentOf old f.shape (message v) h → IsHeld old f.shape f.kind h
        by (one d) made = subst (IsDatum old f.kind) (sym made) typed
        by (list ds) made = subst (λ (x : Datums). IsHeld old f.shape f.kind (list x)) (sym made) (typed, tt)
        by (map_of es) made =
            let under = some_of (key_of f.shape) (λ key. IsValue old key (scalar made.0)) made.1 in
            subst (λ (x : Entries). IsHeld old f.shape f.kind (map_of x)) (sym made.2)
            (subst (λ (o : Option Kind). IsSomeAnd o (λ key. AreEntries old key f.kind (entry made.0 (message v) no_entries) × KeysRise (entry made.0 (message v) no_entries))) (sym under.1)
            ((under.2.value, typed, tt), (tt, tt)))

    declared : holds_declared old f.kind h ≡ true
    declared = by h made
      where
        by : (h : Holding) → IsContentOf old f.shape (message v) h → holds_declared old f.kind h ≡ true
        by (one d) made = subst (λ (x : Datum). holds_declared old f.kind (one x) ≡ true) (sym made) refl
        by (list ds) made = subst (λ (x : Datums). holds_declared old f.kind (list x) ≡ true) (sym made) refl
        by (map_of es) made = refl

    known : HoldsNoUnknown h
    known = by h made
      where
        by : (h : Holding) → IsContentOf old f.shape (message v) h → HoldsNoUnknown h
        by (one d) made = subst (λ (x : Datum). HoldsNoUnknown (one x)) (sym made) plain.known
        by (list ds) made = subst (λ (x : Datums). HoldsNoUnknown (list x)) (sym made) (plain.known, tt)
        by (map_of es) made = subst (λ (x : Entries). HoldsNoUnknown (map_of x)) (sym made.2) (plain.known, tt)

    pub round_plain : IsPlain old m (alone k h)
    round_plain =
        let one_record = round_record h made shaped in
        let short = one_record.short in
        let inside = plain.short in
        let depth = round_depth in
        let same =
        ap (λ (rs : List Record). length (shortest_records rs)) (alone_records old m k f at.old_field h ∙ one_record.single)
        ∙ ap length (append-nil (shortest_record f.number one_record.payload)) in
        record { parts = alone_parts old m k f at.old_field h shaped held declared; known = (refl, (known, tt)); short = omega (arith, short, inside, depth, same) }

    -- where the new type does not read the message as the same, it does not read this one as the same
    pub round_misread : IsMisread old new i j v → IsMisread old new m n (alone k h)
    round_misread misread = record { plain = round_plain; unread = unread }
      where
        one_record : IsRoundRecord old new n f g i j v h
        one_record = round_record h made shaped

        settles : settled (message_fields new n) (canon_holding old f h) ≡ record_of f.number one_record.payload ∷ []
        settles =
            ap (settled (message_fields new n)) one_record.single
            ∙ settled-same (message_fields new n) (record_of f.number one_record.payload ∷ []) (
              subst (λ (o : Option FieldView). IsUncut one_record.payload (is_list_field o) (closed_of o)) (sym there)
                  (uncut_open one_record.payload (is_list_field (Some g)) (closed_of (Some g)) (open_shaped g.shape g.kind (message_unclosed g.kind j to))),
              tt,
            )

        unread : (levels : ℕ) (w : Message) → message_depth (alone k h) ≤ levels → AllSound (schema_of new) (a_message n) levels (canon old m (alone k h)) → IsBody new n w → w ≡ value_within new (suc levels) n (canon old m (alone k h)) → Agrees old new m n (alone k h) w → ⊥
        unread levels w deep sound b e a =
            let inner : ℕ → List Record → Message = value_within new levels in
            let read_as : Message = inner j (canon old i v) in
            let first = first_sound (subst (AllSound (schema_of new) (a_message n) levels) (alone_records old m k f at.old_field h ∙ one_record.single) sound) in
            let less = one_record.inside levels first in
            let level_up = less.1 in
            let depth = round_depth in
            let same = e ∙ ap (value_within new (suc levels) n) (alone_records old m k f at.old_field h) in
            let whole = read_whole new rules_new n k g at.new_field levels (canon_holding old f h) w (subst (AreAt k) (sym one_record.single) (number, tt)) same (none_unknown old new m n k f g at.old_field at.new_field h w a) in
            let holds : get_field k (fields_of w) ≡ held_as inner g.shape g.kind (record_of f.number one_record.payload ∷ []) = whole.holds ∙ ap (held_as inner g.shape g.kind) settles in
            let held_as_one = one_record.read inner in
            let agrees : Agrees old new (message_type f.kind) (message_type g.kind) v read_as =
            held_same old new f.shape g.shape f.kind g.kind v read_as h (held_as inner g.shape g.kind (record_of f.number one_record.payload ∷ [])) made held_as_one
            (subst (HoldsSame old new f.kind g.kind g.shape h) holds (same_alone old new m n k f g at.old_field at.new_field h w a)) in
            let typed_new : IsDatum new g.kind (message read_as) =
            held_typed old new f.shape g.shape f.kind g.kind v read_as (held_as inner g.shape g.kind (record_of f.number one_record.payload ∷ [])) held_as_one
            (subst (MayHold old new g.shape g.kind) holds (may_hold old new n k g w b at.new_field)) in
            misread.unread less.0 read_as (omega (arith, deep, depth, level_up)) less.2 (type_at (message_of_kind g.kind) (λ (x : ℕ). IsBody new x read_as) j typed_new to)
            (ap (λ (x : ℕ). value_within new x j (canon old i v)) less.1)
            (subst (λ (x : ℕ). Agrees old new x j v read_as) (ap (λ (o : Option ℕ). unwrap_or o 0) from)
            (subst (λ (x : ℕ). Agrees old new (message_type f.kind) x v read_as) (ap (λ (o : Option ℕ). unwrap_or o 0) to) agrees))
