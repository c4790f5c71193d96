-- The canonical records of an old message are sound for the new type.
use Rattle.std.proofs.Common.{◌≡◌, ℕ, zero, suc, ◌+◌, ◌≤◌, List, [], ◌∷◌, ◌++◌, Bool, true, false, not, ◌&&◌, ◌||◌, Option, Some, None, refl, sym, ◌∙◌, ap, subst, arith, append-nil}
use Rattle.std.specs.Prelude.{◌==◌, if◌then◌else◌}
use Rattle.pb_wire.specs.Record.{Payload, varint, fixed64, len, group, fixed32, Group, no_more, more, Record, group_of, records_in, depth, group_depth, records_depth, wire_type}
use Rattle.pb_wire.specs.Spell.{AreRecords, shortest_records}
use Rattle.pb_wire.specs.Writable.{IsWritable, AreWritable}
use Rattle.pb_wire.specs.Schema as wire
use Rattle.pb_wire.specs.Schema.{Schema, Element, a_varint, four_bytes, eight_bytes}
use Rattle.pb_wire.specs.Sound.{Sound, AllSound, IsElement, varint_element, four_element, eight_element, AreElements, no_elements, element}
use Rattle.pb_wire.proofs.ShortestLemmas.{shortest_records-spells}
use Rattle.pb_wire.proofs.WritingLemmas.{group_writable}
use Rattle.pb_schema.specs.declared.types.Kind.{Kind}
use Rattle.pb_schema.specs.declared.types.Kind.TheVariants as kind
use Rattle.pb_schema.specs.declared.types.MessageId.{MessageId}
use Rattle.pb_schema.specs.declared.types.Shape.{Shape}
use Rattle.pb_schema.specs.declared.types.Shape.TheVariants as shape
use Rattle.pb_schema.specs.Types.{FieldView, Types, message_fields, field_numbered}
use Rattle.pb_schema.specs.Scalar.{Scalar, int32, int64, uint32, uint64, boolean, float, double, enum, text, bytes}
use Rattle.pb_schema.specs.Kinds.{wire_type_of, is_packable, is_group, is_of_proto2, message_of_kind, written, IsOfKind}
use Rattle.pb_schema.specs.Closed.{is_declared}
use Rattle.pb_schema.specs.Packed.{number_bytes, element_bytes}
use Rattle.pb_schema.specs.Rules.{IsPool, MayBePacked, MayBeValue, HasKeyKind}
use Rattle.pb_schema.specs.Context.{Context, a_message, an_entry, unknown_group, element_of, fields_in, message_in, read_listed, read_shaped, read_field, group_shaped, group_of_field, schema_of}
use Rattle.pb_value.specs.Data.{Datum, scalar, message, Datums, no_datums, datum, Entries, no_entries, entry, Holding, one, list, map as map_of, Fields, no_fields, field, Message, body, levels_of, levels_in_entry, datums_depth, entries_depth, holding_depth, fields_depth, message_depth}
use Rattle.pb_value.specs.Canon.{payload_of, packed_bytes, canon, canon_each, canon_entries, canon_holding, canon_fields, by_field, by_type, record_of, sealed, wrapped, is_packed}
use Rattle.pb_value.specs.WellFormed.{IsOfShape, key_of, IsDatum, AreDatums, AreEntries, IsHeld, AreFields, IsBody, datums_declared, holds_declared}
use Rattle.pb_value.specs.Judge.Forms.{is_implicit}
use Rattle.pb_value.specs.Value.{value}
use Rattle.pb_value.proofs.BodyBack.{can_pack, canon-good}
use Rattle.pb_value.proofs.FieldBack.{AllNumbered, numbered_at}
use Rattle.pb_value.proofs.CanonLemmas.{AreGood, writable_records, canon-spelled}
use Rattle.pb_value.proofs.FittingLemmas.{reads_text}
use Rattle.pb_value.proofs.WrittenLemmas.{IsNumeric, IsNumeric-written, body_of_number, wire_type-written, no_message, no_message_of}
use Rattle.pb_value.proofs.HeldBack.{field_with, entry_records, entry_records-good}
use Rattle.pb_value.proofs.Numbers.{found_number}
use Rattle.pb_value.proofs.Options.{some_of}
use Rattle.pb_compat.specs.Scalars.{keeps_scalars}
use Rattle.pb_compat.specs.Fields.{keeps_kind, keeps_others, keeps_shape, is_map, is_list}
use Rattle.pb_compat.specs.Agrees.{HasNoUnknown, ValueHasNoUnknown, ValuesHaveNoUnknown, EntriesHaveNoUnknown, HoldsNoUnknown, FieldsHaveNoUnknown, ReadsEncodings}
use Rattle.pb_compat.specs.Pairs.{ReachedIn, begun_in}
use Rattle.pb_compat.specs.Agrees.{NoneBreaks}
use Rattle.pb_compat.proofs.BreaksLemmas.{IsKept, kept_unbroken}
use Rattle.pb_compat.proofs.FieldReadLemmas.{key_kinds, may_be_value}
use Rattle.pb_compat.proofs.WholeLemmas.{Pair, lead, messages_read}
use Rattle.pb_compat.proofs.FieldLemmas.{and_both, kept_scalars, packable_too, same_wire}
use Rattle.pb_compat.proofs.HoldingLemmas.{key_scalar}

-- LISTS OF RECORDS

all_sound-append : {S : Schema} {c : S.Context} {depth_left : ℕ} {rs ss : List Record} → AllSound S c depth_left rs → AllSound S c depth_left ss → AllSound S c depth_left (rs ++ ss)
all_sound-append AllSound.none h = h
all_sound-append (AllSound.one x xs) h = AllSound.one x (all_sound-append xs h)

writable_first : (rs ss : List Record) → AreWritable (rs ++ ss) → AreWritable rs
writable_first [] ss h = tt
writable_first (r ∷ rs) ss h = (h.0, h.1, writable_first rs ss h.2)

writable_rest : (rs ss : List Record) → AreWritable (rs ++ ss) → AreWritable ss
writable_rest [] ss h = h
writable_rest (r ∷ rs) ss h = writable_rest rs ss h.2

group_of-records_in : (g : Group) → g ≡ group_of (records_in g)
group_of-records_in no_more = refl
group_of-records_in (more k p g) = ap (more k p) (group_of-records_in g)

-- HOW DEEP CANONICAL RECORDS NEST

depth_written : (k : Kind) (x : Scalar) → depth (written k x) ≡ 0
depth_written kind.Int32 (int32 z) = refl
depth_written kind.Int64 (int64 z) = refl
depth_written kind.Uint32 (uint32 n) = refl
depth_written kind.Uint64 (uint64 n) = refl
depth_written kind.Sint32 (int32 z) = refl
depth_written kind.Sint64 (int64 z) = refl
depth_written kind.Bool (boolean b) = refl
depth_written (kind.Enum e) (enum z) = refl
depth_written (kind.ClosedEnum e) (enum z) = refl
depth_written kind.Fixed64 (uint64 n) = refl
depth_written kind.Sfixed64 (int64 z) = refl
depth_written kind.Double (double n) = refl
depth_written kind.Fixed32 (uint32 n) = refl
depth_written kind.Sfixed32 (int32 z) = refl
depth_written kind.Float (float n) = refl
depth_written kind.Text (text s) = refl
depth_written kind.Bytes (bytes s) = refl
depth_written k x = refl

depth_group_of : (rs : List Record) → group_depth (group_of rs) ≡ records_depth rs
depth_group_of [] = refl
depth_group_of (r ∷ rs) = let more = depth_group_of rs in omega (arith, more)

depth_wrapped : (k : Kind) (rs : List Record) → depth (wrapped k rs) ≤ suc (records_depth rs)
depth_wrapped k rs = by (is_group k)
  where
    by : (b : Bool) → depth (if b then group (group_of rs) else sealed rs) ≤ suc (records_depth rs)
    by true = let same = depth_group_of rs in omega (arith, same)
    by false = omega arith

depth_append : (rs ss : List Record) (n : ℕ) → records_depth rs ≤ n → records_depth ss ≤ n → records_depth (rs ++ ss) ≤ n
depth_append [] ss n h g = g
depth_append (r ∷ rs) ss n h g = let more = depth_append rs ss n (omega (arith, h)) g in omega (arith, h, more)

module _ (pool : Types) where
  depth_kind : (k : Kind) (o : Option ℕ) (v : Message) → ((m : ℕ) → records_depth (canon pool m v) ≤ message_depth v) → depth (by_type k o (λ m. canon pool m v)) ≤ suc (message_depth v)
  depth_kind k None v h = omega arith
  depth_kind k (Some m) v h = let one = depth_wrapped k (canon pool m v) in let two = h m in omega (arith, one, two)

  depth_list : (f : FieldView) (ds : Datums) (b : Bool) → records_depth (canon_each pool f ds) ≤ datums_depth ds → records_depth (if b then record_of f.number (len (packed_bytes f.kind ds)) ∷ [] else canon_each pool f ds) ≤ datums_depth ds
  depth_list f ds true h = omega arith
  depth_list f ds false h = h

  depth_entries : (f : FieldView) (es : Entries) → records_depth (canon_entries pool f es) ≤ entries_depth es
  depth_entries f no_entries = omega arith
  depth_entries f (entry x d es) = let more = depth_entries f es in omega (arith, more)

  depth_field : (o : Option FieldView) (h : Holding) → ((f : FieldView) → records_depth (canon_holding pool f h) ≤ holding_depth h) → records_depth (by_field o (λ f. canon_holding pool f h)) ≤ holding_depth h
  depth_field None h e = omega arith
  depth_field (Some f) h e = e f

  mutual
    depth_value : (k : Kind) (d : Datum) → depth (payload_of pool k d) ≤ levels_of d
    depth_value k (scalar x) = let none = depth_written k x in omega (arith, none)
    depth_value k (message v) = depth_kind k (message_of_kind k) v (λ m. depth_body m v)

    depth_each : (f : FieldView) (ds : Datums) → records_depth (canon_each pool f ds) ≤ datums_depth ds
    depth_each f no_datums = omega arith
    depth_each f (datum d ds) = let one = depth_value f.kind d in let more = depth_each f ds in omega (arith, one, more)

    depth_holding : (f : FieldView) (h : Holding) → records_depth (canon_holding pool f h) ≤ holding_depth h
    depth_holding f (one d) = let one = depth_value f.kind d in omega (arith, one)
    depth_holding f (list ds) = depth_list f ds (is_packed f.shape) (depth_each f ds)
    depth_holding f (map_of es) = depth_entries f es

    depth_fields : (all : List FieldView) (fs : Fields) → records_depth (canon_fields pool all fs) ≤ fields_depth fs
    depth_fields all no_fields = omega arith
    depth_fields all (field k h fs) =
        let one = depth_field (field_numbered k all) h (λ f. depth_holding f h) in
        let more = depth_fields all fs in
        depth_append (by_field (field_numbered k all) (λ f. canon_holding pool f h)) (canon_fields pool all fs) (fields_depth (field k h fs)) (omega (arith, one)) (omega (arith, more))

    depth_body : (m : ℕ) (v : Message) → records_depth (canon pool m v) ≤ message_depth v
    depth_body m (body fs us) = let one = depth_fields (message_fields pool m) fs in depth_append (canon_fields pool (message_fields pool m) fs) us (message_depth (body fs us)) (omega (arith, one)) (omega arith)

-- GROUPS THAT NO SCHEMA KNOWS

mutual
  sound_in_group : (pool : Types) (depth_left n : ℕ) (p : Payload) → depth p ≤ depth_left → Sound (schema_of pool) unknown_group depth_left n p
  sound_in_group pool depth_left n (varint i) l = Sound.is_varint
  sound_in_group pool depth_left n (fixed64 i) l = Sound.is_fixed64
  sound_in_group pool depth_left n (len s) l = Sound.some_bytes refl
  sound_in_group pool zero n (group g) l = absurd (omega (arith, l))
  sound_in_group pool (suc depth_left) n (group g) l = Sound.a_group (group_of-records_in g) (sound_group pool depth_left g (omega (arith, l)))
  sound_in_group pool depth_left n (fixed32 i) l = Sound.is_fixed32

  sound_group : (pool : Types) (depth_left : ℕ) (g : Group) → group_depth g ≤ depth_left → AllSound (schema_of pool) unknown_group depth_left (records_in g)
  sound_group pool depth_left no_more l = AllSound.none
  sound_group pool depth_left (more k p g) l = AllSound.one (sound_in_group pool depth_left k p (omega (arith, l))) (sound_group pool depth_left g (omega (arith, l)))

-- a record of a number that the type does not declare is not looked into
sound_lost : (pool : Types) (t depth_left k : ℕ) (p : Payload) → field_numbered k (message_fields pool t) ≡ None → depth p ≤ depth_left → Sound (schema_of pool) (a_message t) depth_left k p
sound_lost pool t depth_left k (varint i) e l = Sound.is_varint
sound_lost pool t depth_left k (fixed64 i) e l = Sound.is_fixed64
sound_lost pool t depth_left k (len s) e l = Sound.some_bytes (ap (read_field (a_message t)) e)
sound_lost pool t zero k (group g) e l = absurd (omega (arith, l))
sound_lost pool t (suc depth_left) k (group g) e l =
    Sound.a_group (group_of-records_in g) (subst (λ (d : Context). AllSound (schema_of pool) d depth_left (records_in g)) (sym (ap group_of_field e)) (sound_group pool depth_left g (omega (arith, l))))
sound_lost pool t depth_left k (fixed32 i) e l = Sound.is_fixed32

-- HOW FIELDS ARE READ

reads_bytes : (c : Context) (s : Shape) → key_of s ≡ None → read_shaped c s kind.Bytes ≡ wire.unread
reads_bytes c shape.Implicit e = refl
reads_bytes c shape.Explicit e = refl
reads_bytes c (shape.OneofMember o) e = refl
reads_bytes c (shape.List p) e = refl
reads_bytes c (shape.Map k) e = absurd (cc)

pub reads_message : (c : Context) (s : Shape) (m : MessageId) → key_of s ≡ None → read_shaped c s (kind.Message m) ≡ message_in c m.0
reads_message c shape.Implicit m e = refl
reads_message c shape.Explicit m e = refl
reads_message c (shape.OneofMember o) m e = refl
reads_message c (shape.List p) m e = refl
reads_message c (shape.Map key) m e = absurd (cc)

pub grouped : (s : Shape) (m : MessageId) → key_of s ≡ None → group_shaped s (kind.Group m) ≡ a_message m.0
grouped shape.Implicit m e = refl
grouped shape.Explicit m e = refl
grouped (shape.OneofMember o) m e = refl
grouped (shape.List p) m e = refl
grouped (shape.Map k) m e = absurd (cc)

pub reads_packed : (c : Context) (k : Kind) → is_packable k ≡ true → read_listed c k ≡ wire.packed (element_of k)
reads_packed c kind.Text can = absurd (cc)
reads_packed c kind.Bytes can = absurd (cc)
reads_packed c (kind.Message m) can = absurd (cc)
reads_packed c (kind.Group m) can = absurd (cc)
reads_packed c k can = refl

pub no_key : (t : Shape) → not (is_map t) ≡ true → key_of t ≡ None
no_key (shape.Map key) e = absurd (cc)
no_key shape.Implicit e = refl
no_key shape.Explicit e = refl
no_key (shape.OneofMember o) e = refl
no_key (shape.List p) e = refl

-- SCALARS

sound_scalar :
    (old new : Types) (c : Context) (depth_left n : ℕ) (t : Shape) (a b : Kind) (x : Scalar) → key_of t ≡ None → read_field c (field_numbered n (fields_in new c)) ≡ read_shaped c t b → keeps_scalars old new a b ≡ true → IsOfKind a x
    → Sound (schema_of new) c depth_left n (written a x)
sound_scalar old new c depth_left n t kind.Int32 b (int32 z) none reading keeps h = Sound.is_varint
sound_scalar old new c depth_left n t kind.Int64 b (int64 z) none reading keeps h = Sound.is_varint
sound_scalar old new c depth_left n t kind.Uint32 b (uint32 i) none reading keeps h = Sound.is_varint
sound_scalar old new c depth_left n t kind.Uint64 b (uint64 i) none reading keeps h = Sound.is_varint
sound_scalar old new c depth_left n t kind.Sint32 b (int32 z) none reading keeps h = Sound.is_varint
sound_scalar old new c depth_left n t kind.Sint64 b (int64 z) none reading keeps h = Sound.is_varint
sound_scalar old new c depth_left n t kind.Bool b (boolean x) none reading keeps h = Sound.is_varint
sound_scalar old new c depth_left n t (kind.Enum e) b (enum z) none reading keeps h = Sound.is_varint
sound_scalar old new c depth_left n t (kind.ClosedEnum e) b (enum z) none reading keeps h = Sound.is_varint
sound_scalar old new c depth_left n t kind.Fixed64 b (uint64 i) none reading keeps h = Sound.is_fixed64
sound_scalar old new c depth_left n t kind.Sfixed64 b (int64 z) none reading keeps h = Sound.is_fixed64
sound_scalar old new c depth_left n t kind.Double b (double i) none reading keeps h = Sound.is_fixed64
sound_scalar old new c depth_left n t kind.Fixed32 b (uint32 i) none reading keeps h = Sound.is_fixed32
sound_scalar old new c depth_left n t kind.Sfixed32 b (int32 z) none reading keeps h = Sound.is_fixed32
sound_scalar old new c depth_left n t kind.Float b (float i) none reading keeps h = Sound.is_fixed32
sound_scalar old new c depth_left n t kind.Text kind.Text (text s) none reading keeps h = Sound.a_text (reading ∙ reads_text c t none) h
sound_scalar old new c depth_left n t kind.Text kind.Bytes (text s) none reading keeps h = Sound.some_bytes (reading ∙ reads_bytes c t none)
sound_scalar old new c depth_left n t kind.Text b (text s) none reading keeps h = absurd (cc)
sound_scalar old new c depth_left n t kind.Bytes kind.Bytes (bytes s) none reading keeps h = Sound.some_bytes (reading ∙ reads_bytes c t none)
sound_scalar old new c depth_left n t kind.Bytes b (bytes s) none reading keeps h = absurd (cc)
sound_scalar old new c depth_left n t a b x none reading keeps h = absurd h

-- PACKED LISTS

abbrev wire_element : ℕ → Element
wire_element w = if w == 0 then a_varint else (if w == 1 then eight_bytes else four_bytes)

element_wire : (k : Kind) → is_packable k ≡ true → element_of k ≡ wire_element (wire_type_of k)
element_wire kind.Text can = absurd (cc)
element_wire kind.Bytes can = absurd (cc)
element_wire (kind.Message m) can = absurd (cc)
element_wire (kind.Group m) can = absurd (cc)
element_wire k can = refl

number_element : (p : Payload) → IsNumeric p → IsElement (wire_element (wire_type p)) (number_bytes p)
number_element (varint n) h = varint_element (body_of_number (varint n) h).1
number_element (fixed64 n) h = eight_element refl
number_element (fixed32 n) h = four_element refl
number_element (len s) h = absurd h
number_element (group g) h = absurd h

elements_sound : (pool : Types) (k : Kind) (ds : Datums) → is_packable k ≡ true → AreDatums pool k ds → AreElements (wire_element (wire_type_of k)) (packed_bytes k ds)
elements_sound pool k no_datums can h = no_elements
elements_sound pool k (datum (scalar x) ds) can h =
    element (subst (λ (w : ℕ). IsElement (wire_element w) (element_bytes k x)) (wire_type-written k x h.0) (number_element (written k x) (IsNumeric-written k x h.0 can))) (elements_sound pool k ds can h.1) refl
elements_sound pool k (datum (message m) ds) can h = absurd (no_message_of pool k m (no_message k can) h.0)

-- MESSAGES ONE LEVEL DOWN

some_below : (depth_left n : ℕ) → suc n ≤ depth_left → (below : ℕ) × (depth_left ≡ suc below)
some_below zero n l = absurd (omega (arith, l))
some_below (suc below) n l = (below, refl)

-- the canonical records of a message one level down are sound
abbrev pub SoundBelow : Types → Types → (ℕ → ℕ → Type 0) → ℕ → Type 0
SoundBelow old new Pair depth_left =
    (m n : ℕ) (v : Message) → Pair m n → IsBody old m v → HasNoUnknown v → suc (message_depth v) ≤ depth_left → AreWritable (canon old m v) → (below : ℕ) × (depth_left ≡ suc below) × AllSound (schema_of new) (a_message n) below (canon old m v)

scalar_alone : (k : Kind) (x : Scalar) → IsOfKind k x → message_of_kind k ≡ None
scalar_alone (kind.Message i) y h = absurd h
scalar_alone (kind.Group i) y h = absurd h
scalar_alone k y h = refl

-- where the kinds of two fields are messages, their types are a pair
abbrev Leads : (ℕ → ℕ → Type 0) → Kind → Kind → Type 0
Leads Pair a b = (i j : ℕ) → message_of_kind a ≡ Some i → message_of_kind b ≡ Some j → Pair i j

module _ (old new : Types) (Pair : ℕ → ℕ → Type 0) (depth_left : ℕ) (inside : SoundBelow old new Pair depth_left) (good : (m : ℕ) (v : Message) → IsBody old m v → AreGood (canon old m v)) where
  -- the bytes of a message spell its records
  spells : (m : ℕ) (v : Message) → IsBody old m v → IsWritable (sealed (canon old m v)) → AreRecords (canon old m v) (shortest_records (canon old m v)) × AreWritable (canon old m v)
  spells m v w short =
      let g = good m v w in
      let fine = writable_records (canon old m v) g.numbered short in (shortest_records-spells (canon old m v) g.in_range fine, fine)

  -- a message in a field
  sound_message : (u n : ℕ) (t : Shape) (a b : Kind) (v : Message) → key_of t ≡ None → read_field (a_message u) (field_numbered n (message_fields new u)) ≡ read_shaped (a_message u) t b → group_of_field (field_numbered n (message_fields new u)) ≡ group_shaped t b
      → (keeps : keeps_kind old new a b ≡ true) → (pair : Leads Pair a b) → IsDatum old a (message v) → HasNoUnknown v → suc (message_depth v) ≤ depth_left → IsWritable (payload_of old a (message v))
      → Sound (schema_of new) (a_message u) depth_left n (payload_of old a (message v))
  sound_message u n t (kind.Message i) (kind.Message j) v none reading grouping keeps pair w known l short =
      let fine = spells i.0 v w short in
      let below = inside i.0 j.0 v (pair i.0 j.0 refl refl) w known l fine.1 in
      subst (λ (r : ℕ). Sound (schema_of new) (a_message u) r n (sealed (canon old i.0 v))) (sym below.1) (Sound.a_message {d = a_message j.0} (reading ∙ reads_message (a_message u) t j none) fine.0 below.2)
  sound_message u n t (kind.Group i) (kind.Group j) v none reading grouping keeps pair w known l short =
      let below = inside i.0 j.0 v (pair i.0 j.0 refl refl) w known l (group_writable (canon old i.0 v) short) in
      subst (λ (r : ℕ). Sound (schema_of new) (a_message u) r n (group (group_of (canon old i.0 v)))) (sym below.1)
      (Sound.a_group refl (subst (λ (d : Context). AllSound (schema_of new) d below.0 (canon old i.0 v)) (sym (grouping ∙ grouped t j none)) below.2))
  sound_message u n t (kind.Message i) kind.Bytes v none reading grouping keeps pair w known l short = Sound.some_bytes (reading ∙ reads_bytes (a_message u) t none)
  sound_message u n t (kind.Message i) b v none reading grouping keeps pair w known l short = absurd (cc)
  sound_message u n t (kind.Group i) b v none reading grouping keeps pair w known l short = absurd (cc)
  sound_message u n t a b v none reading grouping keeps pair w known l short = absurd w

  -- a message that is the value of an entry, at the level of the entry
  sound_entry_message : (l a b : Kind) (below : ℕ) (v : Message) → is_group a ≡ false → depth_left ≡ suc below
      → (keeps : keeps_kind old new a b ≡ true) → (pair : Leads Pair a b) → IsDatum old a (message v) → HasNoUnknown v → suc (message_depth v) ≤ depth_left → IsWritable (payload_of old a (message v))
      → Sound (schema_of new) (an_entry l b) below 2 (payload_of old a (message v))
  sound_entry_message l (kind.Message i) (kind.Message j) below v single level keeps pair w known deep short =
      let fine = spells i.0 v w short in
      let here = inside i.0 j.0 v (pair i.0 j.0 refl refl) w known deep fine.1 in
      let same : here.0 ≡ below = omega (arith, level, here.1) in
      Sound.a_value {d = a_message j.0} (reads_message (an_entry l (kind.Message j)) shape.Explicit j refl) fine.0 (subst (λ (r : ℕ). AllSound (schema_of new) (a_message j.0) r (canon old i.0 v)) same here.2)
  sound_entry_message l (kind.Message i) kind.Bytes below v single level keeps pair w known deep short = Sound.some_bytes refl
  sound_entry_message l (kind.Message i) b below v single level keeps pair w known deep short = absurd (cc)
  sound_entry_message l (kind.Group i) b below v single level keeps pair w known deep short = absurd (cc)
  sound_entry_message l a b below v single level keeps pair w known deep short = absurd w

  module _ (u : ℕ) (a b : Kind) (keeps : keeps_kind old new a b ≡ true) (pair : Leads Pair a b) (name : List ℕ) (n : ℕ) where
    sound_datum : (t : Shape) (d : Datum) → key_of t ≡ None → read_field (a_message u) (field_numbered n (message_fields new u)) ≡ read_shaped (a_message u) t b → group_of_field (field_numbered n (message_fields new u)) ≡ group_shaped t b
        → IsDatum old a d → ValueHasNoUnknown d → levels_of d ≤ depth_left → IsWritable (payload_of old a d) → Sound (schema_of new) (a_message u) depth_left n (payload_of old a d)
    sound_datum t (scalar x) none reading grouping w known l short = sound_scalar old new (a_message u) depth_left n t a b x none reading (kept_scalars old new a b (scalar_alone a x w) keeps) w
    sound_datum t (message v) none reading grouping w known l short = sound_message u n t a b v none reading grouping keeps pair w known l short

    sound_each : (s t : Shape) (ds : Datums) → key_of t ≡ None → read_field (a_message u) (field_numbered n (message_fields new u)) ≡ read_shaped (a_message u) t b → group_of_field (field_numbered n (message_fields new u)) ≡ group_shaped t b
        → AreDatums old a ds → ValuesHaveNoUnknown ds → datums_depth ds ≤ depth_left → AreWritable (canon_each old (field_with name n a s) ds) → AllSound (schema_of new) (a_message u) depth_left (canon_each old (field_with name n a s) ds)
    sound_each s t no_datums none reading grouping w known l short = AllSound.none
    sound_each s t (datum d ds) none reading grouping w known l short =
        AllSound.one (sound_datum t d none reading grouping w.0 known.0 (omega (arith, l)) short.1) (sound_each s t ds none reading grouping w.1 known.1 (omega (arith, l)) short.2)

    sound_packed : (p : Bool) (d : Datum) (ds : Datums) → read_field (a_message u) (field_numbered n (message_fields new u)) ≡ read_shaped (a_message u) (shape.List p) b → is_packable a ≡ true
        → AreDatums old a (datum d ds) → datums_declared old a (datum d ds) ≡ true → Sound (schema_of new) (a_message u) depth_left n (len (packed_bytes a (datum d ds)))
    sound_packed p (scalar x) ds reading can w declared =
        let scalars = kept_scalars old new a b (no_message a can) keeps in
        let first = (and_both (is_declared old a x) (datums_declared old a ds) declared).0 in
        let can_too = packable_too old new a b scalars x w.0 first can in
        Sound.a_list (reading ∙ reads_packed (a_message u) b can_too)
        (subst (λ (e : Element). AreElements e (packed_bytes a (datum (scalar x) ds))) (ap wire_element (sym (same_wire old new a b scalars x w.0 first)) ∙ sym (element_wire b can_too)) (elements_sound old a (datum (scalar x) ds) can w))
    sound_packed p (message v) ds reading can w declared = absurd (no_message_of old a v (no_message a can) w.0)

    sound_value : (l : Kind) (below : ℕ) (d : Datum) → is_group a ≡ false → depth_left ≡ suc below → IsDatum old a d → ValueHasNoUnknown d → suc (levels_in_entry d) ≤ depth_left → IsWritable (payload_of old a d)
        → Sound (schema_of new) (an_entry l b) below 2 (payload_of old a d)
    sound_value l below (scalar x) alone level w known deep short = sound_scalar old new (an_entry l b) below 2 shape.Explicit a b x refl refl (kept_scalars old new a b (scalar_alone a x w) keeps) w
    sound_value l below (message v) alone level w known deep short = sound_entry_message l a b below v alone level keeps pair w known deep short

    sound_entries : (key l : Kind) (es : Entries) → keeps_scalars old new key l ≡ true → read_field (a_message u) (field_numbered n (message_fields new u)) ≡ wire.message (an_entry l b) → is_group a ≡ false → AreEntries old key a es → EntriesHaveNoUnknown es
        → entries_depth es ≤ depth_left → AreWritable (canon_entries old (field_with name n a (shape.Map key)) es) → AllSound (schema_of new) (a_message u) depth_left (canon_entries old (field_with name n a (shape.Map key)) es)
    sound_entries key l no_entries keys reading alone w known deep short = AllSound.none
    sound_entries key l (entry x d es) keys reading alone w known deep short =
        let level : suc (levels_in_entry d) ≤ depth_left = omega (arith, deep) in
        let below = some_below depth_left (levels_in_entry d) level in
        let good_pair = entry_records-good old (λ m rs. body no_fields rs) 0 (λ m v h k. absurd (omega (arith, k))) good key a x d w.0 w.1 in
        let fine = writable_records (entry_records old key a x d) good_pair.numbered short.1 in
        AllSound.one
        (subst (λ (r : ℕ). Sound (schema_of new) (a_message u) r n (sealed (entry_records old key a x d))) (sym below.1)
        (Sound.a_message {d = an_entry l b} reading (shortest_records-spells (entry_records old key a x d) good_pair.in_range fine)
        (AllSound.one (sound_scalar old new (an_entry l b) below.0 1 shape.Explicit key l x refl refl keys w.0)
        (AllSound.one (sound_value l below.0 d alone below.1 w.1 known.0 level fine.2.1) AllSound.none))))
        (sound_entries key l es keys reading alone w.2 known.1 (omega (arith, deep)) short.2)

    no_group : (k : Kind) → is_of_proto2 k ≡ false → is_group k ≡ false
    no_group (kind.Group m) e = absurd (cc)
    no_group k e = refl

    list_plain : (t : Shape) → is_list t ≡ true → key_of t ≡ None
    list_plain (shape.Map key) e = absurd (cc)
    list_plain shape.Implicit e = refl
    list_plain shape.Explicit e = refl
    list_plain (shape.OneofMember o) e = refl
    list_plain (shape.List p) e = refl

    sound_holding : (s t : Shape) (h : Holding) → read_field (a_message u) (field_numbered n (message_fields new u)) ≡ read_shaped (a_message u) t b → group_of_field (field_numbered n (message_fields new u)) ≡ group_shaped t b
        → MayBePacked s a → MayBeValue s a → HasKeyKind s → keeps_shape old new s t ≡ true → IsOfShape s h → IsHeld old s a h → holds_declared old a h ≡ true → HoldsNoUnknown h → holding_depth h ≤ depth_left
        → AreWritable (canon_holding old (field_with name n a s) h) → AllSound (schema_of new) (a_message u) depth_left (canon_holding old (field_with name n a s) h)
    sound_holding shape.Implicit t (one d) reading grouping can may key fit shaped w declared known l short = AllSound.one (sound_datum t d (no_key t fit) reading grouping w known l short.1) AllSound.none
    sound_holding shape.Explicit t (one d) reading grouping can may key fit shaped w declared known l short = AllSound.one (sound_datum t d (no_key t fit) reading grouping w known l short.1) AllSound.none
    sound_holding (shape.OneofMember o) t (one d) reading grouping can may key fit shaped w declared known l short = AllSound.one (sound_datum t d (no_key t fit) reading grouping w known l short.1) AllSound.none
    sound_holding (shape.List true) (shape.List p) (list (datum d ds)) reading grouping can may key fit shaped w declared known l short = AllSound.one (sound_packed p d ds reading can w declared) AllSound.none
    sound_holding (shape.List false) t (list (datum d ds)) reading grouping can may key fit shaped w declared known l short = sound_each (shape.List false) t (datum d ds) (list_plain t fit) reading grouping w known l short
    sound_holding (shape.List true) t (list (datum d ds)) reading grouping can may key fit shaped w declared known l short = absurd (cc)
    sound_holding (shape.Map k) (shape.Map q) (map_of (entry x d es)) reading grouping can may key fit shaped w declared known l short =
        sound_entries k q (entry x d es) (kept_scalars old new k q (key_scalar k key) fit) reading (no_group a may) w.0 known l short
    sound_holding (shape.Map k) t (map_of (entry x d es)) reading grouping can may key fit shaped w declared known l short = absurd (cc)
    sound_holding s t h reading grouping can may key fit shaped w declared known l short = absurd shaped

  -- values of a field of implicit presence, of which the new kind keeps all but the default
  sound_others : (u n : ℕ) (a b : Kind) (h : Holding) (s : Shape) → is_implicit s ≡ true → keeps_others new a b ≡ true → IsOfShape s h → IsHeld old s a h → (name : List ℕ)
      → AllSound (schema_of new) (a_message u) depth_left (canon_holding old (field_with name n a s) h)
  sound_others u n a b (one (scalar x)) s i keeps shaped w name = AllSound.one (by a b x keeps w) AllSound.none
    where
      by : (a b : Kind) (x : Scalar) → keeps_others new a b ≡ true → IsOfKind a x → Sound (schema_of new) (a_message u) depth_left n (written a x)
      by kind.Bool (kind.ClosedEnum e) (boolean x) keeps w = Sound.is_varint
      by kind.Int32 (kind.ClosedEnum e) (int32 z) keeps w = Sound.is_varint
      by (kind.Enum j) (kind.ClosedEnum e) (enum z) keeps w = Sound.is_varint
      by kind.Bool (kind.ClosedEnum e) x keeps w = absurd w
      by kind.Int32 (kind.ClosedEnum e) x keeps w = absurd w
      by (kind.Enum j) (kind.ClosedEnum e) x keeps w = absurd w
      by a b x keeps w = absurd (cc)
  sound_others u n a b (one (message v)) s i keeps shaped w name = absurd (by a keeps w)
    where
      by : (a : Kind) → keeps_others new a b ≡ true → IsDatum old a (message v) → ⊥
      by (kind.Message j) e w = absurd (cc)
      by (kind.Group j) e w = absurd (cc)
      by a e w = w
  sound_others u n a b (list ds) shape.Implicit i keeps shaped w name = absurd shaped
  sound_others u n a b (map_of es) shape.Implicit i keeps shaped w name = absurd shaped
  sound_others u n a b h s i keeps shaped w name = absurd (cc)

  -- the records of what a kept field holds
  pub sound_kept :
      (rules_old : IsPool old) (m u k : ℕ) (f g : FieldView) (h : Holding) → Leads Pair f.kind g.kind → IsKept old new m u f g → field_numbered k (message_fields old m) ≡ Some f → field_numbered k (message_fields new u) ≡ Some g
      → IsOfShape f.shape h → IsHeld old f.shape f.kind h → holds_declared old f.kind h ≡ true → HoldsNoUnknown h → holding_depth h ≤ depth_left → AreWritable (canon_holding old f h)
      → AllSound (schema_of new) (a_message u) depth_left (canon_holding old f h)
  sound_kept rules_old m u k f g h pair kept found_f found_g shaped w declared known l short = by (keeps_kind old new f.kind g.kind) refl
    where
      there : field_numbered f.number (message_fields new u) ≡ Some g
      there = ap (λ (i : ℕ). field_numbered i (message_fields new u)) (found_number k (message_fields old m) f found_f) ∙ found_g

      by : (b : Bool) → keeps_kind old new f.kind g.kind ≡ b → AllSound (schema_of new) (a_message u) depth_left (canon_holding old f h)
      by true keeps =
          sound_holding u f.kind g.kind keeps pair f.name f.number f.shape g.shape h (ap (read_field (a_message u)) there) (ap group_of_field there) (can_pack old m rules_old k f found_f) (may_be_value old m k f rules_old found_f) (key_kinds old m k f rules_old found_f)
          kept.shape shaped w declared known l short
      by false loses =
          let others = and_both (is_implicit f.shape) (keeps_others new f.kind g.kind) (ap (λ (b : Bool). b || (is_implicit f.shape && keeps_others new f.kind g.kind)) (sym loses) ∙ kept.kind) in
          sound_others u f.number f.kind g.kind h f.shape others.0 others.1 shaped w f.name

  -- records of a number that the new type does not declare
  sound_lost_all : (u k : ℕ) (rs : List Record) → field_numbered k (message_fields new u) ≡ None → AllNumbered k rs → records_depth rs ≤ depth_left → AllSound (schema_of new) (a_message u) depth_left rs
  unfolding AllNumbered
  sound_lost_all u k [] e h l = AllSound.none
  sound_lost_all u k (r ∷ rs) e h l =
      AllSound.one (sound_lost new u depth_left r.number r.payload (ap (λ (i : ℕ). field_numbered i (message_fields new u)) h.0 ∙ e) (omega (arith, l))) (sound_lost_all u k rs e h.1 (omega (arith, l)))

-- ONE LEVEL

module _ (old new : Types) (rules_old : IsPool old) (rules_new : IsPool new) (start : ℕ × ℕ) (unbroken : (fields : ℕ) (p : ℕ × ℕ) → fields ≤ 100 → ReachedIn old new start fields p → NoneBreaks old new p.0 p.1) where
  module _ (depth_left fields : ℕ) (few : fields ≤ 100) (inside : SoundBelow old new (Pair old new rules_old rules_new start unbroken (suc fields)) depth_left) (m n : ℕ) (pair : Pair old new rules_old rules_new start unbroken fields m n) where
    sound_at : (k : ℕ) (f : FieldView) (h : Holding) → field_numbered k (message_fields old m) ≡ Some f → IsOfShape f.shape h → IsHeld old f.shape f.kind h → holds_declared old f.kind h ≡ true → HoldsNoUnknown h → holding_depth h ≤ depth_left
        → AreWritable (canon_holding old f h) → AllSound (schema_of new) (a_message n) depth_left (canon_holding old f h)
    sound_at k f h found shaped w declared known l short = by (field_numbered k (message_fields new n)) refl
      where
        by : (o : Option FieldView) → field_numbered k (message_fields new n) ≡ o → AllSound (schema_of new) (a_message n) depth_left (canon_holding old f h)
        by None e =
            let deep = depth_holding old f h in
            sound_lost_all old new (Pair old new rules_old rules_new start unbroken (suc fields)) depth_left inside (canon-good old rules_old) n k (canon_holding old f h) e (numbered_at old (message_fields old m) (can_pack old m rules_old) k h f found) (omega (arith, deep, l))
        by (Some g) e =
            sound_kept old new (Pair old new rules_old rules_new start unbroken (suc fields)) depth_left inside (canon-good old rules_old) rules_old m n k f g h (lead old new rules_old rules_new start unbroken fields m n k f g pair found e)
            (kept_unbroken old new m n k f g (unbroken fields (m, n) few pair) found e) found e shaped w declared known l short

    sound_fields : (fs : Fields) → AreFields old (message_fields old m) fs → FieldsHaveNoUnknown fs → fields_depth fs ≤ depth_left → AreWritable (canon_fields old (message_fields old m) fs) → AllSound (schema_of new) (a_message n) depth_left (canon_fields old (message_fields old m) fs)
    sound_fields no_fields w known l short = AllSound.none
    sound_fields (field k h fs) w known l short =
        let all = message_fields old m in
        let at = some_of (field_numbered k all) (λ (g : FieldView). IsOfShape g.shape h × IsHeld old g.shape g.kind h × (holds_declared old g.kind h ≡ true)) w.0 in
        let first : by_field (field_numbered k all) (λ (f : FieldView). canon_holding old f h) ≡ canon_holding old at.0 h = ap (λ (o : Option FieldView). by_field o (λ (f : FieldView). canon_holding old f h)) at.1 in
        let fine : AreWritable (canon_holding old at.0 h ++ canon_fields old all fs) = subst (λ (rs : List Record). AreWritable (rs ++ canon_fields old all fs)) first short in
        subst (λ (rs : List Record). AllSound (schema_of new) (a_message n) depth_left (rs ++ canon_fields old all fs)) (sym first)
        (all_sound-append
        (sound_at k at.0 h at.1 at.2.0 at.2.1 at.2.2 known.0 (omega (arith, l)) (writable_first (canon_holding old at.0 h) (canon_fields old all fs) fine))
        (sound_fields fs w.1 known.1 (omega (arith, l)) (writable_rest (canon_holding old at.0 h) (canon_fields old all fs) fine)))

    sound_body : (v : Message) → IsBody old m v → HasNoUnknown v → message_depth v ≤ depth_left → AreWritable (canon old m v) → AllSound (schema_of new) (a_message n) depth_left (canon old m v)
    sound_body (body fs us) w known l short =
        let all = message_fields old m in
        let same : canon_fields old all fs ++ us ≡ canon_fields old all fs = ap (λ (rs : List Record). canon_fields old all fs ++ rs) known.0 ∙ append-nil (canon_fields old all fs) in
        subst (AllSound (schema_of new) (a_message n) depth_left) (sym same) (sound_fields fs w.0 known.1 (omega (arith, l)) (writable_first (canon_fields old all fs) us short))

  -- ALL LEVELS

  pub sound_within : (depth_left fields m n : ℕ) (v : Message) → Pair old new rules_old rules_new start unbroken fields m n → fields + depth_left ≤ 100 → IsBody old m v → HasNoUnknown v → message_depth v ≤ depth_left → AreWritable (canon old m v) → AllSound (schema_of new) (a_message n) depth_left (canon old m v)
  sound_within zero fields m n v pair few w known l short = sound_body zero fields (omega (arith, few)) (λ i j x p b d k s. absurd (omega (arith, k))) m n pair v w known l short
  sound_within (suc depth_left) fields m n v pair few w known l short =
      sound_body (suc depth_left) fields (omega (arith, few)) (λ i j x p b d k s. (depth_left, refl, sound_within depth_left (suc fields) i j x p (omega (arith, few)) b d (omega (arith, k)) s)) m n pair v w known l short

pub encodings_read : (old new : Types) → IsPool old → IsPool new → ReadsEncodings old new
encodings_read old new rules_old rules_new m n unbroken v well known small =
    let g = canon-good old rules_old m v well.parts in (
      value new n (canon old m v),
      record {
        size = omega (arith, small);
        derives = record {
          records = canon old m v;
          spelled = canon-spelled old m v rules_old well.parts small;
          sound = sound_within old new rules_old rules_new (m, n) unbroken 100 0 m n v begun_in (omega arith) well.parts known well.depth (writable_records (canon old m v) g.numbered small);
          valued = refl;
        };
      },
      messages_read old new rules_old rules_new m n unbroken v well known,
    )
