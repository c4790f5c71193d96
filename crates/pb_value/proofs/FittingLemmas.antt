-- What is known of the records that count for a field of a message or of a map entry.
use Rattle.std.proofs.Common.{◌≡◌, ℕ, suc, ◌^◌, ◌<◌, List, [], ◌∷◌, length, arith, refl, sym, ap, ◌∙◌, subst, Some, None}
use Rattle.std.proofs.lemmas.Bool.Decides.{nat_tests}
use Rattle.std.specs.Prelude.{true, ◌==◌}
use Rattle.std.specs.List.{AllByRecursion}
use Rattle.pb_wire.specs.Record.{Payload, len, group, Group, group_of, records_in, Record, wire_type}
use Rattle.pb_wire.specs.Ranges.{IsNumber, AreBytes, IsInRange, IsInRangeGroup, AreInRange}
use Rattle.pb_wire.specs.Writable.{IsWritable, IsWritableGroup, AreWritable}
use Rattle.pb_wire.proofs.WritingLemmas.{group_writable}
use Rattle.pb_wire.specs.Schema as wire
use Rattle.pb_wire.specs.Schema.{Reading}
use Rattle.pb_wire.specs.Sound.{Sound, AllSound}
use Rattle.pb_wire.specs.Inside.{records_spelled, records_inside}
use Rattle.pb_wire.proofs.RangeLemmas.{spelled_in_range, spelled_writable}
use Rattle.pb_wire.proofs.InsideLemmas.{records_spelled-AreRecords}
use Rattle.pb_schema.specs.declared.types.Kind.{Kind}
use Rattle.pb_schema.specs.declared.types.Kind.TheVariants as kind
use Rattle.pb_schema.specs.declared.types.MessageId.{MessageId}
use Rattle.pb_schema.specs.declared.types.Shape.{Shape}
use Rattle.pb_schema.specs.declared.types.Shape.TheVariants as shape
use Rattle.pb_schema.specs.Types.{FieldView, Types, field_numbered}
use Rattle.pb_schema.specs.Kinds.{message_of_kind, IsOfKind}
use Rattle.pb_schema.specs.Fits.{fits, fits_shape}
use Rattle.pb_schema.specs.Context.{Context, a_message, an_entry, fields_in, message_in, read_shaped, read_field, group_of_field, group_shaped, schema_of}
use Rattle.pb_schema.specs.Packed.{elements}
use Rattle.pb_value.specs.Value.{all_elements}
use Rattle.pb_value.specs.WellFormed.{key_of}
use Rattle.pb_value.proofs.BytesLemmas.{both}
use Rattle.pb_value.proofs.ListLemmas.{all_append, all_weaker}
use Rattle.pb_value.proofs.ElementLemmas.{IsTextFor, elements-AreOfKind}
use Rattle.pb_value.proofs.SoundLemmas.{SpellsSound, sound_text, sound_message, sound_value, sound_inside}
use Rattle.pb_value.proofs.GroupLemmas.{records_in-group_of, group_in_range}

-- a record in range that can be written, sound in its context
pub record IsGood (pool : Types) (c : Context) (depth_left : ℕ) (r : Record) : Type 0 where
  pub number : IsNumber r.number
  pub in_range : IsInRange r.payload
  pub writable : IsWritable r.payload
  pub sound : Sound (schema_of pool) c depth_left r.number r.payload

abbrev pub AllGood : Types → Context → ℕ → List Record → Type 0
AllGood pool c depth_left rs = AllByRecursion (IsGood pool c depth_left) rs

pub all_good : (pool : Types) (c : Context) (depth_left : ℕ) (rs : List Record) → AreInRange rs → AreWritable rs → AllSound (schema_of pool) c depth_left rs → AllGood pool c depth_left rs
all_good pool c depth_left [] h w AllSound.none = tt
all_good pool c depth_left (r ∷ rs) h w (AllSound.one s ss) = (record { number = w.0; in_range = h.0; writable = w.1; sound = s }, all_good pool c depth_left rs h.1 w.2 ss)

-- a good record that fits a field of this shape and kind, and is read as one of it
pub record CountsFor (pool : Types) (c : Context) (depth_left : ℕ) (s : Shape) (k : Kind) (r : Record) : Type 0 where
  pub good : IsGood pool c depth_left r
  pub fitting : fits_shape s k (wire_type r.payload) ≡ true
  pub reading : read_field c (field_numbered r.number (fields_in pool c)) ≡ read_shaped c s k
  pub grouping : group_of_field (field_numbered r.number (fields_in pool c)) ≡ group_shaped s k

abbrev pub AllCount : Types → Context → ℕ → Shape → Kind → List Record → Type 0
AllCount pool c depth_left s k rs = AllByRecursion (CountsFor pool c depth_left s k) rs

-- READING

-- a record that fits a field has its number
pub same_number : (f : FieldView) (r : Record) → fits f r ≡ true → r.number ≡ f.number
same_number f r e = same r.number f.number (both (r.number == f.number) (fits_shape f.shape f.kind (wire_type r.payload)) e).0
  where
    same : (a b : ℕ) → (a == b) ≡ true → a ≡ b
    same a b q = grind (arith, nat_tests)

counted : (pool : Types) (c : Context) (depth_left : ℕ) (f : FieldView) → field_numbered f.number (fields_in pool c) ≡ Some f → (r : Record) → IsGood pool c depth_left r → fits f r ≡ true → CountsFor pool c depth_left f.shape f.kind r
counted pool c depth_left f found r good e = record {
  good = good;
  fitting = (both (r.number == f.number) (fits_shape f.shape f.kind (wire_type r.payload)) e).1;
  reading = ap (λ (n : ℕ). read_field c (field_numbered n (fields_in pool c))) (same_number f r e) ∙ ap (read_field c) found;
  grouping = ap (λ (n : ℕ). group_of_field (field_numbered n (fields_in pool c))) (same_number f r e) ∙ ap group_of_field found;
}

-- the good records that fit a field count for it
pub all_count :
    (pool : Types) (c : Context) (depth_left : ℕ) (f : FieldView) → field_numbered f.number (fields_in pool c) ≡ Some f → (rs : List Record)
    → AllByRecursion (λ r. IsGood pool c depth_left r × (fits f r ≡ true)) rs → AllCount pool c depth_left f.shape f.kind rs
all_count pool c depth_left f found rs h = all_weaker _ (CountsFor pool c depth_left f.shape f.kind) (λ r w. counted pool c depth_left f found r w.0 w.1) rs h

pub reads_text : (c : Context) (s : Shape) → key_of s ≡ None → read_shaped c s kind.Text ≡ wire.text
reads_text c shape.Implicit e = refl
reads_text c shape.Explicit e = refl
reads_text c (shape.OneofMember o) e = refl
reads_text c (shape.List p) e = refl
reads_text c (shape.Map k) e = absurd (cc)

reads_message : (c : Context) (s : Shape) (m : MessageId) → key_of s ≡ None → read_shaped c s (kind.Message m) ≡ message_in c m.0
reads_message c shape.Implicit m e = refl
reads_message c shape.Explicit m e = refl
reads_message c (shape.OneofMember o) m e = refl
reads_message c (shape.List p) m e = refl
reads_message c (shape.Map k) m e = absurd (cc)

text_for : (pool : Types) (c : Context) (depth_left : ℕ) (s : Shape) (k : Kind) (n : ℕ) (p : Payload) → key_of s ≡ None → read_field c (field_numbered n (fields_in pool c)) ≡ read_shaped c s k → Sound (schema_of pool) c depth_left n p → IsTextFor k p
text_for pool c depth_left s kind.Text n (len b) none reading sound = sound_text sound (reading ∙ reads_text c s none)
text_for pool c depth_left s k n p none reading sound = tt

-- the elements of the records that count for a field are of its kind
pub all_elements-AreOfKind : (pool : Types) (c : Context) (depth_left : ℕ) (s : Shape) (k : Kind) (rs : List Record) → key_of s ≡ None → AllCount pool c depth_left s k rs → AllByRecursion (IsOfKind k) (all_elements k rs)
all_elements-AreOfKind pool c depth_left s k [] none h = tt
all_elements-AreOfKind pool c depth_left s k (r ∷ rs) none h =
    all_append (IsOfKind k) (elements k r.payload) (all_elements k rs)
    (elements-AreOfKind k r.payload h.0.good.in_range (text_for pool c depth_left s k r.number r.payload none h.0.reading h.0.good.sound))
    (all_elements-AreOfKind pool c depth_left s k rs none h.1)

-- WHAT STANDS INSIDE

len_of : (s : Shape) (m : MessageId) (p : Payload) → fits_shape s (kind.Message m) (wire_type p) ≡ true → (b : List ℕ) × (p ≡ len b)
len_of s m (len b) e = (b, refl)
len_of shape.Implicit m p e = absurd (cc)
len_of s m p e = absurd (cc)

len_of_map : (key k : Kind) (p : Payload) → fits_shape (shape.Map key) k (wire_type p) ≡ true → (b : List ℕ) × (p ≡ len b)
len_of_map key k (len b) e = (b, refl)
len_of_map key k p e = absurd (cc)

-- the records that sound bytes spell are good
good_inside :
    (pool : Types) (d : Context) (depth_left : ℕ) (b : List ℕ) → AreBytes b → length b < 2 ^ 31 → SpellsSound (schema_of pool) d depth_left b → AllGood pool d depth_left (records_spelled b)
good_inside pool d depth_left b bytes short h =
    let read : records_spelled b ≡ h.records = records_spelled-AreRecords h.records b h.spelled (omega (arith, short)) in
    subst (AllGood pool d depth_left) (sym read) (all_good pool d depth_left h.records (spelled_in_range h.records b h.spelled bytes) (spelled_writable h.records b h.spelled) h.sound)

group_for : (s : Shape) (m : MessageId) (p : Payload) → fits_shape s (kind.Group m) (wire_type p) ≡ true → key_of s ≡ None → (g : Group) × (p ≡ group g)
group_for s m (group g) e none = (g, refl)
group_for shape.Implicit m p e none = absurd (cc)
group_for shape.Explicit m p e none = absurd (cc)
group_for (shape.OneofMember o) m p e none = absurd (cc)
group_for (shape.List q) m p e none = absurd (cc)
group_for (shape.Map key) m p e none = absurd (cc)

grouped : (s : Shape) (m : MessageId) → key_of s ≡ None → group_shaped s (kind.Group m) ≡ a_message m.0
grouped shape.Implicit m e = refl
grouped shape.Explicit m e = refl
grouped (shape.OneofMember o) m e = refl
grouped (shape.List p) m e = refl
grouped (shape.Map k) m e = absurd (cc)

-- the records of a sound group that is a field are good, one level down
inside_group :
    (pool : Types) (t depth_left : ℕ) (s : Shape) (m : MessageId) (r : Record) → key_of s ≡ None → CountsFor pool (a_message t) depth_left s (kind.Group m) r
    → (below : ℕ) × (depth_left ≡ suc below) × AllGood pool (a_message m.0) below (records_inside r.payload)
inside_group pool t depth_left s m r none h =
    let g = group_for s m r.payload h.fitting none in
    let sound : Sound (schema_of pool) (a_message t) depth_left r.number (group g.0) = subst (λ (p : Payload). Sound (schema_of pool) (a_message t) depth_left r.number p) g.1 h.good.sound in
    let whole = sound_inside sound in
    let typed : group_of_field (field_numbered r.number (fields_in pool (a_message t))) ≡ a_message m.0 = h.grouping ∙ grouped s m none in
    let in_range : IsInRangeGroup (group_of whole.2) = subst IsInRangeGroup whole.3 (subst IsInRange g.1 h.good.in_range) in
    let writable : IsWritableGroup (group_of whole.2) = subst IsWritableGroup whole.3 (subst IsWritable g.1 h.good.writable) in
    let same : records_inside r.payload ≡ whole.2 = ap records_inside g.1 ∙ ap records_in whole.3 ∙ records_in-group_of whole.2 in (
      whole.0,
      whole.1,
      subst (λ (rs : List Record). AllGood pool (a_message m.0) whole.0 rs) (sym same)
          (all_good pool (a_message m.0) whole.0 whole.2 (group_in_range whole.2 in_range) (group_writable whole.2 writable)
          (subst (λ (d : Context). AllSound (schema_of pool) d whole.0 whole.2) typed whole.4)),
    )

-- of a field of messages that are no groups
inside_len :
    (pool : Types) (t depth_left : ℕ) (s : Shape) (m : MessageId) (r : Record) → key_of s ≡ None → CountsFor pool (a_message t) depth_left s (kind.Message m) r
    → (below : ℕ) × (depth_left ≡ suc below) × AllGood pool (a_message m.0) below (records_inside r.payload)
inside_len pool t depth_left s m r none h =
    let b = len_of s m r.payload h.fitting in
    let sound : Sound (schema_of pool) (a_message t) depth_left r.number (len b.0) = subst (λ (p : Payload). Sound (schema_of pool) (a_message t) depth_left r.number p) b.1 h.good.sound in
    let whole = sound_message sound (a_message m.0) (h.reading ∙ reads_message (a_message t) s m none) in (
      whole.0,
      whole.1,
      subst (λ (p : Payload). AllGood pool (a_message m.0) whole.0 (records_inside p)) (sym b.1)
          (good_inside pool (a_message m.0) whole.0 b.0 (subst IsInRange b.1 h.good.in_range) (subst IsWritable b.1 h.good.writable) whole.2),
    )

-- of a field of messages in a message: its record is one level down
pub inside_message :
    (pool : Types) (t depth_left : ℕ) (s : Shape) (k : Kind) (m : ℕ) (r : Record) → message_of_kind k ≡ Some m → key_of s ≡ None → CountsFor pool (a_message t) depth_left s k r
    → (below : ℕ) × (depth_left ≡ suc below) × AllGood pool (a_message m) below (records_inside r.payload)
inside_message pool t depth_left s (kind.Message j) m r e none h =
    let same : j.0 ≡ m = cc in
    let there = inside_len pool t depth_left s j r none h in
    (there.0, there.1, subst (λ (i : ℕ). AllGood pool (a_message i) there.0 (records_inside r.payload)) same there.2)
inside_message pool t depth_left s (kind.Group j) m r e none h =
    let same : j.0 ≡ m = cc in
    let there = inside_group pool t depth_left s j r none h in
    (there.0, there.1, subst (λ (i : ℕ). AllGood pool (a_message i) there.0 (records_inside r.payload)) same there.2)
inside_message pool t depth_left s k m r e none h = absurd (cc)

-- of a message in a map entry: its records are at the entry's level
pub inside_entry :
    (pool : Types) (key value : Kind) (depth_left : ℕ) (s : Shape) (m : MessageId) (r : Record) → key_of s ≡ None → CountsFor pool (an_entry key value) depth_left s (kind.Message m) r
    → AllGood pool (a_message m.0) depth_left (records_inside r.payload)
inside_entry pool key value depth_left s m r none h =
    let b = len_of s m r.payload h.fitting in
    let sound : Sound (schema_of pool) (an_entry key value) depth_left r.number (len b.0) = subst (λ (p : Payload). Sound (schema_of pool) (an_entry key value) depth_left r.number p) b.1 h.good.sound in
    let whole = sound_value sound (a_message m.0) (h.reading ∙ reads_message (an_entry key value) s m none) in
    subst (λ (p : Payload). AllGood pool (a_message m.0) depth_left (records_inside p)) (sym b.1)
    (good_inside pool (a_message m.0) depth_left b.0 (subst IsInRange b.1 h.good.in_range) (subst IsWritable b.1 h.good.writable) whole)

-- of a map: its record holds an entry, one level down
pub inside_map :
    (pool : Types) (t depth_left : ℕ) (key k : Kind) (r : Record) → CountsFor pool (a_message t) depth_left (shape.Map key) k r
    → (below : ℕ) × (depth_left ≡ suc below) × AllGood pool (an_entry key k) below (records_inside r.payload)
inside_map pool t depth_left key k r h =
    let b = len_of_map key k r.payload h.fitting in
    let sound : Sound (schema_of pool) (a_message t) depth_left r.number (len b.0) = subst (λ (p : Payload). Sound (schema_of pool) (a_message t) depth_left r.number p) b.1 h.good.sound in
    let whole = sound_message sound (an_entry key k) h.reading in (
      whole.0,
      whole.1,
      subst (λ (p : Payload). AllGood pool (an_entry key k) whole.0 (records_inside p)) (sym b.1)
          (good_inside pool (an_entry key k) whole.0 b.0 (subst IsInRange b.1 h.good.in_range) (subst IsWritable b.1 h.good.writable) whole.2),
    )
