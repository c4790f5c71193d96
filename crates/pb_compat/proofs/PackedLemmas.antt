-- Packed lists of one element that is unlike what the new kind reads of them.
use Rattle.std.proofs.Common.{◌≡◌, ℕ, ◌%◌, ◌^◌, List, [], ◌∷◌, map, Bool, true, Option, Some, None, refl, sym, ◌∙◌, ap, subst, append-nil}
use Rattle.std.specs.Prelude.{if◌then◌else◌}
use Rattle.std.specs.Int.{cast_signed, w32}
use Rattle.std.specs.List.{filter_map}
use Rattle.pb_wire.specs.Record.{varint, len, Record}
use Rattle.pb_wire.specs.Schema as wire
use Rattle.pb_wire.specs.Sound.{AllSound, AreElements}
use Rattle.pb_wire.specs.Varint.{groups_value}
use Rattle.pb_wire.proofs.Fronts.{sound_list}
use Rattle.pb_schema.specs.declared.types.Kind.{Kind}
use Rattle.pb_schema.specs.declared.types.Kind.TheVariants as kind
use Rattle.pb_schema.specs.declared.types.Shape.{Shape}
use Rattle.pb_schema.specs.declared.types.Shape.TheVariants as shape
use Rattle.pb_schema.specs.Types.{FieldView, Types, message_fields, field_numbered}
use Rattle.pb_schema.specs.Scalar.{Scalar, enum}
use Rattle.pb_schema.specs.Kinds.{is_packable, message_of_kind, closed_enum, read}
use Rattle.pb_schema.specs.Packed.{varints_of, elements, element_bytes, numbers_of}
use Rattle.pb_schema.specs.Closed.{closed_of, closed_shaped, is_list_field, numbered, cut_as, cut_at, settled}
use Rattle.pb_schema.specs.Closed as closed
use Rattle.pb_schema.specs.Context.{a_message, element_of, read_field, read_shaped, schema_of}
use Rattle.pb_schema.specs.Rules.{IsPool}
use Rattle.pb_value.specs.Data.{Datum, scalar, no_datums, datum, Holding, list, Message}
use Rattle.pb_value.specs.Value.{all_elements, unless_no_elements, list_values, held_as, value_within}
use Rattle.pb_value.specs.Canon.{packed_bytes, canon_holding, canon_each, record_of, is_packed}
use Rattle.pb_value.specs.WellFormed.{IsOfShape}
use Rattle.pb_value.proofs.KnownLemmas.{IsUncut, settled-same}
use Rattle.pb_value.proofs.Numbers.{found_number}
use Rattle.pb_value.proofs.ShapeSteps.{list_values-scalar}
use Rattle.pb_compat.specs.Fields.{is_list}
use Rattle.pb_compat.specs.Agrees.{HoldsSame}
use Rattle.pb_compat.specs.Samples.{IsValue, IsReadOtherwisePacked, IsUnlikeElement, never_element, unsound_element, otherwise_element}
use Rattle.pb_compat.specs.Witness.{alone, AreFieldsAt, PackedIsShown}
use Rattle.pb_compat.proofs.EncodingLemmas.{reads_packed}
use Rattle.pb_compat.proofs.NeverLemmas.{never_list}
use Rattle.pb_compat.proofs.OtherwiseLemmas.{uncut_open}
use Rattle.pb_compat.proofs.ReadingLemmas.{AreAt, read_whole}
use Rattle.pb_compat.proofs.ShownLemmas.{can_hold}
use Rattle.pb_compat.proofs.WitnessLemmas.{CanHold, IsMisread, alone_shows, same_alone, none_unknown, witness_alone, witness_read, witness_sound, first_sound}

-- lists for what is cut
cut_lists : (t : Shape) → is_list t ≡ true → closed.is_list t ≡ true
cut_lists (shape.List p) e = refl
cut_lists shape.Implicit e = absurd (cc)
cut_lists shape.Explicit e = absurd (cc)
cut_lists (shape.OneofMember o) e = absurd (cc)
cut_lists (shape.Map key) e = absurd (cc)

cut_enums : (t : Shape) (b : Kind) → is_list t ≡ true → closed_shaped t b ≡ closed_enum b
cut_enums (shape.List p) b e = refl
cut_enums shape.Implicit b e = absurd (cc)
cut_enums shape.Explicit b e = absurd (cc)
cut_enums (shape.OneofMember o) b e = absurd (cc)
cut_enums (shape.Map key) b e = absurd (cc)

-- the elements of a packed list that is cut are those that the kind reads of it
closed_values : (inner : ℕ → List Record → Message) (b : Kind) (i n : ℕ) (s : List ℕ) → closed_enum b ≡ Some i → list_values inner b (numbered n (numbers_of 0 s)) ≡ map scalar (elements b (len s))
closed_values inner (kind.ClosedEnum j) i n s e =
    list_values-scalar inner (kind.ClosedEnum j) (numbered n (numbers_of 0 s)) refl ∙ ap (map scalar) (each (varints_of s))
  where
    each : (vs : List (List ℕ)) → all_elements (kind.ClosedEnum j) (numbered n (map (λ v. varint (groups_value v % 2 ^ 64)) vs)) ≡ filter_map (read (kind.ClosedEnum j)) (map (λ v. varint (groups_value v % 2 ^ 64)) vs)
    each [] = refl
    each (v ∷ vs) = ap (λ (l : List Scalar). enum (cast_signed w32 ((groups_value v % 2 ^ 64) % 2 ^ 32)) ∷ l) (each vs)
closed_values inner b i n s e = absurd (cc)

module _ (old new : Types) (rules_old : IsPool old) (rules_new : IsPool new) (m n k : ℕ) (f g : FieldView) (at : AreFieldsAt old new m n k f g) (packed : f.shape ≡ shape.List true)
    (listed : is_list g.shape ≡ true) (x : Scalar) (v : IsValue old f.kind (scalar x)) where
  abbrev element : Holding
  element = list (datum (scalar x) no_datums)

  abbrev bytes_of : List ℕ
  bytes_of = packed_bytes f.kind (datum (scalar x) no_datums)

  abbrev packed_record : Record
  packed_record = record_of f.number (len bytes_of)

  can : CanHold old f element
  can = can_hold old rules_old m k f at.old_field (scalar x) element v refl (subst (λ (s : Shape). IsOfShape s element) (sym packed) tt)

  alone_record : canon_holding old f element ≡ packed_record ∷ []
  alone_record = ap (λ (b : Bool). if b then packed_record ∷ [] else canon_each old f (datum (scalar x) no_datums)) (ap is_packed packed)

  there : field_numbered f.number (message_fields new n) ≡ Some g
  there = ap (λ (i : ℕ). field_numbered i (message_fields new n)) (found_number k (message_fields old m) f at.old_field) ∙ at.new_field

  -- what the records are settled as shows it
  witness_settled : (rs : List Record) → settled (message_fields new n) (canon_holding old f element) ≡ rs
      → ((inner : ℕ → List Record → Message) → HoldsSame old new f.kind g.kind g.shape element (held_as inner g.shape g.kind rs) → ⊥) → IsMisread old new m n (alone k element)
  witness_settled rs settles other =
      witness_read old new rules_old rules_new m n k f g at.old_field at.new_field element can
      (λ levels w e a.
      let numbered_so = subst (AreAt k) (sym alone_record) (found_number k (message_fields old m) f at.old_field, tt) in
      let whole = read_whole new rules_new n k g at.new_field levels (canon_holding old f element) w numbered_so e (none_unknown old new m n k f g at.old_field at.new_field element w a) in
      other (value_within new levels)
      (subst (HoldsSame old new f.kind g.kind g.shape element) (whole.holds ∙ ap (held_as (value_within new levels) g.shape g.kind) settles)
      (same_alone old new m n k f g at.old_field at.new_field element w a)))

  -- what the new kind reads of the list
  one_element : (ys : List Scalar) → elements g.kind (len (element_bytes f.kind x)) ≡ ys → IsReadOtherwisePacked f.kind g.kind (scalar x) → (t : Shape)
      → HoldsSame old new f.kind g.kind t element (unless_no_elements (map scalar ys)) → ⊥
  one_element [] e o t same = same
  one_element (y ∷ []) e o t same = o y e same.0
  one_element (y ∷ z ∷ ys) e o t same = same.1

  whole_bytes : elements g.kind (len bytes_of) ≡ elements g.kind (len (element_bytes f.kind x))
  whole_bytes = ap (λ (s : List ℕ). elements g.kind (len s)) (append-nil (element_bytes f.kind x))

  refute_scalars : (o : IsReadOtherwisePacked f.kind g.kind (scalar x)) (inner : ℕ → List Record → Message) (rs : List Record) (t : Shape) → is_list t ≡ true → list_values inner g.kind rs ≡ map scalar (elements g.kind (len bytes_of))
      → HoldsSame old new f.kind g.kind t element (held_as inner t g.kind rs) → ⊥
  refute_scalars o inner rs (shape.List q) e values same =
      one_element (elements g.kind (len (element_bytes f.kind x))) refl o (shape.List q)
      (subst (λ (l : List Datum). HoldsSame old new f.kind g.kind (shape.List q) element (unless_no_elements l)) (values ∙ ap (map scalar) whole_bytes) same)
  refute_scalars o inner rs shape.Implicit e values same = absurd (cc)
  refute_scalars o inner rs shape.Explicit e values same = absurd (cc)
  refute_scalars o inner rs (shape.OneofMember i) e values same = absurd (cc)
  refute_scalars o inner rs (shape.Map key) e values same = absurd (cc)

  -- a list of messages
  refute_messages : (inner : ℕ → List Record → Message) (t : Shape) (b : Kind) (j : ℕ) → message_of_kind b ≡ Some j → is_list t ≡ true → HoldsSame old new f.kind b t element (held_as inner t b (packed_record ∷ [])) → ⊥
  refute_messages inner (shape.List q) (kind.Message m) j e l same = same.0
  refute_messages inner (shape.List q) (kind.Group m) j e l same = same.0
  refute_messages inner (shape.List q) b j e l same = absurd (cc)
  refute_messages inner shape.Implicit b j e l same = absurd (cc)
  refute_messages inner shape.Explicit b j e l same = absurd (cc)
  refute_messages inner (shape.OneofMember i) b j e l same = absurd (cc)
  refute_messages inner (shape.Map key) b j e l same = absurd (cc)

  open_list : IsReadOtherwisePacked f.kind g.kind (scalar x) → closed_enum g.kind ≡ None → IsMisread old new m n (alone k element)
  open_list o e =
      witness_settled (packed_record ∷ [])
      (ap (settled (message_fields new n)) alone_record
      ∙ settled-same (message_fields new n) (packed_record ∷ [])
      (subst (λ (c : Option FieldView). IsUncut (len bytes_of) (is_list_field c) (closed_of c)) (sym there) (uncut_open (len bytes_of) (closed.is_list g.shape) (closed_shaped g.shape g.kind) (cut_enums g.shape g.kind listed ∙ e)), tt))
      (λ inner same. by inner (message_of_kind g.kind) refl same)
    where
      by : (inner : ℕ → List Record → Message) (c : Option ℕ) → message_of_kind g.kind ≡ c → HoldsSame old new f.kind g.kind g.shape element (held_as inner g.shape g.kind (packed_record ∷ [])) → ⊥
      by inner None plain same =
          refute_scalars o inner (packed_record ∷ []) g.shape listed
          (list_values-scalar inner g.kind (packed_record ∷ []) plain ∙ ap (map scalar) (append-nil (elements g.kind (len bytes_of)))) same
      by inner (Some j) other same = refute_messages inner g.shape g.kind j other listed same

  closed_list : IsReadOtherwisePacked f.kind g.kind (scalar x) → (i : ℕ) → closed_enum g.kind ≡ Some i → IsMisread old new m n (alone k element)
  closed_list o i e =
      witness_settled (numbered f.number (numbers_of 0 bytes_of))
      (ap (settled (message_fields new n)) alone_record ∙ append-nil (cut_at (field_numbered f.number (message_fields new n)) packed_record)
      ∙ ap (λ (c : Option FieldView). cut_at c packed_record) there
      ∙ ap (λ (b : Bool). cut_as b (closed_shaped g.shape g.kind) f.number (len bytes_of)) (cut_lists g.shape listed)
      ∙ ap (λ (c : Option ℕ). cut_as true c f.number (len bytes_of)) (cut_enums g.shape g.kind listed ∙ e))
      (λ inner same. refute_scalars o inner (numbered f.number (numbers_of 0 bytes_of)) g.shape listed (closed_values inner g.kind i f.number bytes_of e) same)

  pub packed_otherwise : IsReadOtherwisePacked f.kind g.kind (scalar x) → IsMisread old new m n (alone k element)
  packed_otherwise o = by (closed_enum g.kind) refl
    where
      by : (c : Option ℕ) → closed_enum g.kind ≡ c → IsMisread old new m n (alone k element)
      by None e = open_list o e
      by (Some i) e = closed_list o i e

module _ (old new : Types) (rules_old : IsPool old) (rules_new : IsPool new) (m n k : ℕ) (f g : FieldView) (at : AreFieldsAt old new m n k f g) (packed : f.shape ≡ shape.List true)
    (listed : is_list g.shape ≡ true) (x : Scalar) (v : IsValue old f.kind (scalar x)) where
  reads_list : (t : Shape) → is_list t ≡ true → is_packable g.kind ≡ true → read_shaped (a_message n) t g.kind ≡ wire.packed (element_of g.kind)
  reads_list (shape.List p) e packs = reads_packed (a_message n) g.kind packs
  reads_list shape.Implicit e packs = absurd (cc)
  reads_list shape.Explicit e packs = absurd (cc)
  reads_list (shape.OneofMember o) e packs = absurd (cc)
  reads_list (shape.Map key) e packs = absurd (cc)

  -- the bytes are no whole elements, so the record is not sound
  pub packed_unsound : is_packable g.kind ≡ true → (AreElements (element_of g.kind) (element_bytes f.kind x) → ⊥) → IsMisread old new m n (alone k (list (datum (scalar x) no_datums)))
  packed_unsound packs never =
      witness_sound old new rules_old rules_new m n k f g at.old_field at.new_field (list (datum (scalar x) no_datums)) (can old new rules_old rules_new m n k f g at packed listed x v)
      (λ levels sound.
      let bytes = packed_bytes f.kind (datum (scalar x) no_datums) in
      let first = first_sound (subst (AllSound (schema_of new) (a_message n) levels) (alone_record old new rules_old rules_new m n k f g at packed listed x v) sound) in
      let reading = ap (read_field (a_message n)) (there old new rules_old rules_new m n k f g at packed listed x v) ∙ reads_list g.shape listed packs in
      never (subst (AreElements (element_of g.kind)) (append-nil (element_bytes f.kind x)) (sound_list bytes (element_of g.kind) first refl reading)))

pub packed_is_misread : (old new : Types) → IsPool old → IsPool new → (m n k : ℕ) (f g : FieldView) (x : Scalar) → AreFieldsAt old new m n k f g → f.shape ≡ shape.List true → is_list g.shape ≡ true
    → IsValue old f.kind (scalar x) → IsUnlikeElement old new f.kind g.kind (scalar x) → IsMisread old new m n (alone k (list (datum (scalar x) no_datums)))
packed_is_misread old new rules_old rules_new m n k f g x at packed listed v (never_element nv) =
    witness_alone old new rules_old rules_new m n k f g at.old_field at.new_field (list (datum (scalar x) no_datums))
    (can old new rules_old rules_new m n k f g at packed listed x v)
    (λ o may same. never_list old new g.shape f.kind g.kind (scalar x) no_datums o nv may same)
packed_is_misread old new rules_old rules_new m n k f g x at packed listed v (unsound_element packs u) = packed_unsound old new rules_old rules_new m n k f g at packed listed x v packs u
packed_is_misread old new rules_old rules_new m n k f g x at packed listed v (otherwise_element o) = packed_otherwise old new rules_old rules_new m n k f g at packed listed x v o

pub packed_is_shown : (old new : Types) → IsPool old → IsPool new → PackedIsShown old new
packed_is_shown old new rules_old rules_new m n k f g x at packed listed v u =
    alone_shows old new rules_old rules_new m n k f g at.old_field at.new_field (list (datum (scalar x) no_datums)) (can old new rules_old rules_new m n k f g at packed listed x v)
    (packed_is_misread old new rules_old rules_new m n k f g x at packed listed v u)
