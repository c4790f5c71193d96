-- Maps of one entry whose key or value is unlike what the new kind reads.
use Rattle.std.proofs.Common.{◌≡◌, ◌≢◌, ℕ, List, [], ◌∷◌, ◌++◌, Bool, true, false, cond, Option, Some, None, refl, sym, ◌∙◌, ap, subst, arith, inl, inr}
use Rattle.std.specs.Prelude.{unwrap_or, IsTrue, IsSomeAnd, ◌==◌, ◌⊎◌}
use Rattle.pb_wire.specs.Record.{Record, wire_type}
use Rattle.pb_wire.proofs.InsideLemmas.{records_spelled-shortest}
use Rattle.pb_schema.specs.declared.types.Kind.{Kind}
use Rattle.pb_schema.specs.declared.types.Kind.TheVariants as kind
use Rattle.pb_schema.specs.declared.types.Shape.{Shape}
use Rattle.pb_schema.specs.declared.types.Shape.TheVariants as shape
use Rattle.pb_schema.specs.Types.{FieldView, Types, message_fields, field_numbered}
use Rattle.pb_schema.specs.Scalar.{Scalar}
use Rattle.pb_schema.specs.Kinds.{wire_type_of, is_key_kind, message_of_kind, default_of, IsOfKind, written}
use Rattle.pb_schema.specs.Closed.{closed_of, is_list_field, settled}
use Rattle.pb_schema.specs.Rules.{IsPool, HasKeyKind}
use Rattle.pb_value.specs.Data.{Datum, scalar, message, no_entries, entry, map as map_of, Message, no_fields, body, fields_of, get_field}
use Rattle.pb_value.specs.Value.{last_of, all_elements, unless_no_entries, one_value, missing, entry_key, entry_value, held_as, value_within}
use Rattle.pb_value.specs.Canon.{payload_of, record_of, sealed, canon_holding}
use Rattle.pb_value.specs.WellFormed.{IsOfShape, IsDatum, key_of}
use Rattle.pb_value.proofs.BodyBack.{canon-good}
use Rattle.pb_value.proofs.HeldBack.{entry_records, entry_records-good}
use Rattle.pb_value.proofs.KnownLemmas.{IsUncut, settled-same}
use Rattle.pb_value.proofs.Numbers.{self_equal, not_equal, found_number}
use Rattle.pb_value.proofs.WrittenLemmas.{wire_type-written}
use Rattle.pb_compat.specs.Scalars.{meaning}
use Rattle.pb_compat.specs.Agrees.{IsSameValue, HoldsSame}
use Rattle.pb_compat.specs.Samples.{IsValue, IsNeverSame, IsReadOtherwise, IsUnlikeEntry, never_entry, otherwise_entry, missing_entry}
use Rattle.pb_compat.specs.Witness.{alone, AreFieldsAt, MapIsShown}
use Rattle.pb_compat.proofs.FieldLemmas.{read_wire}
use Rattle.pb_compat.proofs.HoldingLemmas.{open_declared, key_open}
use Rattle.pb_compat.proofs.NeverLemmas.{MayHold, never_key, never_map}
use Rattle.pb_compat.proofs.OtherwiseLemmas.{got, gives, gives_one}
use Rattle.pb_compat.proofs.ReadingLemmas.{AreAt, read_whole}
use Rattle.pb_compat.proofs.ShownLemmas.{can_hold}
use Rattle.pb_compat.proofs.FieldReadLemmas.{key_kinds, may_be_value}
use Rattle.pb_compat.proofs.WitnessLemmas.{CanHold, IsMisread, alone_shows, same_alone, none_unknown, witness_alone, witness_read}

module _ (old new : Types) (inner : ℕ → List Record → Message) (key l a b : Kind) (x : Scalar) (d : Datum) where
  -- KEYS

  key_by : (t : Bool) → (wire_type (written key x) == wire_type_of l) ≡ t
      → entry_key inner l (entry_records old key a x d) ≡ unwrap_or (last_of (all_elements l (cond t (record_of 1 (written key x) ∷ []) []))) (default_of l)
  key_by t e = ap (λ (c : Bool). unwrap_or (last_of (all_elements l (cond c (record_of 1 (written key x) ∷ []) []))) (default_of l)) e

  pub key_otherwise : IsReadOtherwise key l (scalar x) → meaning (entry_key inner l (entry_records old key a x d)) ≢ meaning x
  key_otherwise o same =
      let y = got old new inner 1 key l x o in
      let wires = ap (λ (w : ℕ). w == wire_type_of l) (read_wire l (written key x) y.0 y.1) ∙ self_equal (wire_type_of l) in
      let reads : entry_key inner l (entry_records old key a x d) ≡ y.0 =
      key_by true wires ∙ ap (λ (ys : List Scalar). unwrap_or (last_of (ys ++ [])) (default_of l)) (gives old new inner 1 key l x o) in
      y.2 (sym (ap meaning reads) ∙ same)

  pub key_apart : IsOfKind key x → wire_type_of key ≢ wire_type_of l → meaning (default_of l) ≢ meaning x → meaning (entry_key inner l (entry_records old key a x d)) ≢ meaning x
  key_apart h wires other same =
      let reads : entry_key inner l (entry_records old key a x d) ≡ default_of l = key_by false (not_equal (wire_type (written key x)) (wire_type_of l) (λ e. wires (sym (wire_type-written key x h) ∙ e))) in
      other (sym (ap meaning reads) ∙ same)

  -- VALUES

  pub value_by : (t : Bool) → (wire_type (payload_of old a d) == wire_type_of b) ≡ t
      → entry_value inner b (entry_records old key a x d) ≡ unwrap_or (one_value inner b (cond t (record_of 2 (payload_of old a d) ∷ []) [])) (missing inner b)
  value_by t e = ap (λ (c : Bool). unwrap_or (one_value inner b (cond c (record_of 2 (payload_of old a d) ∷ []) [])) (missing inner b)) e

missing_scalar : (inner : ℕ → List Record → Message) (b : Kind) → message_of_kind b ≡ None → missing inner b ≡ scalar (default_of b)
missing_scalar inner (kind.Message m) e = absurd (cc)
missing_scalar inner (kind.Group m) e = absurd (cc)
missing_scalar inner b e = refl

none_value : (inner : ℕ → List Record → Message) (b : Kind) → message_of_kind b ≡ None → one_value inner b [] ≡ None
none_value inner (kind.Message m) e = absurd (cc)
none_value inner (kind.Group m) e = absurd (cc)
none_value inner b e = refl

module _ (old new : Types) (inner : ℕ → List Record → Message) (key l a b : Kind) (x z : Scalar) where
  pub value_otherwise : IsReadOtherwise a b (scalar z) → IsSameValue old new a b (scalar z) (entry_value inner b (entry_records old key a x (scalar z))) → ⊥
  value_otherwise o same =
      let y = got old new inner 2 a b z o in
      let wires = ap (λ (w : ℕ). w == wire_type_of b) (read_wire b (written a z) y.0 y.1) ∙ self_equal (wire_type_of b) in
      let reads : entry_value inner b (entry_records old key a x (scalar z)) ≡ scalar y.0 =
      value_by old new inner key l a b x (scalar z) true wires ∙ ap (λ (v : Option Datum). unwrap_or v (missing inner b)) (gives_one old new inner 2 a b z o) in
      y.2 (subst (IsSameValue old new a b (scalar z)) reads same)

  pub value_apart : IsOfKind a z → wire_type_of a ≢ wire_type_of b → message_of_kind b ≡ None → meaning (default_of b) ≢ meaning z
      → IsSameValue old new a b (scalar z) (entry_value inner b (entry_records old key a x (scalar z))) → ⊥
  value_apart h wires plain other same =
      let reads : entry_value inner b (entry_records old key a x (scalar z)) ≡ scalar (default_of b) =
      value_by old new inner key l a b x (scalar z) false (not_equal (wire_type (written a z)) (wire_type_of b) (λ e. wires (sym (wire_type-written a z h) ∙ e)))
      ∙ ap (λ (v : Option Datum). unwrap_or v (missing inner b)) (none_value inner b plain) ∙ missing_scalar inner b plain in
      other (subst (IsSameValue old new a b (scalar z)) reads same)

-- A MAP OF ONE ENTRY

module _ (old new : Types) (rules_old : IsPool old) (rules_new : IsPool new) (m n k : ℕ) (f g : FieldView) (at : AreFieldsAt old new m n k f g) (key l : Kind)
    (maps : f.shape ≡ shape.Map key) (stays : g.shape ≡ shape.Map l) (x : Scalar) (d : Datum) (can : CanHold old f (map_of (entry x d no_entries))) (typed_key : IsOfKind key x) (typed : IsDatum old f.kind d) where
  entry_record : Record
  entry_record = record_of f.number (sealed (entry_records old key f.kind x d))

  map_record : canon_holding old f (map_of (entry x d no_entries)) ≡ entry_record ∷ []
  unfolding entry_record
  map_record = ap (λ (s : Shape). canon_holding old (record { name = f.name; number = f.number; kind = f.kind; shape = s }) (map_of (entry x d no_entries))) maps

  -- the new field holds one entry, which is read of the records of the old one
  pub witness_map : ((inner : ℕ → List Record → Message)
      → HoldsSame old new f.kind g.kind (shape.Map l) (map_of (entry x d no_entries)) (Some (map_of (entry (entry_key inner l (entry_records old key f.kind x d)) (entry_value inner g.kind (entry_records old key f.kind x d)) no_entries))) → ⊥)
      → IsMisread old new m n (alone k (map_of (entry x d no_entries)))
  unfolding entry_record
  witness_map other =
      let h = map_of (entry x d no_entries) in
      let gs = message_fields new n in
      let number = found_number k (message_fields old m) f at.old_field in
      let there : field_numbered f.number gs ≡ Some g = ap (λ (i : ℕ). field_numbered i gs) number ∙ at.new_field in
      let whole_record : settled gs (canon_holding old f h) ≡ entry_record ∷ [] =
      ap (settled gs) map_record ∙ settled-same gs (entry_record ∷ []) (subst (λ (o : Option FieldView). IsUncut entry_record.payload (is_list_field o) (closed_of o)) (sym there) (subst (λ (s : Shape). IsUncut entry_record.payload (is_list_field (Some (record { name = g.name; number = g.number; kind = g.kind; shape = s }))) (closed_of (Some (record { name = g.name; number = g.number; kind = g.kind; shape = s })))) (sym stays) tt), tt) in
      let good = entry_records-good old (λ i rs. body no_fields rs) 0 (λ i v u q. absurd (omega (arith, q))) (canon-good old rules_old) key f.kind x d typed_key typed in
      witness_read old new rules_old rules_new m n k f g at.old_field at.new_field h can
      (λ levels w e a.
      let inner : ℕ → List Record → Message = value_within new levels in
      let whole = read_whole new rules_new n k g at.new_field levels (canon_holding old f h) w (subst (AreAt k) (sym map_record) (number, tt)) e (none_unknown old new m n k f g at.old_field at.new_field h w a) in
      let read : get_field k (fields_of w) ≡ Some (map_of (entry (entry_key inner l (entry_records old key f.kind x d)) (entry_value inner g.kind (entry_records old key f.kind x d)) no_entries)) =
      whole.holds ∙ ap (held_as inner g.shape g.kind) whole_record ∙ ap (λ (s : Shape). held_as inner s g.kind (entry_record ∷ [])) stays
      ∙ ap (λ (rs : List Record). unless_no_entries ((entry_key inner l rs, entry_value inner g.kind rs) ∷ [])) (records_spelled-shortest (entry_records old key f.kind x d) good.in_range good.numbered) in
      other inner
      (subst (λ (s : Shape). HoldsSame old new f.kind g.kind s h (Some (map_of (entry (entry_key inner l (entry_records old key f.kind x d)) (entry_value inner g.kind (entry_records old key f.kind x d)) no_entries)))) stays
      (subst (HoldsSame old new f.kind g.kind g.shape h) read (same_alone old new m n k f g at.old_field at.new_field h w a))))

-- KEYS OR VALUES

-- a map of one entry is a content of the field
module _ (old : Types) (rules_old : IsPool old) (m k : ℕ) (f : FieldView) (found : field_numbered k (message_fields old m) ≡ Some f) (key : Kind) (x : Scalar) (d : Datum) where
  pub map_can : f.shape ≡ shape.Map key → IsValue old key (scalar x) → IsValue old f.kind d → CanHold old f (map_of (entry x d no_entries))
  map_can maps keyed v =
      can_hold old rules_old m k f found d (map_of (entry x d no_entries)) v (x, subst (λ (s : Shape). IsSomeAnd (key_of s) (λ c. IsValue old c (scalar x))) (sym maps) keyed, refl)
      (subst (λ (s : Shape). IsOfShape s (map_of (entry x d no_entries))) (sym maps) tt)

pub map_is_misread : (old new : Types) → IsPool old → IsPool new → (m n k : ℕ) (f g : FieldView) (key l : Kind) (x : Scalar) (d : Datum) → AreFieldsAt old new m n k f g → f.shape ≡ shape.Map key → g.shape ≡ shape.Map l
    → IsValue old key (scalar x) → IsValue old f.kind d → IsUnlikeEntry old new key l (scalar x) ⊎ IsUnlikeEntry old new f.kind g.kind d → IsMisread old new m n (alone k (map_of (entry x d no_entries)))
map_is_misread old new rules_old rules_new m n k f g key l x d at maps stays keyed v unlike = by unlike
  where
    can : CanHold old f (map_of (entry x d no_entries))
    can = map_can old rules_old m k f at.old_field key x d maps keyed v

    by_what_is_read : ((inner : ℕ → List Record → Message)
        → HoldsSame old new f.kind g.kind (shape.Map l) (map_of (entry x d no_entries)) (Some (map_of (entry (entry_key inner l (entry_records old key f.kind x d)) (entry_value inner g.kind (entry_records old key f.kind x d)) no_entries))) → ⊥)
        → IsMisread old new m n (alone k (map_of (entry x d no_entries)))
    by_what_is_read other = witness_map old new rules_old rules_new m n k f g at key l maps stays x d can keyed.value v.value other

    key_can : IsTrue (is_key_kind l)
    key_can = subst HasKeyKind stays (key_kinds new n k g rules_new at.new_field)

    by_key : IsUnlikeEntry old new key l (scalar x) → IsMisread old new m n (alone k (map_of (entry x d no_entries)))
    by_key (never_entry nv) =
        witness_alone old new rules_old rules_new m n k f g at.old_field at.new_field (map_of (entry x d no_entries)) can
        (λ o may same.
        never_key old new f.kind g.kind l x d no_entries o (λ y w e. nv (scalar y) w (open_declared new l (scalar y) (key_open l key_can)) e)
        (subst (λ (s : Shape). MayHold old new s g.kind o) stays may) (subst (λ (s : Shape). HoldsSame old new f.kind g.kind s (map_of (entry x d no_entries)) o) stays same))
    by_key (otherwise_entry o) = by_what_is_read (λ inner same. key_otherwise old new inner key l f.kind g.kind x d o same.0)
    by_key (missing_entry wires none) = by_what_is_read (λ inner same. key_apart old new inner key l f.kind g.kind x d keyed.value wires none.1 same.0)

    by_value : (e : Datum) → d ≡ e → IsUnlikeEntry old new f.kind g.kind e → IsMisread old new m n (alone k (map_of (entry x d no_entries)))
    by_value e z (never_entry nv) =
        witness_alone old new rules_old rules_new m n k f g at.old_field at.new_field (map_of (entry x d no_entries)) can
        (λ o may same. never_map old new g.shape f.kind g.kind x d no_entries o (subst (IsNeverSame old new f.kind g.kind) (sym z) nv) (may_be_value new n k g rules_new at.new_field) may same)
    by_value (scalar y) z (otherwise_entry o) =
        by_what_is_read (λ inner same.
        value_otherwise old new inner key l f.kind g.kind x y o
        (subst (λ (c : Datum). IsSameValue old new f.kind g.kind c (entry_value inner g.kind (entry_records old key f.kind x c))) z same.1))
    by_value (scalar y) z (missing_entry wires none) =
        by_what_is_read (λ inner same.
        value_apart old new inner key l f.kind g.kind x y (subst (IsDatum old f.kind) z v.value) wires none.0 none.1
        (subst (λ (c : Datum). IsSameValue old new f.kind g.kind c (entry_value inner g.kind (entry_records old key f.kind x c))) z same.1))
    by_value (message b) z (otherwise_entry o) = absurd o
    by_value (message b) z (missing_entry wires none) = absurd none

    by : IsUnlikeEntry old new key l (scalar x) ⊎ IsUnlikeEntry old new f.kind g.kind d → IsMisread old new m n (alone k (map_of (entry x d no_entries)))
    by (inl u) = by_key u
    by (inr u) = by_value d refl u

pub map_is_shown : (old new : Types) → IsPool old → IsPool new → MapIsShown old new
map_is_shown old new rules_old rules_new m n k f g key l x d at maps stays keyed v unlike =
    alone_shows old new rules_old rules_new m n k f g at.old_field at.new_field (map_of (entry x d no_entries)) (map_can old rules_old m k f at.old_field key x d maps keyed v)
    (map_is_misread old new rules_old rules_new m n k f g key l x d at maps stays keyed v unlike)
