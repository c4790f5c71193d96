-- Values that the new kind reads otherwise, or whose records do not fit: the field holds something else, or the record is unknown.
use Rattle.std.proofs.Common.{◌≡◌, ◌≢◌, ℕ, List, [], ◌∷◌, ◌++◌, map, Bool, true, false, Option, Some, None, option_map, refl, sym, ◌∙◌, ap, subst}
use Rattle.std.specs.Prelude.{option_and_then, if◌then◌else◌}
use Rattle.std.specs.List.{AllByRecursion}
use Rattle.pb_wire.specs.Record.{Payload, varint, fixed64, len, group, fixed32, Record, wire_type}
use Rattle.pb_schema.specs.declared.types.Kind.{Kind}
use Rattle.pb_schema.specs.declared.types.Kind.TheVariants as kind
use Rattle.pb_schema.specs.declared.types.Shape.{Shape}
use Rattle.pb_schema.specs.declared.types.Shape.TheVariants as shape
use Rattle.pb_schema.specs.Types.{FieldView, Types, message_fields, field_numbered}
use Rattle.pb_schema.specs.Scalar.{Scalar, is_default}
use Rattle.pb_schema.specs.Kinds.{closed_enum, read, written}
use Rattle.pb_schema.specs.Closed.{closed_of, closed_shaped, is_list, is_list_field, settled}
use Rattle.pb_schema.specs.Fits.{fits_shape}
use Rattle.pb_schema.specs.Packed.{elements}
use Rattle.pb_schema.specs.Rules.{IsPool}
use Rattle.pb_value.specs.Data.{Datum, scalar, no_datums, datum, Holding, one, list, Message}
use Rattle.pb_value.specs.Value.{last_of, unless_default, unless_no_elements, one_value, list_values, held_as, value_within}
use Rattle.pb_value.specs.Canon.{payload_of, record_of, canon_holding}
use Rattle.pb_value.specs.WellFormed.{IsDatum}
use Rattle.pb_value.proofs.HeldBack.{wire_type-payload_of}
use Rattle.pb_value.proofs.KnownLemmas.{IsUncut, settled-same}
use Rattle.pb_value.proofs.Numbers.{found_number}
use Rattle.pb_value.proofs.Options.{some_of}
use Rattle.pb_value.proofs.ShapeSteps.{one_value-scalar, list_values-scalar}
use Rattle.pb_compat.specs.Scalars.{meaning}
use Rattle.pb_compat.specs.Fields.{is_map}
use Rattle.pb_compat.specs.Agrees.{HoldsSame}
use Rattle.pb_compat.specs.Samples.{IsReadOtherwise, IsUnfit}
use Rattle.pb_compat.specs.Witness.{alone}
use Rattle.pb_compat.proofs.ContentLemmas.{IsCounted}
use Rattle.pb_compat.proofs.FieldLemmas.{read_wire, read_scalar, packable_wire, elements_read}
use Rattle.pb_compat.proofs.ReadingLemmas.{AreAt, read_whole}
use Rattle.pb_compat.proofs.WitnessLemmas.{CanHold, IsMisread, same_alone, none_unknown, witness_read}

-- A SCALAR THAT IS READ OTHERWISE

module _ (old new : Types) (inner : ℕ → List Record → Message) (k : ℕ) (a b : Kind) (x : Scalar) (o : IsReadOtherwise a b (scalar x)) where
  pub got : (y : Scalar) × (read b (written a x) ≡ Some y) × (meaning y ≢ meaning x)
  got = some_of (read b (written a x)) (λ y. meaning y ≢ meaning x) o.0

  pub gives : elements b (written a x) ≡ got.0 ∷ []
  gives = elements_read b (written a x) got.0 (λ can e. (packable_wire b can).0 (sym (read_wire b (written a x) got.0 got.1) ∙ e)) got.1

  pub gives_one : one_value inner b (record_of k (written a x) ∷ []) ≡ Some (scalar got.0)
  gives_one =
      one_value-scalar inner b (record_of k (written a x) ∷ []) (read_scalar b (written a x) got.0 got.1)
      ∙ ap (λ (l : List Scalar). option_map scalar (last_of (l ++ []))) gives

  gives_list : list_values inner b (record_of k (written a x) ∷ []) ≡ scalar got.0 ∷ []
  gives_list =
      list_values-scalar inner b (record_of k (written a x) ∷ []) (read_scalar b (written a x) got.0 got.1)
      ∙ ap (λ (l : List Scalar). map scalar (l ++ [])) gives

  pub otherwise_one : (t : Shape) → is_map t ≡ false → HoldsSame old new a b t (one (scalar x)) (held_as inner t b (record_of k (written a x) ∷ [])) → ⊥
  otherwise_one (shape.Map key) plain same = absurd (cc)
  otherwise_one shape.Explicit plain same = got.2 (subst (λ (v : Option Datum). HoldsSame old new a b shape.Explicit (one (scalar x)) (option_map one v)) gives_one same)
  otherwise_one (shape.OneofMember i) plain same = got.2 (subst (λ (v : Option Datum). HoldsSame old new a b (shape.OneofMember i) (one (scalar x)) (option_map one v)) gives_one same)
  otherwise_one (shape.List p) plain same = got.2 (subst (λ (l : List Datum). HoldsSame old new a b (shape.List p) (one (scalar x)) (unless_no_elements l)) gives_list same)
  otherwise_one shape.Implicit plain same =
      by (is_default got.0) (subst (λ (v : Option Datum). HoldsSame old new a b shape.Implicit (one (scalar x)) (option_and_then unless_default v)) gives_one same)
    where
      by : (c : Bool) → HoldsSame old new a b shape.Implicit (one (scalar x)) (if c then None else Some (one (scalar got.0))) → ⊥
      by true s = o.1 s.1
      by false s = got.2 s

  pub otherwise_list : (t : Shape) → is_list t ≡ true → HoldsSame old new a b t (list (datum (scalar x) no_datums)) (held_as inner t b (record_of k (written a x) ∷ [])) → ⊥
  otherwise_list shape.Implicit listed same = absurd (cc)
  otherwise_list shape.Explicit listed same = absurd (cc)
  otherwise_list (shape.OneofMember i) listed same = absurd (cc)
  otherwise_list (shape.Map key) listed same = absurd (cc)
  otherwise_list (shape.List p) listed same = got.2 (subst (λ (l : List Datum). HoldsSame old new a b (shape.List p) (list (datum (scalar x) no_datums)) (unless_no_elements l)) gives_list same).0

-- A RECORD THAT IS NOT CUT

pub uncut_open : (p : Payload) (c : Bool) (e : Option ℕ) → e ≡ None → IsUncut p c e
uncut_open (varint i) c e n = tt
uncut_open (fixed64 i) c e n = tt
uncut_open (group g) c e n = tt
uncut_open (fixed32 i) c e n = tt
uncut_open (len s) true None n = tt
uncut_open (len s) true (Some e) n = absurd (cc)
uncut_open (len s) false e n = tt

pub open_shaped : (t : Shape) (b : Kind) → closed_enum b ≡ None → closed_shaped t b ≡ None
open_shaped (shape.Map key) b e = refl
open_shaped (shape.List p) b e = e
open_shaped shape.Implicit b e = e
open_shaped shape.Explicit b e = e
open_shaped (shape.OneofMember o) b e = e

-- a payload that is read as one value of a closed enum is a number
pub uncut_read : (t : Shape) (b : Kind) (p : Payload) (y : Scalar) → read b p ≡ Some y → IsUncut p (is_list t) (closed_shaped t b)
uncut_read t (kind.ClosedEnum i) (varint n) y e = tt
uncut_read t (kind.ClosedEnum i) (fixed64 n) y e = tt
uncut_read t (kind.ClosedEnum i) (group g) y e = tt
uncut_read t (kind.ClosedEnum i) (fixed32 n) y e = tt
uncut_read t (kind.ClosedEnum i) (len s) y e = absurd (cc)
uncut_read t b p y e = uncut_open p (is_list t) (closed_shaped t b) (open_shaped t b refl)

-- nor is one that does not fit
uncut_unfit : (t : Shape) (b : Kind) (p : Payload) → fits_shape t b (wire_type p) ≡ false → IsUncut p (is_list t) (closed_shaped t b)
uncut_unfit t (kind.ClosedEnum i) (varint n) e = tt
uncut_unfit t (kind.ClosedEnum i) (fixed64 n) e = tt
uncut_unfit t (kind.ClosedEnum i) (group g) e = tt
uncut_unfit t (kind.ClosedEnum i) (fixed32 n) e = tt
uncut_unfit (shape.List p) (kind.ClosedEnum i) (len s) e = absurd (cc)
uncut_unfit shape.Implicit (kind.ClosedEnum i) (len s) e = tt
uncut_unfit shape.Explicit (kind.ClosedEnum i) (len s) e = tt
uncut_unfit (shape.OneofMember o) (kind.ClosedEnum i) (len s) e = tt
uncut_unfit (shape.Map key) (kind.ClosedEnum i) (len s) e = tt
uncut_unfit t b p e = uncut_open p (is_list t) (closed_shaped t b) (open_shaped t b refl)

-- MESSAGES OF ONE RECORD

module _ (old new : Types) (rules_old : IsPool old) (rules_new : IsPool new) (m n k : ℕ) (f g : FieldView)
    (found_f : field_numbered k (message_fields old m) ≡ Some f) (found_g : field_numbered k (message_fields new n) ≡ Some g) (h : Holding) (can : CanHold old f h) where
  abbrev gs : List FieldView
  gs = message_fields new n

  module _ (d : Datum) (single : canon_holding old f h ≡ record_of f.number (payload_of old f.kind d) ∷ []) (typed : IsDatum old f.kind d) (plain : is_map g.shape ≡ false) where
    abbrev record_written : Record
    record_written = record_of f.number (payload_of old f.kind d)

    at : AreAt k (canon_holding old f h)
    at = subst (AreAt k) (sym single) (found_number k (message_fields old m) f found_f, tt)

    there : field_numbered f.number gs ≡ Some g
    there = ap (λ (i : ℕ). field_numbered i gs) (found_number k (message_fields old m) f found_f) ∙ found_g

    alone_settled : IsUncut (payload_of old f.kind d) (is_list g.shape) (closed_shaped g.shape g.kind) → settled gs (canon_holding old f h) ≡ record_written ∷ []
    alone_settled u =
        ap (settled gs) single
        ∙ settled-same gs (record_written ∷ []) (subst (λ (o : Option FieldView). IsUncut (payload_of old f.kind d) (is_list_field o) (closed_of o)) (sym there) u, tt)

    -- a record that fits no such field is unknown
    pub witness_apart : IsUnfit f.kind g.kind → IsMisread old new m n (alone k h)
    witness_apart unfit =
        let no : fits_shape g.shape g.kind (wire_type (payload_of old f.kind d)) ≡ false = ap (fits_shape g.shape g.kind) (wire_type-payload_of old f.kind d typed) ∙ unfit g.shape plain in
        witness_read old new rules_old rules_new m n k f g found_f found_g h can
        (λ levels w e a.
        let whole = read_whole new rules_new n k g found_g levels (canon_holding old f h) w at e (none_unknown old new m n k f g found_f found_g h w a) in
        let counted = subst (AllByRecursion (IsCounted new k g.shape g.kind)) (alone_settled (uncut_unfit g.shape g.kind (payload_of old f.kind d) no)) whole.counted in
        clash (sym no ∙ counted.0.1))
      where
        clash : false ≡ true → ⊥
        clash e = cc

    -- a value that is read as another one
    pub witness_otherwise : IsUncut (payload_of old f.kind d) (is_list g.shape) (closed_shaped g.shape g.kind)
        → ((inner : ℕ → List Record → Message) → HoldsSame old new f.kind g.kind g.shape h (held_as inner g.shape g.kind (record_written ∷ [])) → ⊥) → IsMisread old new m n (alone k h)
    witness_otherwise u other =
        witness_read old new rules_old rules_new m n k f g found_f found_g h can
        (λ levels w e a.
        let whole = read_whole new rules_new n k g found_g levels (canon_holding old f h) w at e (none_unknown old new m n k f g found_f found_g h w a) in
        other (value_within new levels)
        (subst (HoldsSame old new f.kind g.kind g.shape h) (whole.holds ∙ ap (held_as (value_within new levels) g.shape g.kind) (alone_settled u))
        (same_alone old new m n k f g found_f found_g h w a)))
