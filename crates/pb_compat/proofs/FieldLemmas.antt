-- What a new kind reads of the records that scalars of an old kind were written as.
use Rattle.std.proofs.Common.{◌≡◌, ℕ, List, [], ◌∷◌, ◌++◌, map, Bool, true, false, ◌&&◌, Some, None, refl, sym, ◌∙◌, ap, arith, append-nil}
use Rattle.std.specs.Prelude.{unwrap_or}
use Rattle.std.specs.List.{filter_map, cons_option}
use Rattle.std.specs.Option.{option_to_list}
use Rattle.pb_wire.specs.Record.{Payload, varint, fixed64, len, group, fixed32, Record, wire_type}
use Rattle.pb_schema.specs.declared.types.Kind.{Kind}
use Rattle.pb_schema.specs.declared.types.Kind.TheVariants as kind
use Rattle.pb_schema.specs.declared.types.Shape.{Shape}
use Rattle.pb_schema.specs.Types.{Types}
use Rattle.pb_schema.specs.Scalar.{Scalar}
use Rattle.pb_schema.specs.Kinds.{wire_type_of, is_packable, message_of_kind, IsOfKind, read, written}
use Rattle.pb_schema.specs.Packed.{elements, numbers_of}
use Rattle.pb_schema.specs.Closed.{is_declared}
use Rattle.pb_schema.proofs.PackedLemmas.{numbers_back}
use Rattle.pb_value.specs.Data.{scalar, message, Datums, no_datums, datum, Message}
use Rattle.pb_value.specs.Value.{all_elements, list_values}
use Rattle.pb_value.specs.Canon.{packed_bytes, canon_each, record_of}
use Rattle.pb_value.specs.WellFormed.{AreDatums, datums_declared}
use Rattle.pb_value.proofs.HeldBack.{field_with, values}
use Rattle.pb_value.proofs.Options.{some_of}
use Rattle.pb_value.proofs.ShapeSteps.{list_values-scalar}
use Rattle.pb_value.proofs.WrittenLemmas.{wire_type-written, no_message_of, payloads, packed_numbers}
use Rattle.pb_compat.specs.Scalars.{meaning, keeps_scalars}
use Rattle.pb_compat.specs.Fields.{keeps_kind}
use Rattle.pb_compat.proofs.ScalarLemmas.{MeansTo, scalars_kept}

-- KINDS

-- a payload that a kind reads has the kind's wire type, and the kind is no message
pub read_wire : (k : Kind) (p : Payload) (y : Scalar) → read k p ≡ Some y → wire_type p ≡ wire_type_of k
read_wire kind.Int32 (varint n) y e = refl
read_wire kind.Int64 (varint n) y e = refl
read_wire kind.Uint32 (varint n) y e = refl
read_wire kind.Uint64 (varint n) y e = refl
read_wire kind.Sint32 (varint n) y e = refl
read_wire kind.Sint64 (varint n) y e = refl
read_wire kind.Bool (varint n) y e = refl
read_wire (kind.Enum i) (varint n) y e = refl
read_wire (kind.ClosedEnum i) (varint n) y e = refl
read_wire kind.Fixed64 (fixed64 n) y e = refl
read_wire kind.Sfixed64 (fixed64 n) y e = refl
read_wire kind.Double (fixed64 n) y e = refl
read_wire kind.Fixed32 (fixed32 n) y e = refl
read_wire kind.Sfixed32 (fixed32 n) y e = refl
read_wire kind.Float (fixed32 n) y e = refl
read_wire kind.Text (len s) y e = refl
read_wire kind.Bytes (len s) y e = refl
read_wire k p y e = absurd (cc)

pub read_scalar : (k : Kind) (p : Payload) (y : Scalar) → read k p ≡ Some y → message_of_kind k ≡ None
read_scalar (kind.Message m) p y e = absurd (cc)
read_scalar (kind.Group m) p y e = absurd (cc)
read_scalar k p y e = refl

pub packable_wire : (k : Kind) → is_packable k ≡ true → (wire_type_of k ≡ 2 → ⊥) × (wire_type_of k ≡ 3 → ⊥)
packable_wire kind.Text can = absurd (cc)
packable_wire kind.Bytes can = absurd (cc)
packable_wire (kind.Message m) can = absurd (cc)
packable_wire (kind.Group m) can = absurd (cc)
packable_wire k can = (λ e. omega (arith, e), λ e. omega (arith, e))

pub wire_packable : (k : Kind) → (wire_type_of k ≡ 2 → ⊥) × (wire_type_of k ≡ 3 → ⊥) → is_packable k ≡ true
wire_packable kind.Text other = absurd (other.0 refl)
wire_packable kind.Bytes other = absurd (other.0 refl)
wire_packable (kind.Message m) other = absurd (other.0 refl)
wire_packable (kind.Group m) other = absurd (other.1 refl)
wire_packable k other = refl

-- what is no packed list has at most one element
pub elements_read : (k : Kind) (p : Payload) (y : Scalar) → (is_packable k ≡ true → wire_type p ≡ 2 → ⊥) → read k p ≡ Some y → elements k p ≡ y ∷ []
elements_read k (varint n) y few e = ap option_to_list e
elements_read k (fixed64 n) y few e = ap option_to_list e
elements_read k (group g) y few e = ap option_to_list e
elements_read k (fixed32 n) y few e = ap option_to_list e
elements_read kind.Text (len s) y few e = ap option_to_list e
elements_read kind.Bytes (len s) y few e = ap option_to_list e
elements_read k (len s) y few e = absurd (cc)

pub elements-packed : (k : Kind) (s : List ℕ) → is_packable k ≡ true → elements k (len s) ≡ filter_map (read k) (numbers_of (wire_type_of k) s)
elements-packed kind.Text s can = absurd (cc)
elements-packed kind.Bytes s can = absurd (cc)
elements-packed (kind.Message m) s can = absurd (cc)
elements-packed (kind.Group m) s can = absurd (cc)
elements-packed k s can = refl

pub and_both : (a b : Bool) → (a && b) ≡ true → (a ≡ true) × (b ≡ true)
and_both true b e = (refl, e)
and_both false b e = absurd (cc)

-- CONVERSIONS

-- what the new kind reads
abbrev pub read_as : Kind → Kind → Scalar → Scalar
read_as a b x = unwrap_or (read b (written a x)) x

abbrev pub all_read_as : Kind → Kind → Datums → Datums
all_read_as a b no_datums = no_datums
all_read_as a b (datum (scalar x) ds) = datum (scalar (read_as a b x)) (all_read_as a b ds)
all_read_as a b (datum (message v) ds) = all_read_as a b ds

module _ (old new : Types) (a b : Kind) (keeps : keeps_scalars old new a b ≡ true) where
  pub scalar_kind : message_of_kind a ≡ None
  scalar_kind = by a keeps
    where
      by : (k : Kind) → keeps_scalars old new k b ≡ true → message_of_kind k ≡ None
      by (kind.Message m) e = absurd (cc)
      by (kind.Group m) e = absurd (cc)
      by k e = refl

  pub reads : (x : Scalar) → IsOfKind a x → is_declared old a x ≡ true → (read b (written a x) ≡ Some (read_as a b x)) × (meaning (read_as a b x) ≡ meaning x)
  reads x h d =
      let r = some_of (read b (written a x)) (MeansTo new b (meaning x)) (scalars_kept new old a b keeps x h d) in
      let same : read_as a b x ≡ r.0 = ap (λ o. unwrap_or o x) r.1 in
      (r.1 ∙ ap Some (sym same), ap meaning same ∙ r.2.2)

  pub same_wire : (x : Scalar) → IsOfKind a x → is_declared old a x ≡ true → wire_type_of b ≡ wire_type_of a
  same_wire x h d = sym (read_wire b (written a x) (read_as a b x) (reads x h d).0) ∙ wire_type-written a x h

  pub written_wire : (x : Scalar) → IsOfKind a x → is_declared old a x ≡ true → wire_type (written a x) ≡ wire_type_of b
  written_wire x h d = read_wire b (written a x) (read_as a b x) (reads x h d).0

  pub packable_too : (x : Scalar) → IsOfKind a x → is_declared old a x ≡ true → is_packable a ≡ true → is_packable b ≡ true
  packable_too x h d can =
      let wire = same_wire x h d in
      let apart = packable_wire a can in
      wire_packable b (λ e. apart.0 (sym wire ∙ e), λ e. apart.1 (sym wire ∙ e))

  pub elements_as : (x : Scalar) → IsOfKind a x → is_declared old a x ≡ true → elements b (written a x) ≡ read_as a b x ∷ []
  elements_as x h d =
      let e = (reads x h d).0 in
      elements_read b (written a x) (read_as a b x) (λ can w. (packable_wire b can).0 (sym (read_wire b (written a x) (read_as a b x) e) ∙ w)) e

  pub new_scalar : (x : Scalar) → IsOfKind a x → is_declared old a x ≡ true → message_of_kind b ≡ None
  new_scalar x h d = read_scalar b (written a x) (read_as a b x) (reads x h d).0

  module _ (inner : ℕ → List Record → Message) where
    listed_one : (n : ℕ) (x : Scalar) → IsOfKind a x → is_declared old a x ≡ true → list_values inner b (record_of n (written a x) ∷ []) ≡ scalar (read_as a b x) ∷ []
    listed_one n x h d = list_values-scalar inner b (record_of n (written a x) ∷ []) (new_scalar x h d) ∙ ap (λ (l : List Scalar). map scalar (l ++ [])) (elements_as x h d)

    each_as : (name : List ℕ) (n : ℕ) (s : Shape) (ds : Datums) → AreDatums old a ds → datums_declared old a ds ≡ true → map scalar (all_elements b (canon_each old (field_with name n a s) ds)) ≡ values (all_read_as a b ds)
    each_as name n s no_datums h d = refl
    each_as name n s (datum (scalar x) ds) h d =
        let both = and_both (is_declared old a x) (datums_declared old a ds) d in
        ap (λ (l : List Scalar). map scalar (l ++ all_elements b (canon_each old (field_with name n a s) ds))) (elements_as x h.0 both.0)
        ∙ ap (λ l. scalar (read_as a b x) ∷ l) (each_as name n s ds h.1 both.1)
    each_as name n s (datum (message v) ds) h d = absurd (no_message_of old a v scalar_kind h.0)

    payloads_as : (ds : Datums) → AreDatums old a ds → datums_declared old a ds ≡ true → map scalar (filter_map (read b) (payloads a ds)) ≡ values (all_read_as a b ds)
    payloads_as no_datums h d = refl
    payloads_as (datum (scalar x) ds) h d =
        let both = and_both (is_declared old a x) (datums_declared old a ds) d in
        ap (λ o. map scalar (cons_option o (filter_map (read b) (payloads a ds)))) (reads x h.0 both.0).0
        ∙ ap (λ l. scalar (read_as a b x) ∷ l) (payloads_as ds h.1 both.1)
    payloads_as (datum (message v) ds) h d = absurd (no_message_of old a v scalar_kind h.0)

    pub packed_as : (n : ℕ) (x : Scalar) (ds : Datums) → is_packable a ≡ true → AreDatums old a (datum (scalar x) ds) → datums_declared old a (datum (scalar x) ds) ≡ true
        → list_values inner b (record_of n (len (packed_bytes a (datum (scalar x) ds))) ∷ []) ≡ values (all_read_as a b (datum (scalar x) ds))
    packed_as n x ds can h d =
        let both = and_both (is_declared old a x) (datums_declared old a ds) d in
        let wire = same_wire x h.0 both.0 in
        let can_too = packable_too x h.0 both.0 can in
        let es = datum (scalar x) ds in
        let s = packed_bytes a es in
        list_values-scalar inner b (record_of n (len s) ∷ []) (new_scalar x h.0 both.0)
        ∙ ap (map scalar) (append-nil (elements b (len s)) ∙ elements-packed b s can_too ∙ ap (λ (w : ℕ). filter_map (read b) (numbers_of w s)) wire ∙ ap (filter_map (read b)) (numbers_back a (payloads a es) s can (packed_numbers old a es can h)))
        ∙ payloads_as es h d

-- kinds of scalars are kept by the table
pub kept_scalars : (old new : Types) (a b : Kind) → message_of_kind a ≡ None → keeps_kind old new a b ≡ true → keeps_scalars old new a b ≡ true
kept_scalars old new (kind.Message m) b none e = absurd (cc)
kept_scalars old new (kind.Group m) b none e = absurd (cc)
kept_scalars old new k b none e = e
