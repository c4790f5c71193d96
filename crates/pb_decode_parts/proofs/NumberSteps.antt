-- A number after its tag: the whole record, and what the part is worth with it.
use Rattle.std.proofs.Common.{◌≡◌, ℕ, ◌%◌, ◌^◌, ◌<◌, List, [], ◌∷◌, length, map, refl, sym, ap, ◌∙◌, subst, arith, Option, Some, None, IsTrue}
use Rattle.std.specs.Prelude.{Bool, true, false, not, ◌==◌, ◌&&◌}
use Rattle.std.specs.Option.{option_to_list}
use Rattle.std.specs.Int.{cast_signed, w32, w64}
use Rattle.std.proofs.lemmas.Bool.{false≢true}
use Rattle.std.proofs.lemmas.Bool.Decides.{nat_tests}
use Rattle.pb_wire.specs.Zigzag.{unzigzag}
use Rattle.pb_wire.specs.Record.{Payload, varint, fixed64, fixed32, Record, wire_type}
use Rattle.pb_wire.specs.Fault.{Place, HasTag}
use Rattle.pb_wire.specs.Schema.{Schema, context_of}
use Rattle.pb_wire.specs.Sound.{Sound}
use Rattle.pb_schema.specs.declared.types.Kind.{Kind}
use Rattle.pb_schema.specs.declared.types.Kind.TheVariants as kind
use Rattle.pb_schema.specs.declared.types.Shape.{Shape}
use Rattle.pb_schema.specs.declared.types.Shape.TheVariants as shape
use Rattle.pb_schema.specs.Types.{FieldView, Types, message_fields, field_numbered}
use Rattle.pb_schema.specs.Rules.{IsPool}
use Rattle.pb_schema.specs.Scalar.{Scalar, int32, int64, uint32, uint64, boolean, float, double, enum}
use Rattle.pb_schema.specs.Closed.{is_undeclared}
use Rattle.pb_value.proofs.KnownLemmas.{IsKnown}
use Rattle.pb_decode_parts.proofs.KindLemmas.{declared_known}
use Rattle.pb_schema.specs.Kinds.{closed_enum, wire_type_of, is_key_kind, message_of_kind, read}
use Rattle.pb_schema.specs.Packed.{elements}
use Rattle.pb_schema.specs.Fits.{fits, fits_type, fits_shape}
use Rattle.pb_schema.specs.Context.{key_field, value_field, schema_of}
use Rattle.pb_value.specs.Data.{Datum, Message, scalar, one, fields_of}
use Rattle.pb_value.specs.Change.{IsSingle, stored_at, push_at, push_each, with_fields}
use Rattle.pb_value.proofs.OneofLemmas.{pool_differ}
use Rattle.pb_value.proofs.StepLemmas.{found_number, self_equal}
use Rattle.pb_wire.specs.declared.scan.Number.{Number}
use Rattle.pb_wire.specs.declared.scan.Number.TheVariants as number
use Rattle.pb_decode_parts.specs.declared.open.target.Target.{Target}
use Rattle.pb_decode_parts.specs.declared.open.target.Target.TheVariants as target
use Rattle.pb_decode_parts.specs.declared.tokens.step.Step.{Step}
use Rattle.pb_decode_parts.specs.Tokens.Number.{number_view}
use Rattle.pb_decode_parts.specs.Tokens.Numbers.{Follows}
use Rattle.pb_decode_parts.specs.Values.Put.{scalar_kind, key_in, put_datum}
use Rattle.pb_decode_parts.specs.Open.Targets.{OfShape, AtField, Means, part_context}
use Rattle.pb_decode_parts.specs.Open.Parents.{Part, message_part, entry_part, group_part, CanHold, Parent, Reached, Scope, one_more_in}
use Rattle.pb_decode_parts.specs.Tokens.After.{tag, awaited, After}
use Rattle.pb_decode_parts.proofs.OpenedLemmas.{RecordTo, record_to}
use Rattle.pb_decode_parts.proofs.StepsOfParts.{scalar_reached, elements_reached}
use Rattle.pb_decode_parts.proofs.EntrySteps.{key_reached, value_reached}
use Rattle.pb_decode_parts.proofs.AfterLemmas.{at_tag}

-- THE RECORD

-- a number after its tag is a sound record
pub number_record :
    {S : Schema} (c : S.Context) (depth_left k : ℕ) (a : Number) {q u w : Place} → HasTag q k (wire_type (number_view a)) u → Follows u (number_view a) w
    → RecordTo S c depth_left q (record { number = k; payload = number_view a }) w
number_record c depth_left k (number.Varint n) has (bytes, spelled, moves) = record_to c depth_left k 0 (varint n) bytes has refl spelled Sound.is_varint moves
number_record c depth_left k (number.I64 n) has (bytes, spelled, moves) = record_to c depth_left k 1 (fixed64 n) bytes has refl spelled Sound.is_fixed64 moves
number_record c depth_left k (number.I32 n) has (bytes, spelled, moves) = record_to c depth_left k 5 (fixed32 n) bytes has refl spelled Sound.is_fixed32 moves

number_elements : (k : Kind) (a : Number) (x : Scalar) → read k (number_view a) ≡ Some x → elements k (number_view a) ≡ x ∷ []
number_elements k (number.Varint n) x is = ap option_to_list is
number_elements k (number.I64 n) x is = ap option_to_list is
number_elements k (number.I32 n) x is = ap option_to_list is

-- a number of a kind's wire type is a value of the kind
pub read_some : (k : Kind) (a : Number) → wire_type (number_view a) ≡ wire_type_of k → (x : Scalar) × (read k (number_view a) ≡ Some x)
read_some kind.Int32 (number.Varint n) same = (int32 (cast_signed w32 (n % 2 ^ 32)), refl)
read_some kind.Int32 (number.I64 n) same = absurd (omega (arith, same))
read_some kind.Int32 (number.I32 n) same = absurd (omega (arith, same))
read_some kind.Int64 (number.Varint n) same = (int64 (cast_signed w64 n), refl)
read_some kind.Int64 (number.I64 n) same = absurd (omega (arith, same))
read_some kind.Int64 (number.I32 n) same = absurd (omega (arith, same))
read_some kind.Uint32 (number.Varint n) same = (uint32 (n % 2 ^ 32), refl)
read_some kind.Uint32 (number.I64 n) same = absurd (omega (arith, same))
read_some kind.Uint32 (number.I32 n) same = absurd (omega (arith, same))
read_some kind.Uint64 (number.Varint n) same = (uint64 n, refl)
read_some kind.Uint64 (number.I64 n) same = absurd (omega (arith, same))
read_some kind.Uint64 (number.I32 n) same = absurd (omega (arith, same))
read_some kind.Sint32 (number.Varint n) same = (int32 (unzigzag (n % 2 ^ 32)), refl)
read_some kind.Sint32 (number.I64 n) same = absurd (omega (arith, same))
read_some kind.Sint32 (number.I32 n) same = absurd (omega (arith, same))
read_some kind.Sint64 (number.Varint n) same = (int64 (unzigzag n), refl)
read_some kind.Sint64 (number.I64 n) same = absurd (omega (arith, same))
read_some kind.Sint64 (number.I32 n) same = absurd (omega (arith, same))
read_some kind.Bool (number.Varint n) same = (boolean (not (n == 0)), refl)
read_some kind.Bool (number.I64 n) same = absurd (omega (arith, same))
read_some kind.Bool (number.I32 n) same = absurd (omega (arith, same))
read_some (kind.Enum e) (number.Varint n) same = (enum (cast_signed w32 (n % 2 ^ 32)), refl)
read_some (kind.Enum e) (number.I64 n) same = absurd (omega (arith, same))
read_some (kind.Enum e) (number.I32 n) same = absurd (omega (arith, same))
read_some (kind.ClosedEnum e) (number.Varint n) same = (enum (cast_signed w32 (n % 2 ^ 32)), refl)
read_some (kind.ClosedEnum e) (number.I64 n) same = absurd (omega (arith, same))
read_some (kind.ClosedEnum e) (number.I32 n) same = absurd (omega (arith, same))
read_some kind.Fixed64 (number.Varint n) same = absurd (omega (arith, same))
read_some kind.Fixed64 (number.I64 n) same = (uint64 n, refl)
read_some kind.Fixed64 (number.I32 n) same = absurd (omega (arith, same))
read_some kind.Sfixed64 (number.Varint n) same = absurd (omega (arith, same))
read_some kind.Sfixed64 (number.I64 n) same = (int64 (cast_signed w64 n), refl)
read_some kind.Sfixed64 (number.I32 n) same = absurd (omega (arith, same))
read_some kind.Double (number.Varint n) same = absurd (omega (arith, same))
read_some kind.Double (number.I64 n) same = (double n, refl)
read_some kind.Double (number.I32 n) same = absurd (omega (arith, same))
read_some kind.Fixed32 (number.Varint n) same = absurd (omega (arith, same))
read_some kind.Fixed32 (number.I64 n) same = absurd (omega (arith, same))
read_some kind.Fixed32 (number.I32 n) same = (uint32 n, refl)
read_some kind.Sfixed32 (number.Varint n) same = absurd (omega (arith, same))
read_some kind.Sfixed32 (number.I64 n) same = absurd (omega (arith, same))
read_some kind.Sfixed32 (number.I32 n) same = (int32 (cast_signed w32 n), refl)
read_some kind.Float (number.Varint n) same = absurd (omega (arith, same))
read_some kind.Float (number.I64 n) same = absurd (omega (arith, same))
read_some kind.Float (number.I32 n) same = (float n, refl)
read_some kind.Text (number.Varint n) same = absurd (omega (arith, same))
read_some kind.Text (number.I64 n) same = absurd (omega (arith, same))
read_some kind.Text (number.I32 n) same = absurd (omega (arith, same))
read_some kind.Bytes (number.Varint n) same = absurd (omega (arith, same))
read_some kind.Bytes (number.I64 n) same = absurd (omega (arith, same))
read_some kind.Bytes (number.I32 n) same = absurd (omega (arith, same))
read_some (kind.Message m) (number.Varint n) same = absurd (omega (arith, same))
read_some (kind.Message m) (number.I64 n) same = absurd (omega (arith, same))
read_some (kind.Message m) (number.I32 n) same = absurd (omega (arith, same))
read_some (kind.Group m) (number.Varint n) same = absurd (omega (arith, same))
read_some (kind.Group m) (number.I64 n) same = absurd (omega (arith, same))
read_some (kind.Group m) (number.I32 n) same = absurd (omega (arith, same))

at_form : (z y : Scalar) → Some z ≡ Some y → key_in (scalar z) ≡ Some z → key_in (scalar y) ≡ Some y
at_form z y is form = let same : z ≡ y = cc in subst (λ (x : Scalar). key_in (scalar x) ≡ Some x) same form

-- a value of a kind that keys have is a key
key_read : (k : Kind) (a : Number) (y : Scalar) → IsTrue (is_key_kind k) → read k (number_view a) ≡ Some y → key_in (scalar y) ≡ Some y
key_read kind.Int32 (number.Varint n) y can is = at_form (int32 (cast_signed w32 (n % 2 ^ 32))) y is refl
key_read kind.Int32 (number.I64 n) y can is = absurd (cc)
key_read kind.Int32 (number.I32 n) y can is = absurd (cc)
key_read kind.Int64 (number.Varint n) y can is = at_form (int64 (cast_signed w64 n)) y is refl
key_read kind.Int64 (number.I64 n) y can is = absurd (cc)
key_read kind.Int64 (number.I32 n) y can is = absurd (cc)
key_read kind.Uint32 (number.Varint n) y can is = at_form (uint32 (n % 2 ^ 32)) y is refl
key_read kind.Uint32 (number.I64 n) y can is = absurd (cc)
key_read kind.Uint32 (number.I32 n) y can is = absurd (cc)
key_read kind.Uint64 (number.Varint n) y can is = at_form (uint64 n) y is refl
key_read kind.Uint64 (number.I64 n) y can is = absurd (cc)
key_read kind.Uint64 (number.I32 n) y can is = absurd (cc)
key_read kind.Sint32 (number.Varint n) y can is = at_form (int32 (unzigzag (n % 2 ^ 32))) y is refl
key_read kind.Sint32 (number.I64 n) y can is = absurd (cc)
key_read kind.Sint32 (number.I32 n) y can is = absurd (cc)
key_read kind.Sint64 (number.Varint n) y can is = at_form (int64 (unzigzag n)) y is refl
key_read kind.Sint64 (number.I64 n) y can is = absurd (cc)
key_read kind.Sint64 (number.I32 n) y can is = absurd (cc)
key_read kind.Bool (number.Varint n) y can is = at_form (boolean (not (n == 0))) y is refl
key_read kind.Bool (number.I64 n) y can is = absurd (cc)
key_read kind.Bool (number.I32 n) y can is = absurd (cc)
key_read kind.Fixed64 (number.Varint n) y can is = absurd (cc)
key_read kind.Fixed64 (number.I64 n) y can is = at_form (uint64 n) y is refl
key_read kind.Fixed64 (number.I32 n) y can is = absurd (cc)
key_read kind.Sfixed64 (number.Varint n) y can is = absurd (cc)
key_read kind.Sfixed64 (number.I64 n) y can is = at_form (int64 (cast_signed w64 n)) y is refl
key_read kind.Sfixed64 (number.I32 n) y can is = absurd (cc)
key_read kind.Fixed32 (number.Varint n) y can is = absurd (cc)
key_read kind.Fixed32 (number.I64 n) y can is = absurd (cc)
key_read kind.Fixed32 (number.I32 n) y can is = at_form (uint32 n) y is refl
key_read kind.Sfixed32 (number.Varint n) y can is = absurd (cc)
key_read kind.Sfixed32 (number.I64 n) y can is = absurd (cc)
key_read kind.Sfixed32 (number.I32 n) y can is = at_form (int32 (cast_signed w32 n)) y is refl
key_read kind.Text (number.Varint n) y can is = absurd (cc)
key_read kind.Text (number.I64 n) y can is = absurd (cc)
key_read kind.Text (number.I32 n) y can is = absurd (cc)
key_read kind.Double a y can is = absurd (false≢true can)
key_read kind.Float a y can is = absurd (false≢true can)
key_read kind.Bytes a y can is = absurd (false≢true can)
key_read (kind.Enum e) a y can is = absurd (false≢true can)
key_read (kind.Message m) a y can is = absurd (false≢true can)
key_read (kind.ClosedEnum e) a y can is = absurd (false≢true can)
key_read (kind.Group m) a y can is = absurd (false≢true can)

-- THE FIELD

pub fits_is : (f : FieldView) (k : ℕ) (p : Payload) → f.number ≡ k → fits_type f (wire_type p) ≡ true → fits f (record { number = k; payload = p }) ≡ true
fits_is f k p own e = ap (λ (z : ℕ). (k == z) && fits_type f (wire_type p)) own ∙ ap (λ (b : Bool). b && fits_type f (wire_type p)) (self_equal k) ∙ e

pub single_field :
    (o : Option FieldView) (k w : ℕ) (kd : Kind) (s : Shape) → AtField o k w (target.One kd s)
    → (f : FieldView) × (o ≡ Some f) × (fits_type f w ≡ true) × (f.kind ≡ kd) × (f.shape ≡ s) × IsSingle s × (message_of_kind kd ≡ None)
single_field None k w kd s h = absurd (cc)
single_field (Some f) k w kd s (e, h) = by_shape f.shape refl h
  where
    by_shape : (t : Shape) → f.shape ≡ t → OfShape f.kind t k w (target.One kd s) → (g : FieldView) × (Some f ≡ Some g) × (fits_type g w ≡ true) × (g.kind ≡ kd) × (g.shape ≡ s) × IsSingle s × (message_of_kind kd ≡ None)
    by_shape (shape.Map key) is h = absurd h
    by_shape (shape.List p) is h = absurd h
    by_shape shape.Implicit is (a, b, none) = (f, refl, e, sym a, is ∙ sym b, subst IsSingle (sym b) tt, ap message_of_kind a ∙ none)
    by_shape shape.Explicit is (a, b, none) = (f, refl, e, sym a, is ∙ sym b, subst IsSingle (sym b) tt, ap message_of_kind a ∙ none)
    by_shape (shape.OneofMember o) is (a, b, none) = (f, refl, e, sym a, is ∙ sym b, subst IsSingle (sym b) tt, ap message_of_kind a ∙ none)

pub listed_field :
    (o : Option FieldView) (k w : ℕ) (kd : Kind) → AtField o k w (target.Element kd)
    → (f : FieldView) × (o ≡ Some f) × (fits_type f w ≡ true) × (f.kind ≡ kd) × ((p : Bool) × (f.shape ≡ shape.List p)) × (message_of_kind kd ≡ None)
listed_field None k w kd h = absurd (cc)
listed_field (Some f) k w kd (e, h) = by_shape f.shape refl h
  where
    by_shape : (t : Shape) → f.shape ≡ t → OfShape f.kind t k w (target.Element kd) → (g : FieldView) × (Some f ≡ Some g) × (fits_type g w ≡ true) × (g.kind ≡ kd) × ((p : Bool) × (g.shape ≡ shape.List p)) × (message_of_kind kd ≡ None)
    by_shape (shape.Map key) is h = absurd h
    by_shape (shape.List p) is (a, none, same) = (f, refl, e, sym a, (p, is), ap message_of_kind a ∙ none)
    by_shape shape.Implicit is h = absurd h
    by_shape shape.Explicit is h = absurd h
    by_shape (shape.OneofMember o) is h = absurd h

-- targets of records of entries alone
abbrev IsOfEntry : Target → Type 0
IsOfEntry (target.Key kd) = Unit {0}
IsOfEntry (target.EntryValue kd) = Unit {0}
IsOfEntry _ = ⊥

no_shape : (k : Kind) (t : Shape) (n w : ℕ) (meant : Target) → IsOfEntry meant → OfShape k t n w meant → ⊥
no_shape k (shape.Map key) n w (target.Key kd) is h = h
no_shape k (shape.Map key) n w (target.EntryValue kd) is h = h
no_shape k (shape.List p) n w (target.Key kd) is h = h
no_shape k (shape.List p) n w (target.EntryValue kd) is h = h
no_shape k shape.Implicit n w (target.Key kd) is h = h
no_shape k shape.Implicit n w (target.EntryValue kd) is h = h
no_shape k shape.Explicit n w (target.Key kd) is h = h
no_shape k shape.Explicit n w (target.EntryValue kd) is h = h
no_shape k (shape.OneofMember o) n w (target.Key kd) is h = h
no_shape k (shape.OneofMember o) n w (target.EntryValue kd) is h = h
no_shape k t n w meant is h = absurd is

pub no_key : (o : Option FieldView) (n w : ℕ) (kd : Kind) → AtField o n w (target.Key kd) → ⊥
no_key None n w kd h = absurd (cc)
no_key (Some f) n w kd h = no_shape f.kind f.shape n w (target.Key kd) tt h.1

pub no_entry_value : (o : Option FieldView) (n w : ℕ) (kd : Kind) → AtField o n w (target.EntryValue kd) → ⊥
no_entry_value None n w kd h = absurd (cc)
no_entry_value (Some f) n w kd h = no_shape f.kind f.shape n w (target.EntryValue kd) tt h.1

-- THE PART WITH IT: a record of any payload that gives one value
module _ {pool : Types} {m depth levels : ℕ} {base : List Record} {p0 : Place} {parents : List Parent} {scope : Scope} (ok : IsPool pool) (k : ℕ) (p : Payload) (x : Scalar) {q w : Place} where
  one_reached : (t : ℕ) (v : Message) (kd : Kind) (s : Shape) → t < length pool.messages → (st : Reached pool m depth levels base p0 parents (message_part t v) scope q)
      → RecordTo (schema_of pool) (context_of st.open_now) scope.depth_left q (record { number = k; payload = p }) w → Means pool (part_context (message_part t v)) k (wire_type p) (target.One kd s)
      → elements kd p ≡ x ∷ [] → wire_type p ≡ wire_type_of kd → is_undeclared pool (closed_enum kd) p ≡ false → Reached pool m depth levels base p0 parents (put_datum pool k (target.One kd s) (message_part t v) (scalar x)) (one_more_in k scope) w
  one_reached t v kd s within st to means is type declared = at_field (single_field (field_numbered k (message_fields pool t)) k (wire_type p) kd s means)
    where
      at_field : (f : FieldView) × (field_numbered k (message_fields pool t) ≡ Some f) × (fits_type f (wire_type p) ≡ true) × (f.kind ≡ kd) × (f.shape ≡ s) × IsSingle s × (message_of_kind kd ≡ None)
          → Reached pool m depth levels base p0 parents (message_part t (with_fields v (stored_at (message_fields pool t) s k (one (scalar x)) (fields_of v)))) (one_more_in k scope) w
      at_field (f, found, e, is_kind, is_shape, single, none) =
          let own : f.number ≡ k = found_number k (message_fields pool t) f found in
          let there : field_numbered f.number (message_fields pool t) ≡ Some f = ap (λ (z : ℕ). field_numbered z (message_fields pool t)) own ∙ found in
          let counting = subst (λ (z : ℕ). IsKnown pool (message_fields pool t) (record { number = z; payload = p })) own
          (declared_known pool (message_fields pool t) f p there (ap (λ (z : Kind). wire_type p == wire_type_of z) is_kind ∙ ap (λ (z : ℕ). z == wire_type_of kd) type ∙ self_equal (wire_type_of kd))
          (ap (λ (z : Kind). is_undeclared pool (closed_enum z) p) is_kind ∙ declared) (fits_is f f.number p refl e)) in
          let stood = scalar_reached t v st (pool_differ pool t ok within) (record { number = k; payload = p }) to f there (fits_is f k p own e) counting x
          (subst IsSingle (sym is_shape) single) (ap message_of_kind is_kind ∙ none) (ap (λ (z : Kind). elements z p) is_kind ∙ is) in
          subst (λ (z : ℕ). Reached pool m depth levels base p0 parents (message_part t (with_fields v (stored_at (message_fields pool t) s z (one (scalar x)) (fields_of v)))) (one_more_in k scope) w) own
          (subst (λ (z : Shape). Reached pool m depth levels base p0 parents (message_part t (with_fields v (stored_at (message_fields pool t) z f.number (one (scalar x)) (fields_of v)))) (one_more_in k scope) w) is_shape stood)

  element_reached : (t : ℕ) (v : Message) (kd : Kind) → t < length pool.messages → (st : Reached pool m depth levels base p0 parents (message_part t v) scope q)
      → RecordTo (schema_of pool) (context_of st.open_now) scope.depth_left q (record { number = k; payload = p }) w → Means pool (part_context (message_part t v)) k (wire_type p) (target.Element kd)
      → elements kd p ≡ x ∷ [] → wire_type p ≡ wire_type_of kd → is_undeclared pool (closed_enum kd) p ≡ false → Reached pool m depth levels base p0 parents (put_datum pool k (target.Element kd) (message_part t v) (scalar x)) (one_more_in k scope) w
  element_reached t v kd within st to means is type declared = at_field (listed_field (field_numbered k (message_fields pool t)) k (wire_type p) kd means)
    where
      at_field : (f : FieldView) × (field_numbered k (message_fields pool t) ≡ Some f) × (fits_type f (wire_type p) ≡ true) × (f.kind ≡ kd) × ((b : Bool) × (f.shape ≡ shape.List b)) × (message_of_kind kd ≡ None)
          → Reached pool m depth levels base p0 parents (message_part t (with_fields v (push_at k (scalar x) (fields_of v)))) (one_more_in k scope) w
      at_field (f, found, e, is_kind, (b, is_shape), none) =
          let own : f.number ≡ k = found_number k (message_fields pool t) f found in
          let there : field_numbered f.number (message_fields pool t) ≡ Some f = ap (λ (z : ℕ). field_numbered z (message_fields pool t)) own ∙ found in
          let counting = subst (λ (z : ℕ). IsKnown pool (message_fields pool t) (record { number = z; payload = p })) own
          (declared_known pool (message_fields pool t) f p there (ap (λ (z : Kind). wire_type p == wire_type_of z) is_kind ∙ ap (λ (z : ℕ). z == wire_type_of kd) type ∙ self_equal (wire_type_of kd))
          (ap (λ (z : Kind). is_undeclared pool (closed_enum z) p) is_kind ∙ declared) (fits_is f f.number p refl e)) in
          let given : elements f.kind p ≡ x ∷ [] = ap (λ (z : Kind). elements z p) is_kind ∙ is in
          let stood = elements_reached t v st (pool_differ pool t ok within) (record { number = k; payload = p }) to f there (fits_is f k p own e) counting b is_shape
          (ap message_of_kind is_kind ∙ none) in
          subst (λ (z : ℕ). Reached pool m depth levels base p0 parents (message_part t (with_fields v (push_at z (scalar x) (fields_of v)))) (one_more_in k scope) w) own
          (subst (λ (z : List Scalar). Reached pool m depth levels base p0 parents (message_part t (with_fields v (push_each f.number (map scalar z) (fields_of v)))) (one_more_in k scope) w) given stood)

  key_part_reached : (key kd : Kind) (y : Option Scalar) (d : Option Datum) (k2 : Kind) → (st : Reached pool m depth levels base p0 parents (entry_part key kd y d) scope q)
      → RecordTo (schema_of pool) (context_of st.open_now) scope.depth_left q (record { number = k; payload = p }) w → Means pool (part_context (entry_part key kd y d)) k (wire_type p) (target.Key k2)
      → elements k2 p ≡ x ∷ [] → key_in (scalar x) ≡ Some x → Reached pool m depth levels base p0 parents (put_datum pool k (target.Key k2) (entry_part key kd y d) (scalar x)) (one_more_in k scope) w
  key_part_reached key kd y d k2 st to (is_key, first, type) is keyed =
      let stood = key_reached key kd y d st (record { number = k; payload = p }) to x (fits_is (key_field key) k p (sym first) (ap (λ (z : ℕ). z == wire_type_of key) type ∙ self_equal (wire_type_of key)))
      (ap (λ (z : ℕ). (z == 2) && fits_type (value_field kd) (wire_type p)) first) (ap (λ (z : Kind). elements z p) (sym is_key) ∙ is) in
      subst (λ (z : Option Scalar). Reached pool m depth levels base p0 parents (entry_part key kd z d) (one_more_in k scope) w) (sym keyed) stood

  value_part_reached : (key kd : Kind) (y : Option Scalar) (d : Option Datum) (k2 : Kind) → (st : Reached pool m depth levels base p0 parents (entry_part key kd y d) scope q)
      → RecordTo (schema_of pool) (context_of st.open_now) scope.depth_left q (record { number = k; payload = p }) w → Means pool (part_context (entry_part key kd y d)) k (wire_type p) (target.EntryValue k2)
      → elements k2 p ≡ x ∷ [] → Reached pool m depth levels base p0 parents (put_datum pool k (target.EntryValue k2) (entry_part key kd y d) (scalar x)) (one_more_in k scope) w
  value_part_reached key kd y d k2 st to (is_value, second, type, none) is =
      value_reached key kd y d st (record { number = k; payload = p }) to x (ap (λ (z : ℕ). (z == 1) && fits_type (key_field key) (wire_type p)) second)
      (fits_is (value_field kd) k p (sym second) (ap (λ (z : ℕ). z == wire_type_of kd) type ∙ self_equal (wire_type_of kd))) none (ap (λ (z : Kind). elements z p) (sym is_value) ∙ is)

  -- A VALUE IN A PART: the reader is after its record, and the part holds it
  pub scalar_record_reached : (now : Part) (meant : Target) (kd : Kind) → CanHold pool now → (st : Reached pool m depth levels base p0 parents now scope q)
      → RecordTo (schema_of pool) (context_of st.open_now) scope.depth_left q (record { number = k; payload = p }) w → Means pool (part_context now) k (wire_type p) meant → scalar_kind meant ≡ Some kd
      → elements kd p ≡ x ∷ [] → (IsTrue (is_key_kind kd) → key_in (scalar x) ≡ Some x) → wire_type p ≡ wire_type_of kd → is_undeclared pool (closed_enum kd) p ≡ false → Reached pool m depth levels base p0 parents (put_datum pool k meant now (scalar x)) (one_more_in k scope) w
  scalar_record_reached (message_part t v) (target.One k2 s) kd can st to means of is keyed type declared =
      let same : k2 ≡ kd = cc in
      one_reached t v k2 s can.0 st to means (ap (λ (z : Kind). elements z p) same ∙ is) (type ∙ ap wire_type_of (sym same)) (ap (λ (z : Kind). is_undeclared pool (closed_enum z) p) same ∙ declared)
  scalar_record_reached (message_part t v) (target.Element k2) kd can st to means of is keyed type declared =
      let same : k2 ≡ kd = cc in
      element_reached t v k2 can.0 st to means (ap (λ (z : Kind). elements z p) same ∙ is) (type ∙ ap wire_type_of (sym same)) (ap (λ (z : Kind). is_undeclared pool (closed_enum z) p) same ∙ declared)
  scalar_record_reached (message_part t v) (target.Key k2) kd can st to means of is keyed type declared = absurd (no_key (field_numbered k (message_fields pool t)) k (wire_type p) k2 means)
  scalar_record_reached (message_part t v) (target.EntryValue k2) kd can st to means of is keyed type declared = absurd (no_entry_value (field_numbered k (message_fields pool t)) k (wire_type p) k2 means)
  scalar_record_reached (entry_part key k3 y d) (target.Key k2) kd can st to means of is keyed type declared =
      let same : k2 ≡ kd = cc in
      key_part_reached key k3 y d k2 st to means (ap (λ (z : Kind). elements z p) same ∙ is) (keyed (subst (λ (z : Kind). IsTrue (is_key_kind z)) (sym means.0 ∙ same) can))
  scalar_record_reached (entry_part key k3 y d) (target.EntryValue k2) kd can st to means of is keyed type declared = value_part_reached key k3 y d k2 st to means (let same : k2 ≡ kd = cc in ap (λ (z : Kind). elements z p) same ∙ is)
  scalar_record_reached (entry_part key k3 y d) (target.One k2 s) kd can st to means of is keyed type declared = absurd means
  scalar_record_reached (entry_part key k3 y d) (target.Element k2) kd can st to means of is keyed type declared = absurd means
  scalar_record_reached (group_part us) (target.One k2 s) kd can st to means of is keyed type declared = absurd (cc)
  scalar_record_reached (group_part us) (target.Element k2) kd can st to means of is keyed type declared = absurd (cc)
  scalar_record_reached (group_part us) (target.Key k2) kd can st to means of is keyed type declared = absurd (cc)
  scalar_record_reached (group_part us) (target.EntryValue k2) kd can st to means of is keyed type declared = absurd (cc)
  scalar_record_reached now (target.Packed k2) kd can st to means of is keyed type declared = absurd (cc)
  scalar_record_reached now (target.Message j s) kd can st to means of is keyed type declared = absurd (cc)
  scalar_record_reached now (target.Entry k2 k3) kd can st to means of is keyed type declared = absurd (cc)
  scalar_record_reached now target.Unknown kd can st to means of is keyed type declared = absurd (cc)

-- THE VALUE IS THERE: a number of the wire type that its record's target wants has one
pub number_is : (a b : ℕ) → (a == b) ≡ true → a ≡ b
number_is a b q = grind (arith, nat_tests)

pub single_type : (s : Shape) (k : Kind) (w : ℕ) → IsSingle s → fits_shape s k w ≡ true → w ≡ wire_type_of k
single_type shape.Implicit k w single e = number_is w (wire_type_of k) e
single_type shape.Explicit k w single e = number_is w (wire_type_of k) e
single_type (shape.OneofMember o) k w single e = number_is w (wire_type_of k) e
single_type (shape.List p) k w single e = absurd single
single_type (shape.Map key) k w single e = absurd single

listed_type : (o : Option FieldView) (k w : ℕ) (kd : Kind) → AtField o k w (target.Element kd) → w ≡ wire_type_of kd
listed_type None k w kd h = absurd (cc)
listed_type (Some f) k w kd (e, h) = by_shape f.shape h
  where
    by_shape : (t : Shape) → OfShape f.kind t k w (target.Element kd) → w ≡ wire_type_of kd
    by_shape (shape.Map key) h = absurd h
    by_shape (shape.List p) (a, none, same) = same ∙ sym (ap wire_type_of a)
    by_shape shape.Implicit h = absurd h
    by_shape shape.Explicit h = absurd h
    by_shape (shape.OneofMember o) h = absurd h

-- the wire type is that of the kind
pub meant_type : (pool : Types) (now : Part) (k w : ℕ) (meant : Target) (kd : Kind) → Means pool (part_context now) k w meant → scalar_kind meant ≡ Some kd → w ≡ wire_type_of kd
meant_type pool (message_part t v) k w (target.One k2 s) kd means of =
    let (f, found, e, is_kind, is_shape, single, none) = single_field (field_numbered k (message_fields pool t)) k w k2 s means in
    let same : k2 ≡ kd = cc in
    single_type s kd w single (sym (ap (λ (z : Shape). fits_shape z f.kind w) is_shape ∙ ap (λ (z : Kind). fits_shape s z w) (is_kind ∙ same)) ∙ e)
meant_type pool (message_part t v) k w (target.Element k2) kd means of = listed_type (field_numbered k (message_fields pool t)) k w k2 means ∙ (let same : k2 ≡ kd = cc in ap wire_type_of same)
meant_type pool (message_part t v) k w (target.Key k2) kd means of = absurd (no_key (field_numbered k (message_fields pool t)) k w k2 means)
meant_type pool (message_part t v) k w (target.EntryValue k2) kd means of = absurd (no_entry_value (field_numbered k (message_fields pool t)) k w k2 means)
meant_type pool (entry_part key k3 y d) k w (target.Key k2) kd (is, first, type) of = type ∙ (let same : k2 ≡ kd = cc in ap wire_type_of (sym is ∙ same))
meant_type pool (entry_part key k3 y d) k w (target.EntryValue k2) kd (is, second, type, none) of = type ∙ (let same : k2 ≡ kd = cc in ap wire_type_of (sym is ∙ same))
meant_type pool (entry_part key k3 y d) k w (target.One k2 s) kd means of = absurd means
meant_type pool (entry_part key k3 y d) k w (target.Element k2) kd means of = absurd means
meant_type pool (group_part us) k w (target.One k2 s) kd means of = absurd (cc)
meant_type pool (group_part us) k w (target.Element k2) kd means of = absurd (cc)
meant_type pool (group_part us) k w (target.Key k2) kd means of = absurd (cc)
meant_type pool (group_part us) k w (target.EntryValue k2) kd means of = absurd (cc)
meant_type pool now k w (target.Packed k2) kd means of = absurd (cc)
meant_type pool now k w (target.Message j s) kd means of = absurd (cc)
meant_type pool now k w (target.Entry k2 k3) kd means of = absurd (cc)
meant_type pool now k w target.Unknown kd means of = absurd (cc)

module _ {pool : Types} {m depth levels : ℕ} {base : List Record} {p0 u : Place} {parents : List Parent} {scope : Scope} {next : Step} {now : Part} (k : ℕ) (a : Number) (meant : Target) (kd : Kind) (begun : After pool m depth levels base p0 parents next now scope u)
    (is : awaited next ≡ Some (tag k (wire_type (number_view a)) meant)) (of : scalar_kind meant ≡ Some kd) where
  -- the number that comes next has a value
  pub value_there : (x : Scalar) × (read kd (number_view a) ≡ Some x)
  value_there = read_some kd a (meant_type pool now k (wire_type (number_view a)) meant kd (at_tag (tag k (wire_type (number_view a)) meant) begun is).means of)

  -- THE STEP: where the part holds what the number means, the reader is after it
  pub number_put : {w : Place} (x : Scalar) (put : Part) → IsPool pool → CanHold pool now → read kd (number_view a) ≡ Some x → is_undeclared pool (closed_enum kd) (number_view a) ≡ false → Follows u (number_view a) w → put ≡ put_datum pool k meant now (scalar x)
      → Reached pool m depth levels base p0 parents put (one_more_in k scope) w
  number_put {w} x put ok can value declared follows made =
      let after = at_tag (tag k (wire_type (number_view a)) meant) begun is in
      subst (λ (z : Part). Reached pool m depth levels base p0 parents z (one_more_in k scope) w) (sym made)
      (scalar_record_reached ok k (number_view a) x now meant kd can after.reached (number_record (context_of after.reached.open_now) scope.depth_left k a after.has follows) after.means of (number_elements kd a x value)
      (λ keyed. key_read kd a x keyed value) (meant_type pool now k (wire_type (number_view a)) meant kd after.means of) declared)
