-- A well-formed message with one NaN is well formed too.
use Rattle.std.proofs.Common.{◌≡◌, ℕ, suc, ◌+◌, ◌*◌, ◌^◌, ◌<◌, Bool, true, ◌&&◌, List, Option, Some, None, IsSomeAnd, IfSome, inl, inr, refl, sym, ap, ap₂, ◌∙◌, subst, arith, to_bits}
use Rattle.std.specs.Prelude.{from_bits, max}
use Rattle.std.specs.Float.{Format, binary32, binary64, nan}
use Rattle.pb_schema.specs.declared.types.Kind.{Kind}
use Rattle.pb_schema.specs.declared.types.Kind.TheVariants as kind
use Rattle.pb_schema.specs.declared.types.Shape.{Shape}
use Rattle.pb_schema.specs.declared.types.Shape.TheVariants as shape
use Rattle.pb_schema.specs.Closed.{declares_in}
use Rattle.pb_schema.specs.Kinds.{IsOfKind, closed_enum, message_of_kind}
use Rattle.pb_schema.specs.Scalar.{Scalar, int32, int64, uint32, uint64, boolean, float, double, enum, text, bytes}
use Rattle.pb_schema.specs.Types.{FieldView, Types, field_numbered, message_fields}
use Rattle.pb_value.specs.Data.{Datum, scalar, message, Datums, no_datums, datum, Entries, no_entries, entry, datums_depth, entries_depth, fields_depth, holding_depth, levels_in_entry, levels_of, message_depth}
use Rattle.pb_value.specs.Data.{Holding, one, list, map, Fields, no_fields, field, Message, body}
use Rattle.pb_value.specs.WellFormed.{AreDatums, AreEntries, AreFields, HasNoMember, HasOneMemberEach, IsBelow, IsBody, IsDatum, IsHeld, IsOfShape, IsWellFormed, KeysRise, RisesFrom, datum_declared, datums_declared, holds_declared, key_of, oneof_at}
use Rattle.pb_json_round_trip.specs.Messages.{datum_with_one_nan, datums_with_one_nan, entries_with_one_nan, fields_with_one_nan, holding_with_one_nan, message_with_one_nan}
use Rattle.pb_json_round_trip.specs.Scalars.{with_one_nan}
use Rattle.pb_json_round_trip.proofs.NanLaws.{bits_back, still_default}

nans_small : (to_bits binary32 nan < 2 ^ 32) × (to_bits binary64 nan < 2 ^ 64)
unfolding lib.Ieee.to_bits
nans_small = (omega arith, omega arith)

bits_small : (f : Format) (n most : ℕ) → n < 2 * lib.Ieee.top f → n < most → to_bits f nan < most → to_bits f (from_bits f n) < most
bits_small f n most fits small nan_small =
    elim (bits_back f n fits) [
      | inl e ↦ subst (λ (k : ℕ). k < most) (sym e) small
      | inr e ↦ subst (λ (k : ℕ). k < most) (sym e) nan_small
    ]

kind_stays : (k : Kind) (x : Scalar) → IsOfKind k x → IsOfKind k (with_one_nan x)
kind_stays kind.Float (float n) is = bits_small binary32 n (2 ^ 32) is is nans_small.0
kind_stays kind.Double (double n) is = bits_small binary64 n (2 ^ 64) is is nans_small.1
kind_stays k (float n) is = absurd is
kind_stays k (double n) is = absurd is
kind_stays k (int32 z) is = is
kind_stays k (int64 z) is = is
kind_stays k (uint32 n) is = is
kind_stays k (uint64 n) is = is
kind_stays k (boolean b) is = is
kind_stays k (enum z) is = is
kind_stays k (text s) is = is
kind_stays k (bytes s) is = is

declared_stays : (pool : Types) (o : Option ℕ) (x : Scalar) → declares_in pool o (with_one_nan x) ≡ declares_in pool o x
declared_stays pool None x = refl
declared_stays pool (Some e) (float n) = refl
declared_stays pool (Some e) (double n) = refl
declared_stays pool (Some e) (int32 z) = refl
declared_stays pool (Some e) (int64 z) = refl
declared_stays pool (Some e) (uint32 n) = refl
declared_stays pool (Some e) (uint64 n) = refl
declared_stays pool (Some e) (boolean b) = refl
declared_stays pool (Some e) (enum z) = refl
declared_stays pool (Some e) (text s) = refl
declared_stays pool (Some e) (bytes s) = refl

some_as : {A : Type 0} (o : Option A) (P Q : A → Type 0) → ((a : A) → P a → Q a) → IsSomeAnd o P → IsSomeAnd o Q
some_as None P Q f h = h
some_as (Some a) P Q f h = f a h

if_as : {A : Type 0} (o : Option A) (P Q : A → Type 0) → ((a : A) → P a → Q a) → IfSome o P → IfSome o Q
if_as None P Q f h = tt
if_as (Some a) P Q f h = f a h

below_stays : (x : Scalar) (es : Entries) → IsBelow x es → IsBelow x (entries_with_one_nan es)
below_stays x no_entries h = tt
below_stays x (entry y d es) h = h

keys_stay : (es : Entries) → KeysRise es → KeysRise (entries_with_one_nan es)
keys_stay no_entries h = tt
keys_stay (entry x d es) h = (below_stays x es h.0, keys_stay es h.1)

rises_stays : (n : ℕ) (fs : Fields) → RisesFrom n fs → RisesFrom n (fields_with_one_nan fs)
rises_stays n no_fields h = tt
rises_stays n (field k g fs) h = (h.0, rises_stays (k + 1) fs h.1)

no_member_stays : (all : List FieldView) (o : ℕ) (fs : Fields) → HasNoMember all o fs → HasNoMember all o (fields_with_one_nan fs)
no_member_stays all o no_fields h = tt
no_member_stays all o (field n g fs) h = (h.0, no_member_stays all o fs h.1)

one_member_stays : (all : List FieldView) (fs : Fields) → HasOneMemberEach all fs → HasOneMemberEach all (fields_with_one_nan fs)
one_member_stays all no_fields h = tt
one_member_stays all (field n g fs) h = (
  if_as (oneof_at all n) (λ o. HasNoMember all o fs) (λ o. HasNoMember all o (fields_with_one_nan fs)) (λ o. no_member_stays all o fs) h.0,
  one_member_stays all fs h.1,
)

mutual
  levels_stay : (d : Datum) → levels_of (datum_with_one_nan d) ≡ levels_of d
  levels_stay (scalar x) = refl
  levels_stay (message b) = ap suc (depth_stays b)

  entry_levels_stay : (d : Datum) → levels_in_entry (datum_with_one_nan d) ≡ levels_in_entry d
  entry_levels_stay (scalar x) = refl
  entry_levels_stay (message b) = depth_stays b

  datums_depth_stays : (ds : Datums) → datums_depth (datums_with_one_nan ds) ≡ datums_depth ds
  datums_depth_stays no_datums = refl
  datums_depth_stays (datum d ds) = ap₂ (λ (a b : ℕ). max a b) (levels_stay d) (datums_depth_stays ds)

  entries_depth_stays : (es : Entries) → entries_depth (entries_with_one_nan es) ≡ entries_depth es
  entries_depth_stays no_entries = refl
  entries_depth_stays (entry x d es) = ap₂ (λ (a b : ℕ). max (suc a) b) (entry_levels_stay d) (entries_depth_stays es)

  holding_depth_stays : (h : Holding) → holding_depth (holding_with_one_nan h) ≡ holding_depth h
  holding_depth_stays (one d) = levels_stay d
  holding_depth_stays (list ds) = datums_depth_stays ds
  holding_depth_stays (map es) = entries_depth_stays es

  fields_depth_stays : (fs : Fields) → fields_depth (fields_with_one_nan fs) ≡ fields_depth fs
  fields_depth_stays no_fields = refl
  fields_depth_stays (field n h fs) = ap₂ (λ (a b : ℕ). max a b) (holding_depth_stays h) (fields_depth_stays fs)

  depth_stays : (b : Message) → message_depth (message_with_one_nan b) ≡ message_depth b
  depth_stays (body fs us) = ap (λ (a : ℕ). max a (Rattle.pb_wire.specs.Record.records_depth us)) (fields_depth_stays fs)

module _ (pool : Types) where
  datum_declared_stays : (k : Kind) (d : Datum) → datum_declared pool k d ≡ true → datum_declared pool k (datum_with_one_nan d) ≡ true
  datum_declared_stays k (scalar x) h = declared_stays pool (closed_enum k) x ∙ h
  datum_declared_stays k (message b) h = refl

  datums_declared_stay : (k : Kind) (ds : Datums) → datums_declared pool k ds ≡ true → datums_declared pool k (datums_with_one_nan ds) ≡ true
  datums_declared_stay k no_datums h = refl
  datums_declared_stay k (datum d ds) h =
      let p = Rattle.std.proofs.lemmas.Bool.and_parts (datum_declared pool k d) (datums_declared pool k ds) h in
      ap₂ (λ (a b : Bool). a && b) (datum_declared_stays k d p.0) (datums_declared_stay k ds p.1)

  holds_declared_stays : (k : Kind) (h : Holding) → holds_declared pool k h ≡ true → holds_declared pool k (holding_with_one_nan h) ≡ true
  holds_declared_stays k (one d) h = datum_declared_stays k d h
  holds_declared_stays k (list ds) h = datums_declared_stay k ds h
  holds_declared_stays k (map es) h = refl

  shape_stays : (s : Shape) (k : Kind) (h : Holding) → IsOfShape s h → IsHeld pool s k h → IsOfShape s (holding_with_one_nan h)
  shape_stays shape.Implicit k (one d) is held = still_default pool k d is held
  shape_stays shape.Explicit k (one d) is held = tt
  shape_stays (shape.OneofMember o) k (one d) is held = tt
  shape_stays (shape.List p) k (list (datum d ds)) is held = tt
  shape_stays (shape.Map key) k (map (entry x d es)) is held = tt
  shape_stays s k h is held = absurd is

  mutual
    datum_well : (k : Kind) (d : Datum) → IsDatum pool k d → IsDatum pool k (datum_with_one_nan d)
    datum_well k (scalar x) is = kind_stays k x is
    datum_well k (message b) is =
        some_as (message_of_kind k) (λ m. IsBody pool m b) (λ m. IsBody pool m (message_with_one_nan b)) (λ m. message_well m b) is

    datums_well : (k : Kind) (ds : Datums) → AreDatums pool k ds → AreDatums pool k (datums_with_one_nan ds)
    datums_well k no_datums are = tt
    datums_well k (datum d ds) are = (datum_well k d are.0, datums_well k ds are.1)

    entries_well : (key k : Kind) (es : Entries) → AreEntries pool key k es → AreEntries pool key k (entries_with_one_nan es)
    entries_well key k no_entries are = tt
    entries_well key k (entry x d es) are = (are.0, datum_well k d are.1, entries_well key k es are.2)

    holding_well : (s : Shape) (k : Kind) (h : Holding) → IsHeld pool s k h → IsHeld pool s k (holding_with_one_nan h)
    holding_well s k (one d) is = datum_well k d is
    holding_well s k (list ds) is = datums_well k ds is
    holding_well s k (map es) is =
        some_as (key_of s) (λ key. AreEntries pool key k es × KeysRise es) (λ key. AreEntries pool key k (entries_with_one_nan es) × KeysRise (entries_with_one_nan es))
        (λ key h. (entries_well key k es h.0, keys_stay es h.1)) is

    fields_well : (all : List FieldView) (fs : Fields) → AreFields pool all fs → AreFields pool all (fields_with_one_nan fs)
    fields_well all no_fields are = tt
    fields_well all (field n h fs) are = (
      some_as (field_numbered n all) (λ f. IsOfShape f.shape h × IsHeld pool f.shape f.kind h × (holds_declared pool f.kind h ≡ true))
          (λ f. IsOfShape f.shape (holding_with_one_nan h) × IsHeld pool f.shape f.kind (holding_with_one_nan h) × (holds_declared pool f.kind (holding_with_one_nan h) ≡ true))
          (λ f a. (shape_stays f.shape f.kind h a.0 a.1, holding_well f.shape f.kind h a.1, holds_declared_stays f.kind h a.2)) are.0,
      fields_well all fs are.1,
    )

    message_well : (m : ℕ) (b : Message) → IsBody pool m b → IsBody pool m (message_with_one_nan b)
    message_well m (body fs us) is =
        (fields_well (message_fields pool m) fs is.0, rises_stays 0 fs is.1, one_member_stays (message_fields pool m) fs is.2, is.3)

  pub well_formed : (m : ℕ) (b : Message) → IsWellFormed pool m b → IsWellFormed pool m (message_with_one_nan b)
  well_formed m b well = record { parts = message_well m b well.parts; depth = omega (arith, depth_stays b, well.depth) }
