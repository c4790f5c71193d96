-- Messages that are read back, and what they are then.
use Rattle.std.specs.Prelude.{◌≡◌, ◌⊎◌, ◌<◌, ◌^◌, ℕ, zero, suc, pos, List, [], length, true, false, Some, None, IfSome, IsSomeAnd, map as map_of, slice_get}
use Rattle.std.specs.Borrow.{Bor}
use Rattle.std.specs.List.{AllByRecursion}
use Rattle.std.specs.Str.{IsUtf8}
use Rattle.pb_schema.specs.declared.types.Kind.{Kind}
use Rattle.pb_schema.specs.Types.{FieldView, Types, message_fields, field_numbered}
use Rattle.pb_schema.specs.Kinds.{message_of_kind}
use Rattle.pb_schema.specs.Names.{AllDiffer}
use Rattle.pb_schema.specs.Scalar.{enum}
use Rattle.pb_value.specs.Canon.{canon_bytes}
use Rattle.pb_value.specs.Data.{Datum, scalar, message, Datums, no_datums, datum, Entries, no_entries, entry}
use Rattle.pb_value.specs.Data.{Holding, one, list, map, Fields, no_fields, field, Message, body}
use Rattle.pb_value.specs.WellFormed.{IsWellFormed}
use Rattle.pb_json.specs.declared.form.Names.{Names}
use Rattle.pb_json.specs.declared.form.Names.TheVariants.{LowerCamel, Declared, Given}
use Rattle.pb_json.specs.declared.well_known.WellKnown.{WellKnown}
use Rattle.pb_json.specs.declared.well_known.WellKnown.TheVariants.{Any}
use Rattle.pb_json.specs.Anys.{type_meant}
use Rattle.pb_json.specs.Held.{bytes_at, string_at}
use Rattle.pb_json.specs.Given.{NamesGiven, name_given}
use Rattle.pb_json.specs.JsonNames.{json_name, lower_camel, member_name}
use Rattle.pb_json.specs.Refusals.{own_cause}
use Rattle.pb_json.specs.WellKnown.{is_null_enum, well_known}
use Rattle.pb_json_read.specs.Anys.{is_tag}
use Rattle.pb_json_read.specs.Names.{field_meant}
use Rattle.pb_json_round_trip.specs.Scalars.{with_one_nan}
use Rattle.pb_json_round_trip.specs.WellKnown.{IsAsDeclared}

-- each float by the bits of its value, so that each NaN is the one that is read
abbrev mutual
  pub datum_with_one_nan : Datum → Datum
  datum_with_one_nan (scalar x) = scalar (with_one_nan x)
  datum_with_one_nan (message b) = message (message_with_one_nan b)

  pub datums_with_one_nan : Datums → Datums
  datums_with_one_nan no_datums = no_datums
  datums_with_one_nan (datum d ds) = datum (datum_with_one_nan d) (datums_with_one_nan ds)

  pub entries_with_one_nan : Entries → Entries
  entries_with_one_nan no_entries = no_entries
  entries_with_one_nan (entry x d es) = entry x (datum_with_one_nan d) (entries_with_one_nan es)

  pub holding_with_one_nan : Holding → Holding
  holding_with_one_nan (one d) = one (datum_with_one_nan d)
  holding_with_one_nan (list ds) = list (datums_with_one_nan ds)
  holding_with_one_nan (map es) = map (entries_with_one_nan es)

  pub fields_with_one_nan : Fields → Fields
  fields_with_one_nan no_fields = no_fields
  fields_with_one_nan (field n h fs) = field n (holding_with_one_nan h) (fields_with_one_nan fs)

  pub message_with_one_nan : Message → Message
  message_with_one_nan (body fs us) = body (fields_with_one_nan fs) us

-- the name that is written of a field is read as that field, in each type, where fields are given these names
abbrev pub NamesAreRead : Names → NamesGiven → Types → Type 0
NamesAreRead names given pool =
    (m : ℕ) → AllByRecursion (λ f. field_meant given pool m (member_name names m f) ≡ Some f) (message_fields pool m)

-- each name that is given is a string, and not that of the member for the type of an Any
abbrev pub AreMemberNames : Names → Type 0
AreMemberNames LowerCamel = Unit {0}
AreMemberNames Declared = Unit {0}
AreMemberNames (Given names) = (m n : ℕ) → IfSome (name_given names.now m n) (λ s. IsUtf8 s × (is_tag s ≡ false))

-- no two fields of a message have one name in lowerCamelCase
abbrev pub CamelNamesDiffer : Types → Type 0
CamelNamesDiffer pool = AllByRecursion (λ t. AllDiffer (map_of (λ f. lower_camel f.name) t.fields)) pool.messages

-- no two fields of a message have one name in JSON
abbrev pub JsonNamesDiffer : NamesGiven → Types → Type 0
JsonNamesDiffer given pool = (m : ℕ) → AllDiffer (map_of (λ f. json_name given m f) (message_fields pool m))

-- no field is declared by the name that another field of the message has in JSON
abbrev pub DeclaredApart : NamesGiven → Types → Type 0
DeclaredApart given pool =
    (m i j : ℕ) (f g : FieldView) → slice_get (message_fields pool m) i ≡ Some f → slice_get (message_fields pool m) j ≡ Some g
    → g.name ≡ json_name given m f → g ≡ f

-- no field is given the name by which another field of the message is declared
abbrev pub GivenApart : NamesGiven → Types → Type 0
GivenApart given pool =
    (m i j : ℕ) (f g : FieldView) → slice_get (message_fields pool m) i ≡ Some f → slice_get (message_fields pool m) j ≡ Some g
    → name_given given m g.number ≡ Some f.name → g ≡ f

-- names that are given are read, where they distinguish fields
abbrev pub GivenNamesAreRead : Types → Type 0
GivenNamesAreRead pool =
    (names : Bor NamesGiven) → JsonNamesDiffer names.now pool → DeclaredApart names.now pool → NamesAreRead (Given names) names.now pool

-- what an Any holds that is a message
pub record HoldsMessage (pool : Types) (Inner : ℕ → Message → Type 0) (fs : Fields) : Type 0 where
  pub message_type : ℕ
  pub held : Message
  pub named : type_meant pool (string_at 1 fs) ≡ Some message_type
  pub well_formed : IsWellFormed pool message_type held
  pub canonical : bytes_at 2 fs ≡ canon_bytes pool message_type held
  pub small : length (bytes_at 2 fs) < 2 ^ 31
  -- each NaN is the one that is read
  pub one_nan : message_with_one_nan held ≡ held
  pub covered : Inner message_type held

-- By which messages one level further in are covered: a message has no unknown records, and a value of `google.protobuf.NullValue` is 0, since
-- each other is written as null too. Where its type has a form of its own, the type is as Google's file declares it, and the message has this form.
-- An Any holds nothing, or the canonical encoding of a message that is covered.
module _ (pool : Types) (Inner : ℕ → Message → Type 0) where
  abbrev pub IsCoveredDatum : Kind → Datum → Type 0
  IsCoveredDatum k (scalar x) = is_null_enum pool k ≡ true → x ≡ enum (pos 0)
  IsCoveredDatum k (message b) = IsSomeAnd (message_of_kind k) (λ m. Inner m b)

  abbrev pub AreCoveredDatums : Kind → Datums → Type 0
  AreCoveredDatums k no_datums = Unit {0}
  AreCoveredDatums k (datum d ds) = IsCoveredDatum k d × AreCoveredDatums k ds

  abbrev pub AreCoveredEntries : Kind → Entries → Type 0
  AreCoveredEntries k no_entries = Unit {0}
  AreCoveredEntries k (entry x d es) = IsCoveredDatum k d × AreCoveredEntries k es

  abbrev pub IsCoveredHolding : Kind → Holding → Type 0
  IsCoveredHolding k (one d) = IsCoveredDatum k d
  IsCoveredHolding k (list ds) = AreCoveredDatums k ds
  IsCoveredHolding k (map es) = AreCoveredEntries k es

  abbrev pub AreCoveredFields : List FieldView → Fields → Type 0
  AreCoveredFields all no_fields = Unit {0}
  AreCoveredFields all (field n h fs) = IsSomeAnd (field_numbered n all) (λ f. IsCoveredHolding f.kind h) × AreCoveredFields all fs

  abbrev pub HoldsCovered : WellKnown → Fields → Type 0
  HoldsCovered Any fs = (fs ≡ no_fields) ⊎ HoldsMessage pool Inner fs
  HoldsCovered w fs = Unit {0}

  abbrev pub IsCoveredHere : ℕ → Message → Type 0
  IsCoveredHere m (body fs us) =
      IsAsDeclared pool (well_known pool m) (message_fields pool m) × (own_cause (well_known pool m) fs ≡ None) × HoldsCovered (well_known pool m) fs
      × (us ≡ []) × AreCoveredFields (message_fields pool m) fs

-- of at most this many levels
unfoldable pub IsCoveredWithin : Types → ℕ → ℕ → Message → Type 0
IsCoveredWithin pool zero m b = ⊥
IsCoveredWithin pool (suc levels) m b = IsCoveredHere pool (IsCoveredWithin pool levels) m b

-- the levels are 0 to 100; the message in an Any is one level further in
abbrev pub IsCovered : Types → ℕ → Message → Type 0
IsCovered pool m b = IsCoveredWithin pool 101 m b
