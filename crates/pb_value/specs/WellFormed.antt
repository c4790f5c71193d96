-- Which messages are well formed by a pool: what a decoder of its types can give (encoding guide, "Optional and Repeated", "Oneofs", "Maps").
use Rattle.std.specs.Prelude.{◌≡◌, ◌≢◌, ◌≤◌, ◌+◌, ℕ, Bool, true, false, ◌&&◌, List, Option, Some, None, IfSome, IsSomeAnd, option_and_then}
use Rattle.std.specs.List.{AllByRecursion}
use Rattle.std.specs.declared.cmp.Ordering.TheVariants.{Less}
use Rattle.pb_wire.specs.Record.{Record}
use Rattle.pb_wire.specs.Ranges.{IsNumber, IsInRange}
use Rattle.pb_wire.specs.Inside.{IsNumbered}
use Rattle.pb_schema.specs.declared.types.Kind.{Kind}
use Rattle.pb_schema.specs.declared.types.Shape.{Shape}
use Rattle.pb_schema.specs.declared.types.Shape.TheVariants as shape
use Rattle.pb_schema.specs.Types.{FieldView, Types, message_fields, field_numbered}
use Rattle.pb_schema.specs.Scalar.{Scalar, key_cmp}
use Rattle.pb_schema.specs.Kinds.{message_of_kind, IsOfKind}
use Rattle.pb_schema.specs.Closed.{is_declared, counts}
use Rattle.pb_value.specs.Judge.Forms.{is_default_datum}
use Rattle.pb_value.specs.Data.{Datum, scalar, message, Datums, no_datums, datum, Entries, no_entries, entry, Holding}
use Rattle.pb_value.specs.Data.{one, list, map, Fields, no_fields, field, Message, body, message_depth}

-- An unknown record of a type with these fields: its numbers and payloads can be written, and it counts for no field. A packed list of a closed
-- enum fits its field, and so does a number that the enum declares; another number may be kept.
abbrev pub IsUnknown : Types → List FieldView → Record → Type 0
IsUnknown pool fs r = IsNumber r.number × IsInRange r.payload × IsNumbered r.payload × (counts pool fs r ≡ false)

abbrev pub AreUnknown : Types → List FieldView → List Record → Type 0
AreUnknown pool fs rs = AllByRecursion (IsUnknown pool fs) rs

-- fields are in order of rising number, from n on
abbrev pub RisesFrom : ℕ → Fields → Type 0
RisesFrom n no_fields = Unit {0}
RisesFrom n (field k h fs) = (n ≤ k) × RisesFrom (k + 1) fs

-- a key is below the first of some entries
abbrev pub IsBelow : Scalar → Entries → Type 0
IsBelow x no_entries = Unit {0}
IsBelow x (entry y d es) = key_cmp x y ≡ Less

-- the keys of a map rise
abbrev pub KeysRise : Entries → Type 0
KeysRise no_entries = Unit {0}
KeysRise (entry x d es) = IsBelow x es × KeysRise es

-- a content is of the shape, and no implicit default and no empty list or map
abbrev pub IsOfShape : Shape → Holding → Type 0
IsOfShape shape.Implicit (one d) = is_default_datum d ≡ false
IsOfShape shape.Explicit (one d) = Unit {0}
IsOfShape (shape.OneofMember _) (one d) = Unit {0}
IsOfShape (shape.List _) (list (datum d ds)) = Unit {0}
IsOfShape (shape.Map _) (map (entry k d es)) = Unit {0}
IsOfShape shape.Implicit (list ds) = ⊥
IsOfShape shape.Implicit (map es) = ⊥
IsOfShape shape.Explicit (list ds) = ⊥
IsOfShape shape.Explicit (map es) = ⊥
IsOfShape (shape.OneofMember _) (list ds) = ⊥
IsOfShape (shape.OneofMember _) (map es) = ⊥
IsOfShape (shape.List _) (one d) = ⊥
IsOfShape (shape.List _) (list no_datums) = ⊥
IsOfShape (shape.List _) (map es) = ⊥
IsOfShape (shape.Map _) (one d) = ⊥
IsOfShape (shape.Map _) (list ds) = ⊥
IsOfShape (shape.Map _) (map no_entries) = ⊥

abbrev pub oneof_of : Shape → Option ℕ
oneof_of (shape.OneofMember o) = Some o
oneof_of shape.Implicit = None
oneof_of shape.Explicit = None
oneof_of (shape.List _) = None
oneof_of (shape.Map _) = None

-- the oneof that the field of a number belongs to
abbrev pub oneof_at : List FieldView → ℕ → Option ℕ
oneof_at all n = option_and_then (λ f. oneof_of f.shape) (field_numbered n all)

-- no member of the oneof is set
abbrev pub HasNoMember : List FieldView → ℕ → Fields → Type 0
HasNoMember all o no_fields = Unit {0}
HasNoMember all o (field n h fs) = (oneof_at all n ≢ Some o) × HasNoMember all o fs

-- of each oneof at most one member is set
abbrev pub HasOneMemberEach : List FieldView → Fields → Type 0
HasOneMemberEach all no_fields = Unit {0}
HasOneMemberEach all (field n h fs) = IfSome (oneof_at all n) (λ o. HasNoMember all o fs) × HasOneMemberEach all fs

-- of a closed enum each value has a number that the enum declares; the values of a map are of none
module _ (pool : Types) where
  abbrev pub datum_declared : Kind → Datum → Bool
  datum_declared k (scalar x) = is_declared pool k x
  datum_declared k (message b) = true

  abbrev pub datums_declared : Kind → Datums → Bool
  datums_declared k no_datums = true
  datums_declared k (datum d ds) = datum_declared k d && datums_declared k ds

  abbrev pub holds_declared : Kind → Holding → Bool
  holds_declared k (one d) = datum_declared k d
  holds_declared k (list ds) = datums_declared k ds
  holds_declared k (map es) = true

-- the kind of a map's keys
abbrev pub key_of : Shape → Option Kind
key_of (shape.Map key) = Some key
key_of shape.Implicit = None
key_of shape.Explicit = None
key_of (shape.OneofMember _) = None
key_of (shape.List _) = None

module _ (pool : Types) where
  abbrev mutual
    -- a value of a kind
    pub IsDatum : Kind → Datum → Type 0
    IsDatum k (scalar x) = IsOfKind k x
    IsDatum k (message b) = IsSomeAnd (message_of_kind k) (λ m. IsBody m b)

    pub AreDatums : Kind → Datums → Type 0
    AreDatums k no_datums = Unit {0}
    AreDatums k (datum d ds) = IsDatum k d × AreDatums k ds

    -- with keys of the first kind and values of the second
    pub AreEntries : Kind → Kind → Entries → Type 0
    AreEntries key k no_entries = Unit {0}
    AreEntries key k (entry x d es) = IsOfKind key x × IsDatum k d × AreEntries key k es

    -- what a field may hold
    pub IsHeld : Shape → Kind → Holding → Type 0
    IsHeld s k (one d) = IsDatum k d
    IsHeld s k (list ds) = AreDatums k ds
    IsHeld s k (map es) = IsSomeAnd (key_of s) (λ key. AreEntries key k es × KeysRise es)

    pub AreFields : List FieldView → Fields → Type 0
    AreFields all no_fields = Unit {0}
    AreFields all (field n h fs) =
        IsSomeAnd (field_numbered n all) (λ f. IsOfShape f.shape h × IsHeld f.shape f.kind h × (holds_declared pool f.kind h ≡ true)) × AreFields all fs

    -- the parts of a message of a type are well formed
    pub IsBody : ℕ → Message → Type 0
    IsBody m (body fs us) =
        AreFields (message_fields pool m) fs × RisesFrom 0 fs × HasOneMemberEach (message_fields pool m) fs × AreUnknown pool (message_fields pool m) us

  -- the field of number n can hold the content
  abbrev pub CanStand : List FieldView → ℕ → Holding → Type 0
  CanStand all n h = IsSomeAnd (field_numbered n all) (λ f. IsOfShape f.shape h × IsHeld f.shape f.kind h × (holds_declared pool f.kind h ≡ true))

  -- a well-formed message of a type: its parts are, and it nests at most 100 levels below itself
  pub record IsWellFormed (m : ℕ) (v : Message) : Type 0 where
    pub parts : IsBody m v
    pub depth : message_depth v ≤ 100
