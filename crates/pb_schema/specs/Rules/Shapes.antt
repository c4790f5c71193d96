-- The rules of one field by itself: its number, and what goes with its shape (language specification, proto3, "Fields", "Map Fields").
use Rattle.std.specs.Prelude.{◌≡◌, ℕ, ◌^◌, ◌<◌, ◌≤◌, ◌⊎◌, List, true, false, IsTrue}
use Rattle.pb_schema.specs.declared.types.Kind.{Kind}
use Rattle.pb_schema.specs.declared.types.Kind.TheVariants as kind
use Rattle.pb_schema.specs.declared.types.Shape.{Shape}
use Rattle.pb_schema.specs.declared.types.Shape.TheVariants as shape
use Rattle.pb_schema.specs.Types.{MessageView}
use Rattle.pb_schema.specs.Kinds.{is_key_kind, is_packable, is_of_proto2}
use Rattle.pb_schema.specs.Rules.Each.{EachField}

-- 1 to 536,870,911, and not 19,000 to 19,999, which are kept for implementations
abbrev pub IsFieldNumber : ℕ → Type 0
IsFieldNumber n = (1 ≤ n) × (n < 2 ^ 29) × ((n < 19000) ⊎ (19999 < n))

abbrev pub NumbersAreFieldNumbers : List MessageView → Type 0
NumbersAreFieldNumbers ms = EachField (λ t f. IsFieldNumber f.number) ms

abbrev pub HasKeyKind : Shape → Type 0
HasKeyKind (shape.Map key) = IsTrue (is_key_kind key)
HasKeyKind shape.Explicit = Unit {0}
HasKeyKind shape.Implicit = Unit {0}
HasKeyKind (shape.OneofMember _) = Unit {0}
HasKeyKind (shape.List _) = Unit {0}

abbrev pub KeysAreKeyKinds : List MessageView → Type 0
KeysAreKeyKinds ms = EachField (λ t f. HasKeyKind f.shape) ms

abbrev pub MayBePacked : Shape → Kind → Type 0
MayBePacked (shape.List true) k = IsTrue (is_packable k)
MayBePacked (shape.List false) k = Unit {0}
MayBePacked shape.Explicit k = Unit {0}
MayBePacked shape.Implicit k = Unit {0}
MayBePacked (shape.OneofMember _) k = Unit {0}
MayBePacked (shape.Map _) k = Unit {0}

abbrev pub PackedArePackable : List MessageView → Type 0
PackedArePackable ms = EachField (λ t f. MayBePacked f.shape f.kind) ms

-- no value of a map is a group, or of a closed enum
abbrev pub MayBeValue : Shape → Kind → Type 0
MayBeValue (shape.Map _) k = is_of_proto2 k ≡ false
MayBeValue (shape.List _) k = Unit {0}
MayBeValue shape.Explicit k = Unit {0}
MayBeValue shape.Implicit k = Unit {0}
MayBeValue (shape.OneofMember _) k = Unit {0}

abbrev pub ValuesMayStand : List MessageView → Type 0
ValuesMayStand ms = EachField (λ t f. MayBeValue f.shape f.kind) ms

-- a message's presence is always explicit
abbrev pub MayBeImplicit : Shape → Kind → Type 0
MayBeImplicit shape.Implicit (kind.Message m) = ⊥
MayBeImplicit shape.Implicit (kind.Group m) = ⊥
MayBeImplicit shape.Implicit kind.Double = Unit {0}
MayBeImplicit shape.Implicit kind.Float = Unit {0}
MayBeImplicit shape.Implicit kind.Int64 = Unit {0}
MayBeImplicit shape.Implicit kind.Uint64 = Unit {0}
MayBeImplicit shape.Implicit kind.Int32 = Unit {0}
MayBeImplicit shape.Implicit kind.Fixed64 = Unit {0}
MayBeImplicit shape.Implicit kind.Fixed32 = Unit {0}
MayBeImplicit shape.Implicit kind.Bool = Unit {0}
MayBeImplicit shape.Implicit kind.Text = Unit {0}
MayBeImplicit shape.Implicit kind.Bytes = Unit {0}
MayBeImplicit shape.Implicit kind.Uint32 = Unit {0}
MayBeImplicit shape.Implicit kind.Sfixed32 = Unit {0}
MayBeImplicit shape.Implicit kind.Sfixed64 = Unit {0}
MayBeImplicit shape.Implicit kind.Sint32 = Unit {0}
MayBeImplicit shape.Implicit kind.Sint64 = Unit {0}
MayBeImplicit shape.Implicit (kind.Enum _) = Unit {0}
MayBeImplicit shape.Implicit (kind.ClosedEnum _) = Unit {0}
MayBeImplicit shape.Explicit k = Unit {0}
MayBeImplicit (shape.OneofMember _) k = Unit {0}
MayBeImplicit (shape.List _) k = Unit {0}
MayBeImplicit (shape.Map _) k = Unit {0}

abbrev pub ImplicitAreScalars : List MessageView → Type 0
ImplicitAreScalars ms = EachField (λ t f. MayBeImplicit f.shape f.kind) ms

pub record ShapeRules (ms : List MessageView) : Type 0 where
  pub numbers : NumbersAreFieldNumbers ms
  pub keys : KeysAreKeyKinds ms
  pub packed : PackedArePackable ms
  pub implicit : ImplicitAreScalars ms
  pub values : ValuesMayStand ms
