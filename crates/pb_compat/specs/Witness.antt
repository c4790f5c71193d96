-- Messages that show that a difference breaks reading.
use Rattle.std.specs.Prelude.{◌≡◌, ◌≢◌, ◌<◌, ◌^◌, ◌==◌, ◌⊎◌, ℕ, length, List, [], Bool, true, false, not, ◌&&◌, ◌||◌, Option, Some, None, is_some, IsSomeAnd, find}
use Rattle.std.specs.List.{filter_map}
use Rattle.pb_wire.specs.Limits.{full}
use Rattle.pb_schema.specs.declared.types.Kind.{Kind}
use Rattle.pb_schema.specs.declared.types.Shape.{Shape}
use Rattle.pb_schema.specs.declared.types.Shape.TheVariants as shape
use Rattle.pb_schema.specs.Kinds.{closed_enum}
use Rattle.pb_schema.specs.Oneofs.{member_numbers}
use Rattle.pb_schema.specs.Rules.{NamesType, HasKeyKind}
use Rattle.pb_schema.specs.Scalar.{Scalar}
use Rattle.pb_schema.specs.Types.{FieldView, Types, message_fields, field_numbered}
use Rattle.pb_value.specs.Data.{Datum, scalar, Message, Holding, one, list, map, no_datums, datum, no_entries, entry, no_fields, field, put_field, body}
use Rattle.pb_value.specs.Judge.Forms.{is_default_datum, is_implicit}
use Rattle.pb_value.specs.Canon.{canon_bytes}
use Rattle.pb_value.specs.Derives.{Text}
use Rattle.pb_value.specs.WellFormed.{IsOfShape, IsWellFormed, key_of}
use Rattle.pb_compat.specs.Fields.{keeps_values, keeps_shape, is_map, is_list}
use Rattle.pb_compat.specs.Oneofs.{share_oneof}
use Rattle.pb_compat.specs.Agrees.{Agrees, HasNoUnknown}
use Rattle.pb_compat.specs.Samples.{IsValue, IsLostValue, IsUnlike, IsUnlikeEntry, IsUnlikeElement}

-- A well-formed message of the old type m without unknown records, whose canonical bytes, which the wire can hold, are an encoding of no message
-- of the new type n that agrees with it: they are refused, or read otherwise.
pub record IsWitness (old new : Types) (m n : ℕ) (v : Message) : Type 0 where
  pub well_formed : IsWellFormed old m v
  pub known : HasNoUnknown v
  pub size : length (canon_bytes old m v) < 2 ^ 31
  pub unread : (w : Message) → Text new n full (canon_bytes old m v) w → ¬ Agrees old new m n v w

-- ONE FIELD

-- a message of one field
abbrev pub alone : ℕ → Holding → Message
alone k h = body (field k h no_fields) []

-- a content of one value: it alone, as the one element of a list, or under one key
abbrev pub IsContentOf : Types → Shape → Datum → Holding → Type 0
IsContentOf old s d (one e) = e ≡ d
IsContentOf old s d (list ds) = ds ≡ datum d no_datums
IsContentOf old s d (map es) = (x : Scalar) × IsSomeAnd (key_of s) (λ key. IsValue old key (scalar x)) × (es ≡ entry x d no_entries)

-- the old field f of number k, and the new field g
pub record AreFieldsAt (old new : Types) (m n k : ℕ) (f g : FieldView) : Type 0 where
  pub old_field : field_numbered k (message_fields old m) ≡ Some f
  pub new_field : field_numbered k (message_fields new n) ≡ Some g

-- each value has a record of its own
abbrev pub is_one_by_one : Shape → Bool
is_one_by_one shape.Implicit = true
is_one_by_one shape.Explicit = true
is_one_by_one (shape.OneofMember o) = true
is_one_by_one (shape.List packed) = not packed
is_one_by_one (shape.Map key) = false

-- Where the shape is kept, and no packed list and no map, a message with one value there that is unlike what the new kind reads is a witness.
abbrev pub OneIsShown : Types → Types → Type 0
OneIsShown old new =
    (m n k : ℕ) (f g : FieldView) (d : Datum) (h : Holding) → AreFieldsAt old new m n k f g → is_one_by_one f.shape ≡ true → keeps_shape old new f.shape g.shape ≡ true
    → IsContentOf old f.shape d h → IsOfShape f.shape h → IsValue old f.kind d → IsUnlike old new f.kind g.kind d → IsWitness old new m n (alone k h)

-- Where the shape is not kept, each message with one value there is a witness; of maps that stay maps this is not said.
abbrev pub ShapeIsShown : Types → Types → Type 0
ShapeIsShown old new =
    (m n k : ℕ) (f g : FieldView) (d : Datum) (h : Holding) → AreFieldsAt old new m n k f g → keeps_shape old new f.shape g.shape ≡ false → (is_map f.shape && is_map g.shape) ≡ false
    → IsContentOf old f.shape d h → IsOfShape f.shape h → IsValue old f.kind d → IsWitness old new m n (alone k h)

-- Where two fields that are not of one oneof become members of one, a message that has both is a witness.
abbrev pub PairIsShown : Types → Types → Type 0
PairIsShown old new =
    (m n k j : ℕ) (f g p q : FieldView) (d e : Datum) (h i : Holding) → AreFieldsAt old new m n k f g → AreFieldsAt old new m n j p q → k ≢ j
    → share_oneof g.shape q.shape ≡ true → share_oneof f.shape p.shape ≡ false
    → IsContentOf old f.shape d h → IsOfShape f.shape h → IsValue old f.kind d → IsContentOf old p.shape e i → IsOfShape p.shape i → IsValue old p.kind e
    → IsWitness old new m n (body (put_field j i (field k h no_fields)) [])

-- Where a map stays a map, a message of one entry whose key or value is unlike what the new kinds read is a witness.
abbrev pub MapIsShown : Types → Types → Type 0
MapIsShown old new =
    (m n k : ℕ) (f g : FieldView) (key l : Kind) (x : Scalar) (d : Datum) → AreFieldsAt old new m n k f g → f.shape ≡ shape.Map key → g.shape ≡ shape.Map l
    → IsValue old key (scalar x) → IsValue old f.kind d → IsUnlikeEntry old new key l (scalar x) ⊎ IsUnlikeEntry old new f.kind g.kind d
    → IsWitness old new m n (alone k (map (entry x d no_entries)))

-- Where a packed list stays a list, a message of one element that is unlike what the new kind reads of the list is a witness.
abbrev pub PackedIsShown : Types → Types → Type 0
PackedIsShown old new =
    (m n k : ℕ) (f g : FieldView) (x : Scalar) → AreFieldsAt old new m n k f g → f.shape ≡ shape.List true → is_list g.shape ≡ true
    → IsValue old f.kind (scalar x) → IsUnlikeElement old new f.kind g.kind (scalar x)
    → IsWitness old new m n (alone k (list (datum (scalar x) no_datums)))

-- WHAT THE CALL BUILDS

-- what the rules of a pool say of a field that is to be set; an implicit field is of no closed enum
pub record IsSettable (pool : Types) (f : FieldView) : Type 0 where
  pub named : NamesType (length pool.messages) (length pool.enums) f.kind
  pub key : HasKeyKind f.shape
  pub unclosed : is_implicit f.shape ≡ true → closed_enum f.kind ≡ None

-- a value may be the content of a shape by itself: with implicit presence no default, and in a map where there is a key
abbrev pub may_fill : Shape → Bool → Datum → Bool
may_fill shape.Implicit keyed d = not (is_default_datum d)
may_fill shape.Explicit keyed d = true
may_fill (shape.OneofMember o) keyed d = true
may_fill (shape.List packed) keyed d = true
may_fill (shape.Map key) keyed d = keyed

-- a content of this value, and in a map of this key
abbrev pub IsMadeOf : Option Scalar → Datum → Holding → Type 0
IsMadeOf k d (one e) = e ≡ d
IsMadeOf k d (list ds) = ds ≡ datum d no_datums
IsMadeOf k d (map es) = (x : Scalar) × (k ≡ Some x) × (es ≡ entry x d no_entries)

-- a key where the shape is a map
abbrev pub IsKeyOf : Types → Shape → Option Scalar → Type 0
IsKeyOf old (shape.Map key) k = IsSomeAnd k (λ x. IsValue old key (scalar x))
IsKeyOf old shape.Implicit k = Unit {0}
IsKeyOf old shape.Explicit k = Unit {0}
IsKeyOf old (shape.OneofMember o) k = Unit {0}
IsKeyOf old (shape.List packed) k = Unit {0}

-- a content that a field can hold
pub record HoldsValue (old : Types) (f : FieldView) (h : Holding) : Type 0 where
  pub value : Datum
  pub made : IsContentOf old f.shape value h
  pub shaped : IsOfShape f.shape h
  pub valued : IsValue old f.kind value

-- whose value is unlike what the new kind reads
pub record HoldsLost (old new : Types) (f g : FieldView) (h : Holding) : Type 0 where
  pub value : Datum
  pub made : IsContentOf old f.shape value h
  pub shaped : IsOfShape f.shape h
  pub lost : IsLostValue old new f.kind g.kind value

-- a map of one entry, whose key is unlike what the new kind of keys reads
pub record HoldsLostKey (old new : Types) (f g : FieldView) (h : Holding) : Type 0 where
  pub key : Kind
  pub new_key : Kind
  pub of_map : f.shape ≡ shape.Map key
  pub to_map : g.shape ≡ shape.Map new_key
  pub under : Scalar
  pub value : Datum
  pub made : h ≡ map (entry under value no_entries)
  pub valued : IsValue old f.kind value
  pub lost : IsLostValue old new key new_key (scalar under)

-- the shape is not kept, or the keys of a map, or the values
pub data IsLost (old new : Types) (f g : FieldView) (h : Holding) : Type 0 where
  by_shape : keeps_shape old new f.shape g.shape ≡ false → (is_map f.shape && is_map g.shape) ≡ false → HoldsValue old f h → IsLost old new f g h
  by_key : HoldsLostKey old new f g h → IsLost old new f g h
  by_values : keeps_shape old new f.shape g.shape ≡ true → HoldsLost old new f g h → IsLost old new f g h

-- an old field of another number that a message may set beside this one
abbrev pub may_be_beside : FieldView → FieldView → Bool
may_be_beside f p = not (f.number == p.number) && not (share_oneof f.shape p.shape)

-- the fields of some numbers
abbrev pub fields_at : List FieldView → List ℕ → List FieldView
fields_at fs numbers = filter_map (λ n. field_numbered n fs) numbers

-- the first field that may be set beside an old one, of those that the new type has in one oneof with it
abbrev pub partner_of : List FieldView → List FieldView → FieldView → Shape → Option FieldView
partner_of fs gs f (shape.OneofMember o) = find (may_be_beside f) (fields_at fs (member_numbers o gs))
partner_of fs gs f shape.Implicit = None
partner_of fs gs f shape.Explicit = None
partner_of fs gs f (shape.List packed) = None
partner_of fs gs f (shape.Map key) = None

-- a message of two fields
pub record IsPairOf (old : Types) (f p : FieldView) (v : Message) : Type 0 where
  pub first : Holding
  pub second : Holding
  pub holds_first : HoldsValue old f first
  pub holds_second : HoldsValue old p second
  pub same : v ≡ body (put_field p.number second (field f.number first no_fields)) []

-- what is built for a field of both types: a message of it alone, or of it and a partner
pub data IsBuilt (old new : Types) (m n : ℕ) (f g : FieldView) (v : Message) : Type 0 where
  of_one : (h : Holding) → IsLost old new f g h → v ≡ alone f.number h → IsBuilt old new m n f g v
  of_two : (p : FieldView) → partner_of (message_fields old m) (message_fields new n) f g.shape ≡ Some p → IsPairOf old f p v → IsBuilt old new m n f g v

-- whether one is
abbrev pub has_witness : Types → Types → ℕ → ℕ → FieldView → FieldView → Bool
has_witness old new m n f g =
    not (keeps_values old new f g && keeps_shape old new f.shape g.shape) || is_some (partner_of (message_fields old m) (message_fields new n) f g.shape)
