-- Why a message is not well formed: the first cause, by rising field number and then by unknown record. At one field the least cause is
-- reported, a number that a closed enum doesn't declare last of these, then the causes inside its messages; a second member of a oneof is
-- reported at that member, and the depth last of all.
use Rattle.std.specs.Prelude.{ℕ, List, Bool, false, not, ◌||◌, ◌==◌, nat_le, Option, Some, None}
use Rattle.pb_schema.specs.declared.types.Kind.{Kind}
use Rattle.pb_schema.specs.declared.types.Shape.{Shape}
use Rattle.pb_schema.specs.declared.types.Shape.TheVariants as shape
use Rattle.pb_schema.specs.Types.{FieldView, Types, message_fields, field_numbered}
use Rattle.pb_schema.specs.Kinds.{message_of_kind}
use Rattle.pb_value.specs.Data.{Datum, scalar, message, Datums, no_datums, datum, Entries, no_entries, entry, Holding}
use Rattle.pb_value.specs.Data.{one, list, map, Fields, no_fields, field, Message, body, message_depth}
use Rattle.pb_value.specs.Judge.Forms.{is_scalar_of, holds_kind, has_shape, is_absence}
use Rattle.pb_value.specs.Judge.Told.{or_else, unless}
use Rattle.pb_value.specs.Judge.Unknown.{unknown_cause}
use Rattle.pb_value.specs.WellFormed.{key_of, holds_declared}
use Rattle.pb_value.specs.declared.error.ValueError.{ValueError}
use Rattle.pb_value.specs.declared.error.ValueError.TheVariants.{NoSuchField, WrongKind, WrongShape, DefaultStored, TwoMembers, TooDeep, NoSuchValue}

-- a content that a field cannot hold, whatever its messages hold
abbrev pub content_cause : Shape → Kind → Holding → Option ValueError
content_cause s k h = or_else (unless (holds_kind s k h) WrongKind) (unless (has_shape s h) WrongShape)

-- the oneofs that have a member so far, and this field's too
abbrev pub with_member : Shape → (ℕ → Bool) → ℕ → Bool
with_member (shape.OneofMember p) seen o = (o == p) || seen o
with_member shape.Implicit seen o = seen o
with_member shape.Explicit seen o = seen o
with_member (shape.List _) seen o = seen o
with_member (shape.Map _) seen o = seen o

-- the field is a member of a oneof that has one
abbrev pub is_second : Shape → (ℕ → Bool) → Bool
is_second (shape.OneofMember p) seen = seen p
is_second shape.Implicit seen = false
is_second shape.Explicit seen = false
is_second (shape.List _) seen = false
is_second (shape.Map _) seen = false

-- the same of a content that is stored
abbrev pub stored_cause : (ℕ → Bool) → Shape → Kind → Holding → Option ValueError
stored_cause seen s k h =
    or_else (content_cause s k h) (or_else (unless (not (is_absence s h)) DefaultStored) (unless (not (is_second s seen)) TwoMembers))

abbrev pub shape_at : Option FieldView → Shape
shape_at None = shape.Explicit
shape_at (Some f) = f.shape

-- at the field of a number, if there is one
abbrev pub at_field : Option FieldView → (FieldView → Option ValueError) → Option ValueError
at_field None cause = Some NoSuchField
at_field (Some f) cause = cause f

-- inside a message of a kind
abbrev pub in_message : Option ℕ → (ℕ → Option ValueError) → Option ValueError
in_message None cause = Some WrongKind
in_message (Some m) cause = cause m

-- in a map with keys of a kind
abbrev pub in_map : Option Kind → (Kind → Option ValueError) → Option ValueError
in_map None cause = Some WrongShape
in_map (Some key) cause = cause key

-- a value has a number that its closed enum doesn't declare
abbrev pub declared_cause : Types → Kind → Holding → Option ValueError
declared_cause pool k h = unless (holds_declared pool k h) NoSuchValue

module _ (pool : Types) where
  abbrev mutual
    pub datum_cause : Kind → Datum → Option ValueError
    datum_cause k (scalar x) = unless (is_scalar_of k x) WrongKind
    datum_cause k (message b) = in_message (message_of_kind k) (λ m. body_cause m b)

    pub datums_cause : Kind → Datums → Option ValueError
    datums_cause k no_datums = None
    datums_cause k (datum d ds) = or_else (datum_cause k d) (datums_cause k ds)

    pub entries_cause : Kind → Kind → Entries → Option ValueError
    entries_cause key k no_entries = None
    entries_cause key k (entry x d es) = or_else (unless (is_scalar_of key x) WrongKind) (or_else (datum_cause k d) (entries_cause key k es))

    -- inside what a content holds
    pub parts_cause : Shape → Kind → Holding → Option ValueError
    parts_cause s k (one d) = datum_cause k d
    parts_cause s k (list ds) = datums_cause k ds
    parts_cause s k (map es) = in_map (key_of s) (λ key. entries_cause key k es)

    pub fields_cause : List FieldView → (ℕ → Bool) → Fields → Option ValueError
    fields_cause all seen no_fields = None
    fields_cause all seen (field n h fs) =
        or_else (at_field (field_numbered n all)
        (λ f. or_else (stored_cause seen f.shape f.kind h) (or_else (declared_cause pool f.kind h) (parts_cause f.shape f.kind h))))
        (fields_cause all (with_member (shape_at (field_numbered n all)) seen) fs)

    pub body_cause : ℕ → Message → Option ValueError
    body_cause m (body fs us) = or_else (fields_cause (message_fields pool m) (λ o. false) fs) (unknown_cause pool (message_fields pool m) us)

  -- a number that isn't declared, or what is wrong inside
  abbrev pub held_cause : Shape → Kind → Holding → Option ValueError
  held_cause s k h = or_else (declared_cause pool k h) (parts_cause s k h)

  -- the depth is judged last
  abbrev pub message_cause : ℕ → Message → Option ValueError
  message_cause m v = or_else (body_cause m v) (unless (nat_le (message_depth v) 100) TooDeep)
