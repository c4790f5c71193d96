-- When a message of the new type holds what a message of the old type held, at every level.
use Rattle.std.specs.Prelude.{◌≡◌, ◌≢◌, ◌<◌, ◌≤◌, ◌^◌, length, ℕ, Bool, true, false, not, List, [], Option, Some, None, IfSome, is_some, Contains, if◌then◌else◌}
use Rattle.std.specs.List.{list_any}
use Rattle.pb_wire.specs.Limits.{full}
use Rattle.pb_schema.specs.declared.types.Kind.{Kind}
use Rattle.pb_schema.specs.declared.types.Shape.{Shape}
use Rattle.pb_schema.specs.Types.{FieldView, Types, message_fields, field_numbered}
use Rattle.pb_schema.specs.Scalar.{bytes}
use Rattle.pb_schema.specs.Kinds.{default_of}
use Rattle.pb_value.specs.Data.{Datum, scalar, message, Datums, no_datums, datum, Entries, no_entries, entry, Holding, one, list, map}
use Rattle.pb_value.specs.Data.{Fields, no_fields, field, Message, body, get_field, fields_of, unknown_of}
use Rattle.pb_value.specs.Judge.Forms.{is_implicit}
use Rattle.pb_value.specs.Canon.{canon, canon_bytes, canon_fields, message_type}
use Rattle.pb_value.specs.Value.{value}
use Rattle.pb_value.specs.Derives.{Text}
use Rattle.pb_value.specs.WellFormed.{IsWellFormed}
use Rattle.pb_compat.specs.declared.difference.ComparedTypes.{ComparedTypes}
use Rattle.pb_compat.specs.declared.difference.Difference.{Difference}
use Rattle.pb_compat.specs.declared.difference.Severity.{Severity}
use Rattle.pb_compat.specs.declared.difference.Severity.TheVariants.{BreaksReading, Loses, ChangesPresence, Converts, Renames}
use Rattle.pb_compat.specs.Scalars.{meaning}
use Rattle.pb_compat.specs.Pairs.{ReachedIn}
use Rattle.pb_compat.specs.Fields.{differences_at}

-- the fields of the numbers that a test lets through
abbrev pub fields_only : (ℕ → Bool) → Fields → Fields
fields_only p no_fields = no_fields
fields_only p (field k h fs) = if p k then field k h (fields_only p fs) else fields_only p fs

abbrev pub has_number : List FieldView → ℕ → Bool
has_number gs k = is_some (field_numbered k gs)

-- the fields that a type does not declare
abbrev pub undeclared : List FieldView → Fields → Fields
undeclared gs fs = fields_only (λ k. not (has_number gs k)) fs

module _ (old new : Types) where
  abbrev mutual
    -- A value of the old kind a and one of the new kind b: scalars that mean the same, messages that agree, or a message and its encoding as bytes.
    pub IsSameValue : Kind → Kind → Datum → Datum → Type 0
    IsSameValue a b (scalar x) (scalar y) = meaning y ≡ meaning x
    IsSameValue a b (message v) (message w) = Agrees (message_type a) (message_type b) v w
    IsSameValue a b (message v) (scalar y) = y ≡ bytes (canon_bytes old (message_type a) v)
    IsSameValue a b (scalar x) (message w) = ⊥

    pub AreSameValues : Kind → Kind → Datums → Datums → Type 0
    AreSameValues a b no_datums no_datums = Unit {0}
    AreSameValues a b (datum d ds) (datum e es) = IsSameValue a b d e × AreSameValues a b ds es
    AreSameValues a b no_datums (datum e es) = ⊥
    AreSameValues a b (datum d ds) no_datums = ⊥

    -- entry by entry, in the order of the keys, which mean the same
    pub AreSameEntries : Kind → Kind → Entries → Entries → Type 0
    AreSameEntries a b no_entries no_entries = Unit {0}
    AreSameEntries a b (entry x d ds) (entry y e es) = (meaning y ≡ meaning x) × IsSameValue a b d e × AreSameEntries a b ds es
    AreSameEntries a b no_entries (entry y e es) = ⊥
    AreSameEntries a b (entry x d ds) no_entries = ⊥

    -- What a field of the old kind a holds, and one of the new kind b and the new shape t. One value may be held as a list of one; where the new
    -- field has implicit presence, a value that means its default is not held.
    pub HoldsSame : Kind → Kind → Shape → Holding → Option Holding → Type 0
    HoldsSame a b t (one d) (Some (one e)) = IsSameValue a b d e
    HoldsSame a b t (one d) (Some (list (datum e no_datums))) = IsSameValue a b d e
    HoldsSame a b t (one d) None = (is_implicit t ≡ true) × IsSameValue a b d (scalar (default_of b))
    HoldsSame a b t (list ds) (Some (list es)) = AreSameValues a b ds es
    HoldsSame a b t (map ds) (Some (map es)) = AreSameEntries a b ds es
    HoldsSame a b t (one d) (Some (list no_datums)) = ⊥
    HoldsSame a b t (one d) (Some (list (datum e (datum c es)))) = ⊥
    HoldsSame a b t (one d) (Some (map es)) = ⊥
    HoldsSame a b t (list ds) (Some (one e)) = ⊥
    HoldsSame a b t (list ds) (Some (map es)) = ⊥
    HoldsSame a b t (list ds) None = ⊥
    HoldsSame a b t (map ds) (Some (one e)) = ⊥
    HoldsSame a b t (map ds) (Some (list es)) = ⊥
    HoldsSame a b t (map ds) None = ⊥

    -- each of the fields that both types declare
    pub FieldsAgree : List FieldView → List FieldView → Fields → Fields → Type 0
    FieldsAgree all gs no_fields ws = Unit {0}
    FieldsAgree all gs (field k h fs) ws =
        IfSome (field_numbered k all) (λ f. IfSome (field_numbered k gs) (λ g. HoldsSame f.kind g.kind g.shape h (get_field k ws))) × FieldsAgree all gs fs ws

    -- A message of the old type m, and one of the new type n: each field that both types declare holds the same; the new message holds nothing
    -- that the old one does not; and its unknown records are, in order, those of the fields that the new type does not declare.
    pub Agrees : ℕ → ℕ → Message → Message → Type 0
    Agrees m n (body fs us) w =
        FieldsAgree (message_fields old m) (message_fields new n) fs (fields_of w) × ((k : ℕ) → get_field k fs ≡ None → get_field k (fields_of w) ≡ None)
        × (unknown_of w ≡ canon_fields old (message_fields old m) (undeclared (message_fields new n) fs))

-- no message has unknown records, at any level
abbrev mutual
  pub HasNoUnknown : Message → Type 0
  HasNoUnknown (body fs us) = (us ≡ []) × FieldsHaveNoUnknown fs

  pub FieldsHaveNoUnknown : Fields → Type 0
  FieldsHaveNoUnknown no_fields = Unit {0}
  FieldsHaveNoUnknown (field k h fs) = HoldsNoUnknown h × FieldsHaveNoUnknown fs

  pub HoldsNoUnknown : Holding → Type 0
  HoldsNoUnknown (one d) = ValueHasNoUnknown d
  HoldsNoUnknown (list ds) = ValuesHaveNoUnknown ds
  HoldsNoUnknown (map es) = EntriesHaveNoUnknown es

  pub ValueHasNoUnknown : Datum → Type 0
  ValueHasNoUnknown (scalar x) = Unit {0}
  ValueHasNoUnknown (message v) = HasNoUnknown v

  pub ValuesHaveNoUnknown : Datums → Type 0
  ValuesHaveNoUnknown no_datums = Unit {0}
  ValuesHaveNoUnknown (datum d ds) = ValueHasNoUnknown d × ValuesHaveNoUnknown ds

  pub EntriesHaveNoUnknown : Entries → Type 0
  EntriesHaveNoUnknown no_entries = Unit {0}
  EntriesHaveNoUnknown (entry x d es) = ValueHasNoUnknown d × EntriesHaveNoUnknown es

-- no difference between two types breaks reading
abbrev pub NoneBreaks : Types → Types → ℕ → ℕ → Type 0
NoneBreaks old new m n = (k : ℕ) (d : Difference) → Contains (differences_at old new m n k) d → d.severity ≢ BreaksReading

-- No difference breaks reading between any two types that are reached by at most 100 fields, one in another. A message nests no deeper.
abbrev pub NothingBreaks : Types → Types → ℕ → ℕ → Type 0
NothingBreaks old new m n = (fields : ℕ) (p : ℕ × ℕ) → fields ≤ 100 → ReachedIn old new (m, n) fields p → NoneBreaks old new p.0 p.1

-- What the new type n reads of the canonical records of a well-formed message of the old type m without unknown records agrees with the message.
abbrev pub AreRecordsRead : Types → Types → ℕ → ℕ → Type 0
AreRecordsRead old new m n = (v : Message) → IsWellFormed old m v → HasNoUnknown v → Agrees old new m n v (value new n (canon old m v))

-- The canonical bytes of such a message, where the wire can hold them, are an encoding of a message of the new type that agrees with it.
abbrev pub IsReadAs : Types → Types → ℕ → ℕ → Type 0
IsReadAs old new m n =
    (v : Message) → IsWellFormed old m v → HasNoUnknown v → length (canon_bytes old m v) < 2 ^ 31
    → (w : Message) × Text new n full (canon_bytes old m v) w × Agrees old new m n v w

-- so it is where nothing breaks reading
abbrev pub ReadsMessages : Types → Types → Type 0
ReadsMessages old new = (m n : ℕ) → NothingBreaks old new m n → AreRecordsRead old new m n

abbrev pub ReadsEncodings : Types → Types → Type 0
ReadsEncodings old new = (m n : ℕ) → NothingBreaks old new m n → IsReadAs old new m n

-- A COMPARISON

abbrev pub is_break : Severity → Bool
is_break BreaksReading = true
is_break Loses = false
is_break ChangesPresence = false
is_break Converts = false
is_break Renames = false

abbrev pub break_among : List Difference → Bool
break_among ds = list_any (λ d. is_break d.severity) ds

-- a comparison has a difference that breaks reading
abbrev pub break_in : List ComparedTypes → Bool
break_in cs = list_any (λ c. break_among c.differences.items) cs
