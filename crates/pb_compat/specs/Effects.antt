-- What a difference that does not break reading does to messages, by its word.
use Rattle.std.specs.Prelude.{◌≡◌, ◌↔◌, ◌<◌, ◌^◌, ◌==◌, ℕ, length, List, filter, true, false, Option, Some, None, Contains}
use Rattle.pb_wire.specs.Limits.{full}
use Rattle.pb_wire.specs.Record.{Record}
use Rattle.pb_schema.specs.declared.types.Kind.{Kind}
use Rattle.pb_schema.specs.Kinds.{message_of_kind, default_of}
use Rattle.pb_schema.specs.Types.{FieldView, Types}
use Rattle.pb_value.specs.Data.{Datum, scalar, message, empty, Holding, one, Message, fields_of, unknown_of, get_field}
use Rattle.pb_value.specs.Canon.{canon, canon_bytes}
use Rattle.pb_value.specs.Derives.{Text}
use Rattle.pb_value.specs.Judge.Forms.{is_default_datum}
use Rattle.pb_value.specs.Value.{value}
use Rattle.pb_value.specs.WellFormed.{IsWellFormed, datum_declared}
use Rattle.pb_compat.specs.declared.difference.Severity.{Severity}
use Rattle.pb_compat.specs.declared.difference.Severity.TheVariants.{Loses, ChangesPresence, Converts}
use Rattle.pb_compat.specs.Agrees.{Agrees, HasNoUnknown, HoldsSame, IsSameValue, NothingBreaks}
use Rattle.pb_compat.specs.Fields.{differences_at, presence, is_same_form}
use Rattle.pb_compat.specs.Pairs.{leads}
use Rattle.pb_compat.specs.Witness.{alone, AreFieldsAt}

-- a comparison of the type m of the old pool and n of the new one reports this at the field of number k
abbrev pub IsReportedAt : Types → Types → ℕ → ℕ → ℕ → Severity → Type 0
IsReportedAt old new m n k s = Contains (differences_at old new m n k) (record { number = k; severity = s })

-- LOSES

-- the records of a number
abbrev pub numbered : ℕ → List Record → List Record
numbered k rs = filter (λ r. r.number == k) rs

-- Whatever records the type n reads, those of the number are unknown records of the message, in their order. It holds nothing in a field of
-- the number, and where it is written again, it has these records.
pub record PassesOn (new : Types) (n k : ℕ) : Type 0 where
  pub unheld : (rs : List Record) → get_field k (fields_of (value new n rs)) ≡ None
  pub unknown : (rs : List Record) → numbered k (unknown_of (value new n rs)) ≡ numbered k rs
  pub written : (rs : List Record) → numbered k (canon new n (value new n rs)) ≡ numbered k rs

abbrev pub LostArePassedOn : Types → Types → Type 0
LostArePassedOn old new = (m n k : ℕ) → IsReportedAt old new m n k Loses → PassesOn new n k

-- VALUES THAT ARE KEPT

-- what the new type n holds in the field of a number, of the canonical records of a message of the old type m
abbrev pub read_at : Types → Types → ℕ → ℕ → ℕ → Message → Option Holding
read_at old new m n k v = get_field k (fields_of (value new n (canon old m v)))

-- Of each well-formed message of the old type without unknown records: what it holds in the field of number k, the new field holds the same,
-- and nothing where it holds nothing. If it has this field alone, and the wire can hold its canonical bytes, these are an encoding of a message
-- of the new type that agrees.
pub record IsKeptAt (old new : Types) (m n k : ℕ) (f g : FieldView) : Type 0 where
  pub same : (v : Message) (h : Holding) → IsWellFormed old m v → HasNoUnknown v → get_field k (fields_of v) ≡ Some h → HoldsSame old new f.kind g.kind g.shape h (read_at old new m n k v)
  pub unset : (v : Message) → IsWellFormed old m v → HasNoUnknown v → get_field k (fields_of v) ≡ None → read_at old new m n k v ≡ None
  pub taken :
      (h : Holding) → IsWellFormed old m (alone k h) → HasNoUnknown (alone k h) → length (canon_bytes old m (alone k h)) < 2 ^ 31
      → (w : Message) × Text new n full (canon_bytes old m (alone k h)) w × Agrees old new m n (alone k h) w

-- CONVERTS

-- nothing breaks between the message types that the fields of a number lead to, nor between those that these lead to
abbrev pub NothingBreaksIn : Types → Types → ℕ → ℕ → ℕ → Type 0
NothingBreaksIn old new m n k = (p : ℕ × ℕ) → leads old new (m, n) k ≡ Some p → NothingBreaks old new p.0 p.1

-- the fields of the number are of two kinds or shapes, and the value is kept
pub record IsConverted (old new : Types) (m n k : ℕ) : Type 0 where
  pub old_field : FieldView
  pub new_field : FieldView
  pub at : AreFieldsAt old new m n k old_field new_field
  pub form : is_same_form old_field new_field ≡ false
  pub kept : NothingBreaksIn old new m n k → IsKeptAt old new m n k old_field new_field

abbrev pub ConvertedAreKept : Types → Types → Type 0
ConvertedAreKept old new = (m n k : ℕ) → IsReportedAt old new m n k Converts → IsConverted old new m n k

-- PRESENCE

-- the default of a kind, and of a message the empty one
abbrev pub default_by : Kind → Option ℕ → Datum
default_by k None = scalar (default_of k)
default_by k (Some m) = message empty

abbrev pub default_datum : Kind → Datum
default_datum k = default_by k (message_of_kind k)

-- The new field does not hold a value that means its default: it is read as not set. Such a message is that which sets the old field to its
-- default; a closed enum may not declare it.
pub record DropsDefaults (old new : Types) (m n k : ℕ) (f g : FieldView) : Type 0 where
  pub exact :
      (v : Message) (d : Datum) → IsWellFormed old m v → HasNoUnknown v → get_field k (fields_of v) ≡ Some (one d)
      → (read_at old new m n k v ≡ None) ↔ IsSameValue old new f.kind g.kind d (scalar (default_of g.kind))
  pub some :
      datum_declared old f.kind (default_datum f.kind) ≡ true
      → IsWellFormed old m (alone k (one (default_datum f.kind))) × (read_at old new m n k (alone k (one (default_datum f.kind))) ≡ None)

-- no message sets the new field to a default
abbrev pub HoldsNoDefault : Types → Types → ℕ → ℕ → ℕ → Type 0
HoldsNoDefault old new m n k =
    (v : Message) (d : Datum) → IsWellFormed old m v → HasNoUnknown v → read_at old new m n k v ≡ Some (one d) → is_default_datum d ≡ false

-- only the old field records whether it is set, or only the new one
pub data TurnsPresence (old new : Types) (m n k : ℕ) (f g : FieldView) : Type 0 where
  old_alone : presence f.shape ≡ Some true → presence g.shape ≡ Some false → DropsDefaults old new m n k f g → TurnsPresence old new m n k f g
  new_alone : presence f.shape ≡ Some false → presence g.shape ≡ Some true → HoldsNoDefault old new m n k → TurnsPresence old new m n k f g

-- the value is kept, but not whether a default is set
pub record IsPresenceChanged (old new : Types) (m n k : ℕ) : Type 0 where
  pub old_field : FieldView
  pub new_field : FieldView
  pub at : AreFieldsAt old new m n k old_field new_field
  pub kept : IsKeptAt old new m n k old_field new_field
  pub turned : TurnsPresence old new m n k old_field new_field

abbrev pub PresenceIsTurned : Types → Types → Type 0
PresenceIsTurned old new = (m n k : ℕ) → IsReportedAt old new m n k ChangesPresence → IsPresenceChanged old new m n k
