-- What records of a message type, one after another, make of what was found at a path (encoding guide, "Last One Wins", "Oneofs").
use Rattle.std.specs.Prelude.{◌≡◌, ◌≤◌, ℕ, List, [], ◌∷◌, Bool, true, false, not, ◌&&◌, Option, Some, None, option_and_then, if◌then◌else◌, fold}
use Rattle.pb_wire.specs.Record.{Payload, Record}
use Rattle.pb_wire.specs.Inside.{records_inside}
use Rattle.pb_schema.specs.declared.types.Shape.{Shape}
use Rattle.pb_schema.specs.declared.types.Shape.TheVariants as shape
use Rattle.pb_schema.specs.Types.{FieldView, Types, message_fields, field_numbered}
use Rattle.pb_schema.specs.Scalar.{Scalar, is_default}
use Rattle.pb_schema.specs.Kinds.{message_of_kind, read}
use Rattle.pb_schema.specs.Fits.{fits}
use Rattle.pb_schema.specs.Closed.{closed_of, is_undeclared, counts}
use Rattle.pb_value.specs.Oneof.{is_member_at}
use Rattle.pb_value.specs.Value.{value}
use Rattle.pb_value.specs.Meaning.{AreSoundInRange}
use Rattle.pb_find.specs.ScalarAt.{scalar_at, message_of}

-- a field of the shape holds one value
abbrev pub is_single : Shape → Bool
is_single shape.Implicit = true
is_single shape.Explicit = true
is_single (shape.OneofMember o) = true
is_single (shape.List p) = false
is_single (shape.Map key) = false

abbrev pub if_single : Option FieldView → Option FieldView
if_single None = None
if_single (Some f) = if is_single f.shape then Some f else None

-- the field of a number in a message type, if it holds one value
abbrev pub target : Types → ℕ → ℕ → Option FieldView
target pool m n = if_single (field_numbered n (message_fields pool m))

-- another field is a member of the oneof that a field of the shape is a member of
abbrev pub shares_oneof : Shape → Option FieldView → Bool
shares_oneof (shape.OneofMember o) g = is_member_at o g
shares_oneof shape.Implicit g = false
shares_oneof shape.Explicit g = false
shares_oneof (shape.List p) g = false
shares_oneof (shape.Map key) g = false

-- the record counts for the field
abbrev pub counts_for : Types → FieldView → Record → Bool
counts_for pool f r = fits f r && not (is_undeclared pool (closed_of (Some f)) r.payload)

-- the record counts for a field whose oneof the target is a member of
abbrev pub is_rival : Types → List FieldView → FieldView → Record → Bool
is_rival pool fs f r = shares_oneof f.shape (field_numbered r.number fs) && counts pool fs r

-- a scalar that a field keeps: with implicit presence, none that is the default
abbrev pub kept : Shape → Scalar → Option Scalar
kept shape.Implicit x = if is_default x then None else Some x
kept shape.Explicit x = Some x
kept (shape.OneofMember o) x = Some x
kept (shape.List p) x = Some x
kept (shape.Map key) x = Some x

-- Where the records inside a message of a type make this of what was found, by the rest of the path.
module _ (inside : ℕ → Option Scalar → List Record → Option Scalar) where
  -- A payload that counts for the target, whose kind names this message type: a message is looked through, and a scalar is found where the path
  -- ends.
  abbrev pub after_typed : Option ℕ → List ℕ → FieldView → Option Scalar → Payload → Option Scalar
  after_typed (Some m) rest f x p = inside m x (records_inside p)
  after_typed None [] f x p = option_and_then (kept f.shape) (read f.kind p)
  after_typed None (n ∷ rest) f x p = x

  abbrev pub after_payload : List ℕ → FieldView → Option Scalar → Payload → Option Scalar
  after_payload rest f x p = after_typed (message_of_kind f.kind) rest f x p

  -- The last record that counts for the target decides. One that counts for another member of its oneof ends what was found.
  abbrev pub after_record : Types → ℕ → List ℕ → FieldView → Option Scalar → Record → Option Scalar
  after_record pool m rest f x r =
      if counts_for pool f r then after_payload rest f x r.payload else (if is_rival pool (message_fields pool m) f r then None else x)

  -- all of the records
  abbrev pub after_records : Types → ℕ → List ℕ → Option FieldView → Option Scalar → List Record → Option Scalar
  after_records pool m rest None x rs = x
  after_records pool m rest (Some f) x rs = fold (after_record pool m rest f) x rs

-- what is found at a path after records of a message type, where x was found before them
abbrev pub found : Types → List ℕ → ℕ → Option Scalar → List Record → Option Scalar
found pool [] m x rs = x
found pool (n ∷ rest) m x rs = after_records (found pool rest) pool m rest (target pool m n) x rs

-- after the records of an encoding, with nothing before them, it is the scalar that their message has at the path
abbrev pub FoundIsScalarAt : Types → Type 0
FoundIsScalarAt pool =
    (m depth : ℕ) (rs : List Record) (path : List ℕ) → depth ≤ 100 → AreSoundInRange pool m depth rs
    → found pool path m None rs ≡ scalar_at path (message_of pool m (value pool m rs))
