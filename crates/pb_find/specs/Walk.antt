-- One record and those of a level, read and looked through at once.
use Rattle.std.specs.Prelude.{◌≡◌, ◌≢◌, ◌≤◌, ◌<◌, ◌^◌, ℕ, List, [], ◌∷◌, length, true, false, Option, Some, None, IfSome, MatchOption}
use Rattle.std.specs.Borrow.{Bor}
use Rattle.std.specs.List.{AllByRecursion}
use Rattle.pb_wire.specs.Record.{Payload, Record, wire_type}
use Rattle.pb_wire.specs.RecordIter.{seen}
use Rattle.pb_wire.specs.Fault.{Place, HasTag}
use Rattle.pb_wire.specs.Exact.{IsRead}
use Rattle.pb_wire.specs.Schema.{Open}
use Rattle.pb_wire.specs.declared.iter.Payload.{Payload as Borrowed}
use Rattle.pb_schema.specs.Types.{Types, message_fields, field_numbered}
use Rattle.pb_schema.specs.Rules.{IsPool}
use Rattle.pb_schema.specs.View.{field_view}
use Rattle.pb_schema.specs.Scalar.{Scalar}
use Rattle.pb_schema.specs.Kinds.{wire_type_of, message_of_kind}
use Rattle.pb_schema.specs.Context.{Context, a_message, schema_of}
use Rattle.pb_schema.specs.declared.types.Field.{Field}
use Rattle.pb_schema.specs.declared.types.Kind.TheVariants.{Text}
use Rattle.pb_schema.specs.declared.types.Shape.{Shape}
use Rattle.pb_wire.specs.declared.scan_at.RecordTag.{RecordTag}
use Rattle.pb_validate.specs.Here.{here}
use Rattle.pb_validate.specs.Judging.{Front, ReadsAll, ReadsValue, opened}
use Rattle.pb_find.specs.declared.level.Target.{Target}
use Rattle.pb_find.specs.declared.level.Level.{Level}
use Rattle.pb_find.specs.declared.scalar_ref.ScalarRef.{ScalarRef}
use Rattle.pb_find.specs.Found.{target, found, after_records, shares_oneof}
use Rattle.pb_find.specs.Loops.{payload_of}
use Rattle.pb_find.specs.View.{found_view}

abbrev pub record_at : ℕ → Payload → Record
record_at k payload = record { number = k; payload = payload }

-- the records of a level can be read
pub record CanRead (l : Level) : Type 0 where
  pub rules : IsPool l.pool.now
  pub of_pool : l.message_type.0 < length l.pool.now.messages
  pub levels : l.levels ≤ 100
  pub small : length l.bytes.now < 2 ^ 31
  pub own : IfSome l.target (λ t. target l.pool.now l.message_type.0 t.field.now.number ≡ Some (field_view t.field.now))

-- from an index of the bytes on
pub record CanReadAt (l : Level) (at : ℕ) : Type 0 where
  pub can : CanRead l
  pub at_in_bounds : at ≤ length l.bytes.now

-- and so can what a record has after this tag, which does not end a group
pub record IsAfterTag (l : Level) (tag : RecordTag) : Type 0 where
  pub can : CanRead l
  pub end_in_bounds : tag.end ≤ length l.bytes.now
  pub is_tag : HasTag (here l.bytes.now tag.at None) tag.number tag.wire_type (here l.bytes.now tag.end None)
  pub no_end : tag.wire_type ≢ 4

-- what records make of what was found, where a path leads to this, or to no field of one value
abbrev pub after_target : Types → ℕ → Option Target → Option Scalar → List Record → Option Scalar
after_target pool m None x rs = x
after_target pool m (Some t) x rs = after_records (found pool t.rest.now) pool m t.rest.now (Some (field_view t.field.now)) x rs

abbrev pub after : Level → Option Scalar → List Record → Option Scalar
after l x rs = after_target l.pool.now l.message_type.0 l.target x rs

-- ---- one record

-- no sound record follows the tag of this number and wire type
abbrev pub NoRecord : Types → ℕ → ℕ → ℕ → ℕ → Place → Type 0
NoRecord pool m levels k w p = (payload : Payload) (q : Place) → ReadsValue (schema_of pool) (a_message m) levels k w p payload q → ⊥

abbrev pub IsNone : Level → RecordTag → Type 0
IsNone l tag = NoRecord l.pool.now l.message_type.0 l.levels tag.number tag.wire_type (here l.bytes.now tag.end None)

-- a record of this payload, sound for the level, is between the tag and the index
pub record IsRecord (l : Level) (tag : RecordTag) (payload : Payload) (end : ℕ) : Type 0 where
  pub rises : tag.end ≤ end
  pub within : end ≤ length l.bytes.now
  pub value :
      ReadsValue (schema_of l.pool.now) (a_message l.message_type.0) l.levels tag.number tag.wire_type (here l.bytes.now tag.end None) payload
      (here l.bytes.now end None)

-- where the record of the tag ends
abbrev pub Ends : Level → RecordTag → Option ℕ → Type 0
Ends l tag result = MatchOption result (IsNone l tag) (λ end. (payload : Payload) × IsRecord l tag payload end)

-- and what is found after it, where x was found before it
abbrev pub Finds : Level → RecordTag → Option ScalarRef → Option (ℕ × Option ScalarRef) → Type 0
Finds l tag x result = MatchOption result (IsNone l tag)
    (λ r. (payload : Payload) × IsRecord l tag payload r.0 × (found_view r.1 ≡ after l (found_view x) (record_at tag.number payload ∷ [])))

-- a payload of this wire type
abbrev pub IsTypeOf : ℕ → Borrowed → Type 0
IsTypeOf w payload = w ≡ wire_type (payload_of (seen payload))

-- the record of the tag is neither a message on the path nor a string at its end
abbrev pub IsPlain : Level → RecordTag → Type 0
IsPlain l tag = IfSome l.target (λ t. tag.number ≡ t.field.now.number → tag.wire_type ≡ wire_type_of t.field.now.kind
    → (message_of_kind t.field.now.kind ≡ None) × (length t.rest.now ≡ 0 → t.field.now.kind ≢ Text))

-- the record of the tag is a message of this type on the path, which goes on with the rest
pub record LeadsInto (l : Level) (tag : RecordTag) (t : ℕ) (rest : Bor (List ℕ)) : Type 0 where
  pub field : Bor Field
  pub is : l.target ≡ Some (record { field = field; rest = rest })
  pub number : tag.number ≡ field.now.number
  pub fits : tag.wire_type ≡ wire_type_of field.now.kind
  pub inner : message_of_kind field.now.kind ≡ Some t
  pub of_pool : t < length l.pool.now.messages

-- a field of this number that shares the oneof that a field of this shape is a member of, if there is one
abbrev pub IsFellow : Level → Shape → ℕ → Option (Bor Field) → Type 0
IsFellow l s k result =
    let other = field_numbered k (message_fields l.pool.now l.message_type.0) in
    MatchOption result (shares_oneof s other ≡ false) (λ f. (other ≡ Some (field_view f.now)) × (shares_oneof s other ≡ true))

-- ---- records that are read past

-- whole records lead from one index to the other
pub record Passes (l : Level) (at : ℕ) (rs : List Record) (end : ℕ) : Type 0 where
  pub rises : at ≤ end
  pub within : end ≤ length l.bytes.now
  pub front : Front (schema_of l.pool.now) (a_message l.message_type.0) l.levels (here l.bytes.now at None) rs (here l.bytes.now end None)

-- whole records lead from p to a tag that no sound record follows
pub record Breaks (pool : Types) (m levels : ℕ) (p : Place) : Type 0 where
  pub before : List Record
  pub at : Place
  pub number : ℕ
  pub type : ℕ
  pub start : Place
  pub front : Front (schema_of pool) (a_message m) levels p before at
  pub tag : HasTag at number type start
  pub no_end : type ≢ 4
  pub none : NoRecord pool m levels number type start

abbrev pub BreaksAfter : Level → ℕ → Type 0
BreaksAfter l at = Breaks l.pool.now l.message_type.0 l.levels (here l.bytes.now at None)

-- a number that is neither n nor that of another member of the oneof that a field of this shape is a member of
abbrev pub IsStranger : Types → ℕ → ℕ → Shape → ℕ → Type 0
IsStranger pool m n s k = (k ≢ n) × (shares_oneof s (field_numbered k (message_fields pool m)) ≡ false)

-- whole records, none of which concerns a field of this number and shape
abbrev pub ArePassed : Level → ℕ → Shape → ℕ → ℕ → Type 0
ArePassed l n s at end =
    (rs : List Record) × Passes l at rs end × AllByRecursion (λ r. IsStranger l.pool.now l.message_type.0 n s r.number) rs

abbrev pub PassesStrangers : Level → ℕ → Shape → ℕ → Option ℕ → Type 0
PassesStrangers l n s at result = MatchOption result (BreaksAfter l at) (λ end. ArePassed l n s at end)

-- whole records, which leave whatever was found as it is
abbrev pub PassesBy : Level → ℕ → Option ℕ → Type 0
PassesBy l at result = MatchOption result (BreaksAfter l at) (λ end. (rs : List Record) × Passes l at rs end × ((x : Option Scalar) → after l x rs ≡ x))

-- ---- all records

-- whole records, and what is found after them, where x was found before them
abbrev pub HasFound : Level → Option ScalarRef → ℕ → ℕ → Option ScalarRef → Type 0
HasFound l x at end y = (rs : List Record) × Passes l at rs end × (found_view y ≡ after l (found_view x) rs)

-- what is read: all records of a message, or those of a group and its end tag
abbrev pub open_of : Level → Open Context
open_of l = opened l.group (a_message l.message_type.0)

-- the records up to their end, and what is found after them
abbrev pub LooksThrough : Level → ℕ → Option ScalarRef → Option (ℕ × Option ScalarRef) → Type 0
LooksThrough l at x result =
    MatchOption result (IsRead (schema_of l.pool.now) (open_of l) l.levels (here l.bytes.now at None) → ⊥)
    (λ r. (at ≤ r.0) × (r.0 ≤ length l.bytes.now) × (rs : List Record)
    × ReadsAll (schema_of l.pool.now) (open_of l) l.levels (here l.bytes.now at None) rs (here l.bytes.now r.0 None)
    × (found_view r.1 ≡ after l (found_view x) rs))
