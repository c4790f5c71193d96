-- What the functions say of the bytes at the start, and of the rest after them.
use Rattle.std.specs.Prelude.{◌≡◌, ◌≢◌, ◌≤◌, ◌<◌, ℕ, suc, ◌+◌, ◌*◌, List, [], ◌∷◌, ◌++◌, length, Bool, true, false, ◌==◌, Option, Some, IsUtf8, ◌-◌, ◌^◌, ◌⊎◌, ◌<ℤ◌}
use Rattle.std.specs.Int.{w32, w64, to_le_bytes, cast_signed, IsBitSet}
use Rattle.std.specs.List.{AllByRecursion}
use Rattle.std.specs.declared.cmp.Ordering.TheVariants.{Less}
use Rattle.pb_wire.specs.Varint.{shortest}
use Rattle.pb_wire.specs.Zigzag.{unzigzag}
use Rattle.pb_wire.specs.Record.{Payload, varint, fixed64, len, group, fixed32, Group, Record, wire_type, depth, group_depth, records_depth}
use Rattle.pb_wire.specs.Ranges.{IsNumber, IsInRange, IsInRangeGroup, AreInRange}
use Rattle.pb_wire.specs.Inside.{IsNumbered, IsNumberedGroup, AreNumbered}
use Rattle.pb_wire.specs.Spell.{shortest_record, shortest_group, shortest_records}
use Rattle.pb_schema.specs.declared.types.Kind.{Kind}
use Rattle.pb_schema.specs.declared.types.Kind.TheVariants as kind
use Rattle.pb_schema.specs.declared.types.Shape.{Shape}
use Rattle.pb_schema.specs.declared.types.Shape.TheVariants as shape
use Rattle.pb_schema.specs.Types.{FieldView, Types, message_fields}
use Rattle.pb_schema.specs.Scalar.{Scalar, key_cmp, bytes_cmp}
use Rattle.pb_schema.specs.Kinds.{wire_type_of, written, IsOfKind}
use Rattle.pb_schema.specs.Rules.{NamesType, HasKeyKind, MayBePacked, MayBeImplicit, MayBeValue}
use Rattle.pb_schema.specs.Closed.{is_declared, is_undeclared, closed_shaped}
use Rattle.pb_value.specs.Data.{Datum, Datums, no_datums, Entries, no_entries, Holding, Fields, no_fields, field, Message}
use Rattle.pb_value.specs.Data.{levels_of, levels_in_entry, datums_depth, entries_depth, holding_depth, fields_depth, message_depth}
use Rattle.pb_value.specs.Canon.{record_of, sealed, key_kind, payload_of, packed_bytes, canon_each, canon_entries, canon_holding, canon_fields, canon_bytes}
use Rattle.pb_value.specs.WellFormed.{IsUnknown, AreUnknown, RisesFrom, IsBelow, KeysRise, IsOfShape, IsDatum, AreDatums, AreEntries, IsHeld, AreFields, IsBody}
use Rattle.pb_value.specs.WellFormed.{datum_declared, datums_declared, holds_declared, HasNoMember, oneof_at}
use Rattle.pb_value.specs.Judge.Forms.{is_default_datum}

-- a tag, and what follows it
abbrev pub tagged : ℕ → ℕ → List ℕ → List ℕ
tagged k w s = shortest (8 * k + w) ++ s

-- what follows the tag of a record that is no group
abbrev pub payload_bytes : Payload → List ℕ
payload_bytes (varint n) = shortest n
payload_bytes (fixed64 n) = to_le_bytes w64 n
payload_bytes (len s) = shortest (length s) ++ s
payload_bytes (group g) = []
payload_bytes (fixed32 n) = to_le_bytes w32 n

-- what a default is written as
abbrev pub is_zero : Payload → Bool
is_zero (varint n) = n == 0
is_zero (fixed64 n) = n == 0
is_zero (len []) = true
is_zero (len (x ∷ s)) = false
is_zero (group g) = false
is_zero (fixed32 n) = n == 0

-- a tag is of this number and wire type
abbrev pub IsTagged : ℕ → ℕ → ℕ → ℕ → Type 0
IsTagged k w number wire_type = (number ≡ k) × (wire_type ≡ w)

-- the end of the bytes, or an end tag
abbrev pub IsStop : List ℕ → Type 0
IsStop s = (s ≡ []) ⊎ ((k : ℕ) × (t : List ℕ) × IsNumber k × (s ≡ tagged k 4 t))

-- what follows the tag of a record, and then more bytes
abbrev pub follows : ℕ → Payload → List ℕ → List ℕ
follows n (group g) s = shortest_group g ++ tagged n 4 s
follows n (varint i) s = payload_bytes (varint i) ++ s
follows n (fixed64 i) s = payload_bytes (fixed64 i) ++ s
follows n (len t) s = payload_bytes (len t) ++ s
follows n (fixed32 i) s = payload_bytes (fixed32 i) ++ s

-- the payload of a record that is no group
pub record IsPlain (w : ℕ) (p : Payload) : Type 0 where
  pub type : wire_type p ≡ w
  pub plain : wire_type p ≢ 3
  pub in_range : IsInRange p

-- after the tag of a number and a wire type this payload follows, and then more bytes
pub record IsPayloadAt (n w : ℕ) (p : Payload) (b s : List ℕ) : Type 0 where
  pub type : wire_type p ≡ w
  pub in_range : IsInRange p
  pub split : b ≡ follows n p s

-- a number of 32 bits, or a negative one with all 64 bits of its two's complement
abbrev pub IsSmall : ℕ → Type 0
IsSmall n = (n < 2 ^ 31) ⊎ (2 ^ 64 - 2 ^ 31 ≤ n)

-- a varint that a value of the kind is written as
abbrev pub NumberFits : Types → Kind → ℕ → Type 0
NumberFits pool kind.Int64 n = Unit {0}
NumberFits pool kind.Uint64 n = Unit {0}
NumberFits pool kind.Sint64 n = Unit {0}
NumberFits pool kind.Uint32 n = n < 2 ^ 32
NumberFits pool kind.Sint32 n = n < 2 ^ 32
NumberFits pool kind.Int32 n = IsSmall n
NumberFits pool (kind.Enum e) n = IsSmall n
NumberFits pool (kind.ClosedEnum e) n = IsSmall n × (is_undeclared pool (Some e.0) (varint n) ≡ false)
NumberFits pool kind.Bool n = n ≤ 1
NumberFits pool _ n = ⊥

abbrev pub EightFits : Kind → Type 0
EightFits kind.Fixed64 = Unit {0}
EightFits kind.Sfixed64 = Unit {0}
EightFits kind.Double = Unit {0}
EightFits _ = ⊥

abbrev pub FourFits : Kind → Type 0
FourFits kind.Fixed32 = Unit {0}
FourFits kind.Sfixed32 = Unit {0}
FourFits kind.Float = Unit {0}
FourFits _ = ⊥

abbrev pub BytesFit : Kind → List ℕ → Type 0
BytesFit kind.Text s = IsUtf8 s
BytesFit kind.Bytes s = Unit {0}
BytesFit _ s = ⊥

-- A value of the kind is written as the payload. A closed enum declares it.
pub record IsWritten (pool : Types) (k : Kind) (p : Payload) : Type 0 where
  pub value : Scalar
  pub within : IsOfKind k value
  pub written : written k value ≡ p
  pub declared : is_declared pool k value ≡ true

-- keys that are written as these payloads rise
abbrev pub AreBelow : Kind → Payload → Payload → Type 0
AreBelow k p q = (x y : Scalar) → IsOfKind k x → IsOfKind k y → written k x ≡ p → written k y ≡ q → key_cmp x y ≡ Less

-- keys that are written as these payloads do not rise
abbrev pub NoneBelow : Kind → Payload → Payload → Type 0
NoneBelow k p q = (x y : Scalar) → IsOfKind k x → IsOfKind k y → written k x ≡ p → written k y ≡ q → key_cmp x y ≢ Less

-- a varint that is written for a lesser key
abbrev pub NumberBelow : Kind → ℕ → ℕ → Type 0
NumberBelow kind.Int32 a b = cast_signed w64 a <ℤ cast_signed w64 b
NumberBelow kind.Int64 a b = cast_signed w64 a <ℤ cast_signed w64 b
NumberBelow kind.Sint32 a b = unzigzag a <ℤ unzigzag b
NumberBelow kind.Sint64 a b = unzigzag a <ℤ unzigzag b
NumberBelow kind.Uint32 a b = a < b
NumberBelow kind.Uint64 a b = a < b
NumberBelow kind.Bool a b = a < b
NumberBelow _ a b = ⊥

abbrev pub EightBelow : Kind → ℕ → ℕ → Type 0
EightBelow kind.Sfixed64 a b = cast_signed w64 a <ℤ cast_signed w64 b
EightBelow kind.Fixed64 a b = a < b
EightBelow _ a b = ⊥

abbrev pub FourBelow : Kind → ℕ → ℕ → Type 0
FourBelow kind.Sfixed32 a b = cast_signed w32 a <ℤ cast_signed w32 b
FourBelow kind.Fixed32 a b = a < b
FourBelow _ a b = ⊥

abbrev pub StringBelow : Kind → List ℕ → List ℕ → Type 0
StringBelow kind.Text s t = bytes_cmp s t ≡ Less
StringBelow _ s t = ⊥

-- UNKNOWN RECORDS

-- a payload of a record of a number and a wire type, with this many levels left
pub record RawFirst (k w levels : ℕ) (b rest : List ℕ) : Type 0 where
  pub payload : Payload
  pub type : wire_type payload ≡ w
  pub in_range : IsInRange payload
  pub numbered : IsNumbered payload
  pub deep : depth payload ≤ levels
  pub split : tagged k w b ≡ shortest_record k payload ++ rest

-- the records of a group
pub record InsideFirst (levels : ℕ) (b rest : List ℕ) : Type 0 where
  pub inside : Group
  pub in_range : IsInRangeGroup inside
  pub numbered : IsNumberedGroup inside
  pub deep : group_depth inside ≤ levels
  pub split : b ≡ shortest_group inside ++ rest

-- a record that counts for no field of a type, from its tag on
pub record UnknownFirst (pool : Types) (m n levels : ℕ) (b rest : List ℕ) : Type 0 where
  pub payload : Payload
  pub unknown : IsUnknown pool (message_fields pool m) (record_of n payload)
  pub deep : depth payload ≤ levels
  pub split : b ≡ shortest_record n payload ++ rest

-- the unknown records of a message of a type
pub record UnknownsFirst (pool : Types) (m levels : ℕ) (b rest : List ℕ) : Type 0 where
  pub records : List Record
  pub unknown : AreUnknown pool (message_fields pool m) records
  pub deep : records_depth records ≤ levels
  pub split : b ≡ shortest_records records ++ rest

-- VALUES

-- the kind names a type of the pool, if it names one
abbrev pub IsKindOf : Types → Kind → Type 0
IsKindOf pool k = NamesType (length pool.messages) (length pool.enums) k

-- what the rules of a pool say of one of its fields
pub record GoesTogether (pool : Types) (f : FieldView) : Type 0 where
  pub number : IsNumber f.number
  pub kind : IsKindOf pool f.kind
  pub key : HasKeyKind f.shape
  pub packed : MayBePacked f.shape f.kind
  pub implicit : MayBeImplicit f.shape f.kind
  pub value : MayBeValue f.shape f.kind

-- A record of a number with a value of a kind, from its tag on. Levels are left for what nests in it.
pub record ValueFirst (pool : Types) (k : Kind) (n levels : ℕ) (b rest : List ℕ) : Type 0 where
  pub value : Datum
  pub within : IsDatum pool k value
  pub declared : datum_declared pool k value ≡ true
  pub deep : levels_of value ≤ levels
  pub split : b ≡ shortest_record n (payload_of pool k value) ++ rest

-- the same of a value that is no default
pub record GivenFirst (pool : Types) (k : Kind) (n levels : ℕ) (b rest : List ℕ) : Type 0 where
  pub first : ValueFirst pool k n levels b rest
  pub given : is_default_datum first.value ≡ false

-- the elements of a packed list
pub record AreElements (pool : Types) (k : Kind) (b : List ℕ) : Type 0 where
  pub values : Datums
  pub within : AreDatums pool k values
  pub declared : datums_declared pool k values ≡ true
  pub flat : datums_depth values ≡ 0
  pub all : b ≡ packed_bytes k values

-- a record for each element of a list
pub record EachFirst (pool : Types) (f : FieldView) (levels : ℕ) (b rest : List ℕ) : Type 0 where
  pub values : Datums
  pub within : AreDatums pool f.kind values
  pub declared : datums_declared pool f.kind values ≡ true
  pub deep : datums_depth values ≤ levels
  pub split : b ≡ shortest_records (canon_each pool f values) ++ rest

-- a packed list of at least one element in a record of a number, from its tag on
pub record PackedFirst (pool : Types) (k : Kind) (n : ℕ) (b rest : List ℕ) : Type 0 where
  pub payload : List ℕ
  pub elements : AreElements pool k payload
  pub some : payload ≢ []
  pub split : b ≡ shortest_record n (len payload) ++ rest

-- at least one element of a list, each in its record
pub record SomeEach (pool : Types) (f : FieldView) (levels : ℕ) (b rest : List ℕ) : Type 0 where
  pub each : EachFirst pool f levels b rest
  pub some : each.values ≢ no_datums

-- MAPS

-- the records of an entry
abbrev pub entry_records : Types → Kind → Kind → Scalar → Datum → List Record
entry_records pool key k x d = record_of 1 (written key x) ∷ record_of 2 (payload_of pool k d) ∷ []

-- an entry after its length, and the payload that its key is written as
pub record EntryFirst (pool : Types) (key k : Kind) (levels : ℕ) (b : List ℕ) (p : Payload) (rest : List ℕ) : Type 0 where
  pub name : Scalar
  pub named : IsOfKind key name
  pub written : written key name ≡ p
  pub value : Datum
  pub within : IsDatum pool k value
  pub deep : suc (levels_in_entry value) ≤ levels
  pub split : b ≡ payload_bytes (sealed (entry_records pool key k name value)) ++ rest

-- a record for each entry of a map, with keys that rise
pub record EntriesFirst (pool : Types) (f : FieldView) (levels : ℕ) (b rest : List ℕ) : Type 0 where
  pub entries : Entries
  pub within : AreEntries pool (key_kind f.shape f.kind) f.kind entries
  pub rise : KeysRise entries
  pub deep : entries_depth entries ≤ levels
  pub split : b ≡ shortest_records (canon_entries pool f entries) ++ rest

-- at least one of them
pub record SomeEntries (pool : Types) (f : FieldView) (levels : ℕ) (b rest : List ℕ) : Type 0 where
  pub each : EntriesFirst pool f levels b rest
  pub some : each.entries ≢ no_entries

-- keys above one that is written as a payload
pub record MoreFirst (pool : Types) (f : FieldView) (levels : ℕ) (last : Payload) (b rest : List ℕ) : Type 0 where
  pub more : EntriesFirst pool f levels b rest
  pub above : (x : Scalar) → IsOfKind (key_kind f.shape f.kind) x → written (key_kind f.shape f.kind) x ≡ last → IsBelow x more.entries

-- MESSAGES

-- the records of a field, from the first one's tag on
pub record HeldFirst (pool : Types) (f : FieldView) (levels : ℕ) (b rest : List ℕ) : Type 0 where
  pub held : Holding
  pub of_shape : IsOfShape f.shape held
  pub within : IsHeld pool f.shape f.kind held
  pub declared : holds_declared pool f.kind held ≡ true
  pub deep : holding_depth held ≤ levels
  pub shorter : length rest < length b
  pub split : b ≡ shortest_records (canon_holding pool f held) ++ rest

-- of a oneof at most one member is set
abbrev pub OneMember : List FieldView → ℕ → Fields → Type 0
OneMember all o no_fields = Unit {0}
OneMember all o (field n h fs) = (oneof_at all n ≡ Some o → HasNoMember all o fs) × OneMember all o fs

-- of each oneof below a number
abbrev pub OneMemberEach : List FieldView → ℕ → Fields → Type 0
OneMemberEach all limit fs = (o : ℕ) → o < limit → OneMember all o fs

-- fields from a number on, none of a oneof that has a mark
pub record FieldsFirst (pool : Types) (m next marks levels : ℕ) (b rest : List ℕ) : Type 0 where
  pub fields : Fields
  pub within : AreFields pool (message_fields pool m) fields
  pub rise : RisesFrom next fields
  pub one_each : OneMemberEach (message_fields pool m) 128 fields
  pub apart : (o : ℕ) → o < 128 → IsBitSet marks o → HasNoMember (message_fields pool m) o fields
  pub deep : fields_depth fields ≤ levels
  pub split : b ≡ shortest_records (canon_fields pool (message_fields pool m) fields) ++ rest

-- what follows the fields of a message: unknown records, and an end
pub record IsEnd (pool : Types) (m : ℕ) (s : List ℕ) : Type 0 where
  pub records : List Record
  pub unknown : AreUnknown pool (message_fields pool m) records
  pub rest : List ℕ
  pub stop : IsStop rest
  pub split : s ≡ shortest_records records ++ rest

-- after the tag of a number and a wire type a number follows that a closed enum does not declare
pub record IsUndeclaredAt (pool : Types) (closed : Option ℕ) (n w : ℕ) (b : List ℕ) : Type 0 where
  pub payload : Payload
  pub rest : List ℕ
  pub at : IsPayloadAt n w payload b rest
  pub undeclared : is_undeclared pool closed payload ≡ true

-- no record of a number and a wire type comes first, but of an undeclared number of a closed enum
abbrev pub EndsAt : Types → Option ℕ → ℕ → ℕ → List ℕ → Type 0
EndsAt pool closed n w s = (t : List ℕ) → s ≡ tagged n w t → IsUndeclaredAt pool closed n w t

-- the wire type of the records of a field that is not packed
abbrev pub record_type : Shape → Kind → ℕ
record_type (shape.Map _) k = 2
record_type (shape.List _) k = wire_type_of k
record_type shape.Explicit k = wire_type_of k
record_type shape.Implicit k = wire_type_of k
record_type (shape.OneofMember _) k = wire_type_of k

-- no further record of a field comes first
abbrev pub GoesNoFurther : Types → FieldView → List ℕ → Type 0
GoesNoFurther pool f s = EndsAt pool (closed_shaped f.shape f.kind) f.number (record_type f.shape f.kind) s

-- a message of a type
pub record MessageFirst (pool : Types) (m levels : ℕ) (b rest : List ℕ) : Type 0 where
  pub message : Message
  pub within : IsBody pool m message
  pub deep : message_depth message ≤ levels
  pub split : b ≡ canon_bytes pool m message ++ rest

-- a message of a type after its length, one level down
pub record InnerFirst (pool : Types) (m levels : ℕ) (b rest : List ℕ) : Type 0 where
  pub message : Message
  pub within : IsBody pool m message
  pub deep : message_depth message < levels
  pub split : b ≡ payload_bytes (len (canon_bytes pool m message)) ++ rest

-- a message of a type and the end tag of its group, one level down
pub record GroupFirst (pool : Types) (m n levels : ℕ) (b rest : List ℕ) : Type 0 where
  pub message : Message
  pub within : IsBody pool m message
  pub deep : message_depth message < levels
  pub split : b ≡ canon_bytes pool m message ++ tagged n 4 rest

-- MARKS

-- what marks become with one that was not set
pub record IsMore (marks index new : ℕ) : Type 0 where
  pub free : ¬ IsBitSet marks index
  pub marked : IsBitSet new index
  pub kept : (i : ℕ) → IsBitSet marks i → IsBitSet new i
  pub only : (i : ℕ) → IsBitSet new i → IsBitSet marks i ⊎ (i ≡ index)

-- The mark at an index is that of the oneof which follows `first` by it. That of a oneof, if it is one of the 128, was not set.
pub record IsMarked (of : Option ℕ) (first marks new : ℕ) : Type 0 where
  pub free : (i : ℕ) → i < 128 → of ≡ Some (first + i) → ¬ IsBitSet marks i
  pub marked : (i : ℕ) → i < 128 → of ≡ Some (first + i) → IsBitSet new i
  pub kept : (i : ℕ) → IsBitSet marks i → IsBitSet new i
  pub only : (i : ℕ) → IsBitSet new i → IsBitSet marks i ⊎ (of ≡ Some (first + i))

-- the oneof is one of the 128, and has a mark
pub record IsTaken (of : Option ℕ) (first marks : ℕ) : Type 0 where
  pub index : ℕ
  pub below : index < 128
  pub member : of ≡ Some (first + index)
  pub set : IsBitSet marks index

-- records that can be read
pub record CanBeRead (levels : ℕ) (rs : List Record) : Type 0 where
  pub in_range : AreInRange rs
  pub numbered : AreNumbered rs
  pub deep : records_depth rs ≤ levels

-- no record is of a oneof; the oneof of a number is a function
abbrev pub HasNoRecord : (ℕ → Option ℕ) → ℕ → List Record → Type 0
HasNoRecord of o rs = AllByRecursion (λ r. of r.number ≢ Some o) rs

-- of a oneof there is at most one record
abbrev pub OneRecord : (ℕ → Option ℕ) → ℕ → List Record → Type 0
OneRecord of o [] = Unit {0}
OneRecord of o (r ∷ rs) = (of r.number ≡ Some o → HasNoRecord of o rs) × OneRecord of o rs

-- of each of 128 oneofs
abbrev pub OneRecordEach : (ℕ → Option ℕ) → ℕ → List Record → Type 0
OneRecordEach of first rs = (i : ℕ) → i < 128 → OneRecord of (first + i) rs
