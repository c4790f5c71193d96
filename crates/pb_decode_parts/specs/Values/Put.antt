-- What a value and an unknown record make of the part they belong to.
use Rattle.std.specs.Prelude.{ℕ, [], ◌∷◌, ◌++◌, Option, Some, None}
use Rattle.pb_wire.specs.Record.{Payload}
use Rattle.pb_schema.specs.declared.types.Kind.{Kind}
use Rattle.pb_schema.specs.Types.{Types, message_fields}
use Rattle.pb_schema.specs.Scalar.{Scalar, int32, int64, uint32, uint64, boolean, float, double, enum, text, bytes}
use Rattle.pb_value.specs.Data.{Datum, scalar, Message, message, one, body, fields_of, unknown_of}
use Rattle.pb_value.specs.Change.{stored_at, push_at, with_fields}
use Rattle.pb_decode_parts.specs.declared.open.target.Target.{Target}
use Rattle.pb_decode_parts.specs.declared.open.target.Target.TheVariants as target
use Rattle.pb_decode_parts.specs.Open.Parents.{Part, message_part, entry_part, group_part}

-- the kind of the scalar that a record gives
abbrev pub scalar_kind : Target → Option Kind
scalar_kind (target.One k s) = Some k
scalar_kind (target.Element k) = Some k
scalar_kind (target.Key k) = Some k
scalar_kind (target.EntryValue k) = Some k
scalar_kind (target.Packed k) = None
scalar_kind (target.Message m s) = None
scalar_kind (target.Entry key k) = None
scalar_kind target.Unknown = None

-- a value as a map's key
abbrev pub key_in : Datum → Option Scalar
key_in (scalar (int32 z)) = Some (int32 z)
key_in (scalar (int64 z)) = Some (int64 z)
key_in (scalar (uint32 n)) = Some (uint32 n)
key_in (scalar (uint64 n)) = Some (uint64 n)
key_in (scalar (boolean b)) = Some (boolean b)
key_in (scalar (text s)) = Some (text s)
key_in (scalar (float n)) = None
key_in (scalar (double n)) = None
key_in (scalar (enum z)) = None
key_in (scalar (bytes s)) = None
key_in (message w) = None

-- A value into the part that its record belongs to. A record of another part, or of another target, puts no value.
abbrev pub put_datum : Types → ℕ → Target → Part → Datum → Part
put_datum pool n (target.One k s) (message_part m v) d = message_part m (with_fields v (stored_at (message_fields pool m) s n (one d) (fields_of v)))
put_datum pool n (target.One k s) (entry_part key kd x e) d = entry_part key kd x e
put_datum pool n (target.One k s) (group_part us) d = group_part us
put_datum pool n (target.Element k) (message_part m v) d = message_part m (with_fields v (push_at n d (fields_of v)))
put_datum pool n (target.Element k) (entry_part key kd x e) d = entry_part key kd x e
put_datum pool n (target.Element k) (group_part us) d = group_part us
put_datum pool n (target.Key k) (message_part m v) d = message_part m v
put_datum pool n (target.Key k) (entry_part key kd x e) d = entry_part key kd (key_in d) e
put_datum pool n (target.Key k) (group_part us) d = group_part us
put_datum pool n (target.EntryValue k) (message_part m v) d = message_part m v
put_datum pool n (target.EntryValue k) (entry_part key kd x e) d = entry_part key kd x (Some d)
put_datum pool n (target.EntryValue k) (group_part us) d = group_part us
put_datum pool n (target.Packed k) p d = p
put_datum pool n (target.Message m s) p d = p
put_datum pool n (target.Entry key k) p d = p
put_datum pool n target.Unknown p d = p

-- a message with a record after its unknown ones
abbrev pub with_record : ℕ → Payload → Message → Message
with_record n p v = body (fields_of v) (unknown_of v ++ record { number = n; payload = p } ∷ [])

-- an unknown record into the part it belongs to; those of an entry are dropped
abbrev pub put_record : ℕ → Payload → Part → Part
put_record n p (message_part m v) = message_part m (with_record n p v)
put_record n p (entry_part key kd x d) = entry_part key kd x d
put_record n p (group_part us) = group_part (us ++ record { number = n; payload = p } ∷ [])
