-- Bytes that are given as the encoding of a message, of the type of a number in a pool, within limits.
use Rattle.std.specs.Prelude.{◌<◌, ◌≤◌, ℕ, List, length}
use Rattle.pb_wire.specs.Fault.{Fault}
use Rattle.pb_value.specs.Data.{Message}
use Rattle.pb_value.specs.Dynamic.{Dynamic}
use Rattle.pb_value.specs.Canon.{canon_bytes}
use Rattle.pb_value.specs.Derives.{Text}
use Rattle.pb_canonical.specs.Canonical.{IsCanonical}
use Rattle.pb_decode.specs.Push.{IsFaultOf}
use Rattle.pb_c_message.specs.Holds.{message_of}
use Rattle.pb_c.specs.Typed.Frames as frames
use Rattle.pb_c.specs.declared.typed.frames.FrameReport.{FrameReport}
use Rattle.pb_c.specs.declared.typed.input.TypedInput.{TypedInput}

-- the pool has a type of the number
abbrev pub IsTyped : TypedInput → Type 0
IsTyped i = i.type_number < length i.pool.now.messages

-- the pool has no type of the number
abbrev pub IsUntyped : TypedInput → Type 0
IsUntyped i = length i.pool.now.messages ≤ i.type_number

-- the bytes encode the message
abbrev pub Encodes : TypedInput → Message → Type 0
Encodes i v = Text i.pool.now i.type_number i.limits i.bytes.now v

-- the bytes encode no message, and the fault says why
abbrev pub HasFault : TypedInput → Fault → Type 0
HasFault i f = IsFaultOf i.pool.now i.type_number i.limits i.bytes.now f

-- a message of the type, beside its pool and its type
abbrev pub typed_message : TypedInput → Message → Dynamic
typed_message i v = message_of i.pool.now i.type_number v

-- the canonical bytes of a message of the type
abbrev pub canon_of : TypedInput → Message → List ℕ
canon_of i v = canon_bytes i.pool.now i.type_number v

-- the bytes are canonical
abbrev pub AreCanonical : TypedInput → Type 0
AreCanonical i = IsCanonical i.pool.now i.type_number i.bytes.now

-- the bytes begin with a frame, whose message is here
abbrev pub BeginsWithFrame : TypedInput → FrameReport → Type 0
BeginsWithFrame i report = frames.IsFramed i.pool.now i.type_number i.limits i.bytes.now report

-- the bytes end before their frame does
abbrev pub IsPartOfFrame : TypedInput → Type 0
IsPartOfFrame i = frames.IsPart i.pool.now i.type_number i.limits i.bytes.now

-- what the bytes begin with is no frame, whatever follows them
abbrev pub BeginsWithNoFrame : TypedInput → Fault → Type 0
BeginsWithNoFrame i f = frames.IsNoFrame i.pool.now i.type_number i.limits i.bytes.now f
