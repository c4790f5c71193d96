-- The table of kinds: how each is sent, read and written (encoding guide, "Scalar Value Types", "Signed Integers", "Bools and Enums").
use Rattle.std.specs.Prelude.{ℕ, pos, ◌<◌, ◌%◌, ◌^◌, [], Bool, true, false, not, cond, ◌==◌, ◌||◌, Option, Some, None, is_some, IsUtf8, FitsSigned}
use Rattle.std.specs.List.{AllByRecursion}
use Rattle.std.specs.Int.{cast_signed, cast_unsigned, w32, w64}
use Rattle.pb_wire.specs.Record.{Payload, varint, fixed64, len, fixed32}
use Rattle.pb_wire.specs.Ranges.{IsByte}
use Rattle.pb_wire.specs.Zigzag.{zigzag, unzigzag}
use Rattle.pb_schema.specs.declared.types.Kind.{Kind}
use Rattle.pb_schema.specs.declared.types.Kind.TheVariants as kind
use Rattle.pb_schema.specs.Scalar.{Scalar, int32, int64, uint32, uint64, boolean, float, double, enum, text, bytes}

-- the wire type of a kind: 0 for a varint, 1 for eight bytes, 2 for a length and bytes, 3 for a group, 5 for four bytes
abbrev pub wire_type_of : Kind → ℕ
wire_type_of kind.Double = 1
wire_type_of kind.Float = 5
wire_type_of kind.Int64 = 0
wire_type_of kind.Uint64 = 0
wire_type_of kind.Int32 = 0
wire_type_of kind.Fixed64 = 1
wire_type_of kind.Fixed32 = 5
wire_type_of kind.Bool = 0
wire_type_of kind.Text = 2
wire_type_of kind.Bytes = 2
wire_type_of kind.Uint32 = 0
wire_type_of kind.Sfixed32 = 5
wire_type_of kind.Sfixed64 = 1
wire_type_of kind.Sint32 = 0
wire_type_of kind.Sint64 = 0
wire_type_of (kind.Enum _) = 0
wire_type_of (kind.Message _) = 2
wire_type_of (kind.Group _) = 3
wire_type_of (kind.ClosedEnum _) = 0

-- every kind but string, bytes, messages and groups may be in a packed list
abbrev pub is_packable : Kind → Bool
is_packable kind.Double = true
is_packable kind.Float = true
is_packable kind.Int64 = true
is_packable kind.Uint64 = true
is_packable kind.Int32 = true
is_packable kind.Fixed64 = true
is_packable kind.Fixed32 = true
is_packable kind.Bool = true
is_packable kind.Text = false
is_packable kind.Bytes = false
is_packable kind.Uint32 = true
is_packable kind.Sfixed32 = true
is_packable kind.Sfixed64 = true
is_packable kind.Sint32 = true
is_packable kind.Sint64 = true
is_packable (kind.Enum _) = true
is_packable (kind.Message _) = false
is_packable (kind.Group _) = false
is_packable (kind.ClosedEnum _) = true

-- the messages of the kind are written as groups
abbrev pub is_group : Kind → Bool
is_group kind.Double = false
is_group kind.Float = false
is_group kind.Int64 = false
is_group kind.Uint64 = false
is_group kind.Int32 = false
is_group kind.Fixed64 = false
is_group kind.Fixed32 = false
is_group kind.Bool = false
is_group kind.Text = false
is_group kind.Bytes = false
is_group kind.Uint32 = false
is_group kind.Sfixed32 = false
is_group kind.Sfixed64 = false
is_group kind.Sint32 = false
is_group kind.Sint64 = false
is_group (kind.Enum _) = false
is_group (kind.Message _) = false
is_group (kind.Group _) = true
is_group (kind.ClosedEnum _) = false

-- an integer, a bool or a string may be a map's key
abbrev pub is_key_kind : Kind → Bool
is_key_kind kind.Double = false
is_key_kind kind.Float = false
is_key_kind kind.Int64 = true
is_key_kind kind.Uint64 = true
is_key_kind kind.Int32 = true
is_key_kind kind.Fixed64 = true
is_key_kind kind.Fixed32 = true
is_key_kind kind.Bool = true
is_key_kind kind.Text = true
is_key_kind kind.Bytes = false
is_key_kind kind.Uint32 = true
is_key_kind kind.Sfixed32 = true
is_key_kind kind.Sfixed64 = true
is_key_kind kind.Sint32 = true
is_key_kind kind.Sint64 = true
is_key_kind (kind.Enum _) = false
is_key_kind (kind.Message _) = false
is_key_kind (kind.Group _) = false
is_key_kind (kind.ClosedEnum _) = false

-- the message type of a kind
abbrev pub message_of_kind : Kind → Option ℕ
message_of_kind kind.Double = None
message_of_kind kind.Float = None
message_of_kind kind.Int64 = None
message_of_kind kind.Uint64 = None
message_of_kind kind.Int32 = None
message_of_kind kind.Fixed64 = None
message_of_kind kind.Fixed32 = None
message_of_kind kind.Bool = None
message_of_kind kind.Text = None
message_of_kind kind.Bytes = None
message_of_kind kind.Uint32 = None
message_of_kind kind.Sfixed32 = None
message_of_kind kind.Sfixed64 = None
message_of_kind kind.Sint32 = None
message_of_kind kind.Sint64 = None
message_of_kind (kind.Enum _) = None
message_of_kind (kind.Message m) = Some m.0
message_of_kind (kind.Group m) = Some m.0
message_of_kind (kind.ClosedEnum _) = None

-- the enum of a kind, open or closed
abbrev pub enum_of_kind : Kind → Option ℕ
enum_of_kind kind.Double = None
enum_of_kind kind.Float = None
enum_of_kind kind.Int64 = None
enum_of_kind kind.Uint64 = None
enum_of_kind kind.Int32 = None
enum_of_kind kind.Fixed64 = None
enum_of_kind kind.Fixed32 = None
enum_of_kind kind.Bool = None
enum_of_kind kind.Text = None
enum_of_kind kind.Bytes = None
enum_of_kind kind.Uint32 = None
enum_of_kind kind.Sfixed32 = None
enum_of_kind kind.Sfixed64 = None
enum_of_kind kind.Sint32 = None
enum_of_kind kind.Sint64 = None
enum_of_kind (kind.Enum e) = Some e.0
enum_of_kind (kind.Message _) = None
enum_of_kind (kind.Group _) = None
enum_of_kind (kind.ClosedEnum e) = Some e.0

-- the enum of a kind whose values are those that it declares
abbrev pub closed_enum : Kind → Option ℕ
closed_enum kind.Double = None
closed_enum kind.Float = None
closed_enum kind.Int64 = None
closed_enum kind.Uint64 = None
closed_enum kind.Int32 = None
closed_enum kind.Fixed64 = None
closed_enum kind.Fixed32 = None
closed_enum kind.Bool = None
closed_enum kind.Text = None
closed_enum kind.Bytes = None
closed_enum kind.Uint32 = None
closed_enum kind.Sfixed32 = None
closed_enum kind.Sfixed64 = None
closed_enum kind.Sint32 = None
closed_enum kind.Sint64 = None
closed_enum (kind.Enum _) = None
closed_enum (kind.Message _) = None
closed_enum (kind.Group _) = None
closed_enum (kind.ClosedEnum e) = Some e.0

-- groups and closed enums are in files of proto2 alone
abbrev pub is_of_proto2 : Kind → Bool
is_of_proto2 k = is_group k || is_some (closed_enum k)

-- The value that a payload of a kind encodes. An int32, uint32, sint32 or enum has the low 32 bits of the number, and ZigZag is
-- undone after that; a bool is true for every other number than 0; a float or double stays its bits.
abbrev pub read : Kind → Payload → Option Scalar
read kind.Int32 (varint n) = Some (int32 (cast_signed w32 (n % 2 ^ 32)))
read kind.Int64 (varint n) = Some (int64 (cast_signed w64 n))
read kind.Uint32 (varint n) = Some (uint32 (n % 2 ^ 32))
read kind.Uint64 (varint n) = Some (uint64 n)
read kind.Sint32 (varint n) = Some (int32 (unzigzag (n % 2 ^ 32)))
read kind.Sint64 (varint n) = Some (int64 (unzigzag n))
read kind.Bool (varint n) = Some (boolean (not (n == 0)))
read (kind.Enum _) (varint n) = Some (enum (cast_signed w32 (n % 2 ^ 32)))
read (kind.ClosedEnum _) (varint n) = Some (enum (cast_signed w32 (n % 2 ^ 32)))
read kind.Fixed64 (fixed64 n) = Some (uint64 n)
read kind.Sfixed64 (fixed64 n) = Some (int64 (cast_signed w64 n))
read kind.Double (fixed64 n) = Some (double n)
read kind.Fixed32 (fixed32 n) = Some (uint32 n)
read kind.Sfixed32 (fixed32 n) = Some (int32 (cast_signed w32 n))
read kind.Float (fixed32 n) = Some (float n)
read kind.Text (len s) = Some (text s)
read kind.Bytes (len s) = Some (bytes s)
read kind.Double p = None
read kind.Float p = None
read kind.Int64 p = None
read kind.Uint64 p = None
read kind.Int32 p = None
read kind.Fixed64 p = None
read kind.Fixed32 p = None
read kind.Bool p = None
read kind.Text p = None
read kind.Bytes p = None
read kind.Uint32 p = None
read kind.Sfixed32 p = None
read kind.Sfixed64 p = None
read kind.Sint32 p = None
read kind.Sint64 p = None
read (kind.Enum _) p = None
read (kind.Message _) p = None
read (kind.Group _) p = None
read (kind.ClosedEnum _) p = None

-- The payload that a value is written as; a negative int32 or enum as all 64 bits of its two's complement. What is no value of the kind has none,
-- and the number 0 is used in its place.
abbrev pub written : Kind → Scalar → Payload
written kind.Int32 (int32 z) = varint (cast_unsigned w64 z)
written kind.Int64 (int64 z) = varint (cast_unsigned w64 z)
written kind.Uint32 (uint32 n) = varint n
written kind.Uint64 (uint64 n) = varint n
written kind.Sint32 (int32 z) = varint (zigzag z)
written kind.Sint64 (int64 z) = varint (zigzag z)
written kind.Bool (boolean b) = varint (cond b 1 0)
written (kind.Enum _) (enum z) = varint (cast_unsigned w64 z)
written (kind.ClosedEnum _) (enum z) = varint (cast_unsigned w64 z)
written kind.Fixed64 (uint64 n) = fixed64 n
written kind.Sfixed64 (int64 z) = fixed64 (cast_unsigned w64 z)
written kind.Double (double n) = fixed64 n
written kind.Fixed32 (uint32 n) = fixed32 n
written kind.Sfixed32 (int32 z) = fixed32 (cast_unsigned w32 z)
written kind.Float (float n) = fixed32 n
written kind.Text (text s) = len s
written kind.Bytes (bytes s) = len s
written kind.Double v = varint 0
written kind.Float v = varint 0
written kind.Int64 v = varint 0
written kind.Uint64 v = varint 0
written kind.Int32 v = varint 0
written kind.Fixed64 v = varint 0
written kind.Fixed32 v = varint 0
written kind.Bool v = varint 0
written kind.Text v = varint 0
written kind.Bytes v = varint 0
written kind.Uint32 v = varint 0
written kind.Sfixed32 v = varint 0
written kind.Sfixed64 v = varint 0
written kind.Sint32 v = varint 0
written kind.Sint64 v = varint 0
written (kind.Enum _) v = varint 0
written (kind.Message _) v = varint 0
written (kind.Group _) v = varint 0
written (kind.ClosedEnum _) v = varint 0

-- the value is of the kind, and in the kind's range; which numbers a closed enum declares isn't asked here
abbrev pub IsOfKind : Kind → Scalar → Type 0
IsOfKind kind.Int32 (int32 z) = FitsSigned w32 z
IsOfKind kind.Int64 (int64 z) = FitsSigned w64 z
IsOfKind kind.Uint32 (uint32 n) = n < 2 ^ 32
IsOfKind kind.Uint64 (uint64 n) = n < 2 ^ 64
IsOfKind kind.Sint32 (int32 z) = FitsSigned w32 z
IsOfKind kind.Sint64 (int64 z) = FitsSigned w64 z
IsOfKind kind.Bool (boolean b) = Unit {0}
IsOfKind (kind.Enum _) (enum z) = FitsSigned w32 z
IsOfKind (kind.ClosedEnum _) (enum z) = FitsSigned w32 z
IsOfKind kind.Fixed64 (uint64 n) = n < 2 ^ 64
IsOfKind kind.Sfixed64 (int64 z) = FitsSigned w64 z
IsOfKind kind.Double (double n) = n < 2 ^ 64
IsOfKind kind.Fixed32 (uint32 n) = n < 2 ^ 32
IsOfKind kind.Sfixed32 (int32 z) = FitsSigned w32 z
IsOfKind kind.Float (float n) = n < 2 ^ 32
IsOfKind kind.Text (text s) = IsUtf8 s
IsOfKind kind.Bytes (bytes s) = AllByRecursion IsByte s
IsOfKind kind.Double v = ⊥
IsOfKind kind.Float v = ⊥
IsOfKind kind.Int64 v = ⊥
IsOfKind kind.Uint64 v = ⊥
IsOfKind kind.Int32 v = ⊥
IsOfKind kind.Fixed64 v = ⊥
IsOfKind kind.Fixed32 v = ⊥
IsOfKind kind.Bool v = ⊥
IsOfKind kind.Text v = ⊥
IsOfKind kind.Bytes v = ⊥
IsOfKind kind.Uint32 v = ⊥
IsOfKind kind.Sfixed32 v = ⊥
IsOfKind kind.Sfixed64 v = ⊥
IsOfKind kind.Sint32 v = ⊥
IsOfKind kind.Sint64 v = ⊥
IsOfKind (kind.Enum _) v = ⊥
IsOfKind (kind.Message _) v = ⊥
IsOfKind (kind.Group _) v = ⊥
IsOfKind (kind.ClosedEnum _) v = ⊥

-- the default of a kind; a message has none, and the empty bytes are used in its place; a closed enum has none, and 0 is used
abbrev pub default_of : Kind → Scalar
default_of kind.Double = double 0
default_of kind.Float = float 0
default_of kind.Int64 = int64 (pos 0)
default_of kind.Uint64 = uint64 0
default_of kind.Int32 = int32 (pos 0)
default_of kind.Fixed64 = uint64 0
default_of kind.Fixed32 = uint32 0
default_of kind.Bool = boolean false
default_of kind.Text = text []
default_of kind.Bytes = bytes []
default_of kind.Uint32 = uint32 0
default_of kind.Sfixed32 = int32 (pos 0)
default_of kind.Sfixed64 = int64 (pos 0)
default_of kind.Sint32 = int32 (pos 0)
default_of kind.Sint64 = int64 (pos 0)
default_of (kind.Enum _) = enum (pos 0)
default_of (kind.Message _) = bytes []
default_of (kind.Group _) = bytes []
default_of (kind.ClosedEnum _) = enum (pos 0)
