-- A payload of the wire type of a kind of scalars is read as one scalar.
use Rattle.std.proofs.Common.{◌≡◌, [], ◌∷◌, arith, refl, Some, None}
use Rattle.pb_wire.specs.Record.{Payload, varint, fixed64, len, fixed32, wire_type}
use Rattle.pb_schema.specs.declared.types.Kind.{Kind}
use Rattle.pb_schema.specs.declared.types.Kind.TheVariants as kind
use Rattle.pb_schema.specs.Scalar.{Scalar}
use Rattle.pb_schema.specs.Kinds.{wire_type_of, message_of_kind, read}
use Rattle.pb_schema.specs.Packed.{elements}

pub read_some : (k : Kind) (p : Payload) → message_of_kind k ≡ None → wire_type p ≡ wire_type_of k → (x : Scalar) × (read k p ≡ Some x) × (elements k p ≡ x ∷ [])
read_some kind.Double (fixed64 n) none same = (_, refl, refl)
read_some kind.Float (fixed32 n) none same = (_, refl, refl)
read_some kind.Int64 (varint n) none same = (_, refl, refl)
read_some kind.Uint64 (varint n) none same = (_, refl, refl)
read_some kind.Int32 (varint n) none same = (_, refl, refl)
read_some kind.Fixed64 (fixed64 n) none same = (_, refl, refl)
read_some kind.Fixed32 (fixed32 n) none same = (_, refl, refl)
read_some kind.Bool (varint n) none same = (_, refl, refl)
read_some kind.Text (len s) none same = (_, refl, refl)
read_some kind.Bytes (len s) none same = (_, refl, refl)
read_some kind.Uint32 (varint n) none same = (_, refl, refl)
read_some kind.Sfixed32 (fixed32 n) none same = (_, refl, refl)
read_some kind.Sfixed64 (fixed64 n) none same = (_, refl, refl)
read_some kind.Sint32 (varint n) none same = (_, refl, refl)
read_some kind.Sint64 (varint n) none same = (_, refl, refl)
read_some (kind.Enum e) (varint n) none same = (_, refl, refl)
read_some (kind.ClosedEnum e) (varint n) none same = (_, refl, refl)
read_some (kind.Message m) p none same = absurd (cc)
read_some (kind.Group m) p none same = absurd (cc)
read_some k p none same = absurd (omega (arith, same))
