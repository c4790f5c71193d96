-- How long the records of small contents are.
use Rattle.std.proofs.Common.{◌≡◌, ℕ, ◌+◌, ◌*◌, ◌<◌, ◌≤◌, ◌^◌, length, [], ◌++◌, refl, sym, subst, arith}
use Rattle.std.specs.Int.{w32, w64, to_le_bytes}
use Rattle.std.proofs.lemmas.List.{length-append}
use Rattle.pb_wire.specs.Varint.{shortest}
use Rattle.pb_wire.specs.Record.{Payload, varint, fixed64, len, group, fixed32, no_more, more}
use Rattle.pb_wire.specs.Spell.{shortest_record}
use Rattle.pb_wire.proofs.ShortestLemmas.{shortest-is_varint}
use Rattle.pb_schema.specs.declared.types.Kind.{Kind}
use Rattle.pb_schema.specs.declared.types.Kind.TheVariants as kind
use Rattle.pb_schema.specs.Types.{Types}
use Rattle.pb_schema.specs.Scalar.{Scalar, int32, int64, uint32, uint64, boolean, float, double, enum, text, bytes}
use Rattle.pb_schema.specs.Kinds.{IsOfKind, written}
use Rattle.pb_value.specs.Data.{Datum, scalar, message, empty}
use Rattle.pb_value.specs.Canon.{payload_of}
use Rattle.pb_value.specs.WellFormed.{IsDatum}
use Rattle.pb_value.proofs.CanonLemmas.{IsInRange-written}
use Rattle.pb_compat.specs.Samples.{octets_in, IsValue}

-- a number below 2 ^ 64, at most c bytes, or an empty group
abbrev pub IsBrief : ℕ → Payload → Type 0
IsBrief c (varint n) = n < 2 ^ 64
IsBrief c (fixed64 n) = Unit {0}
IsBrief c (len s) = length s ≤ c
IsBrief c (group no_more) = Unit {0}
IsBrief c (group (more k p g)) = ⊥
IsBrief c (fixed32 n) = Unit {0}

varint_short : (n : ℕ) → n < 2 ^ 64 → length (shortest n) ≤ 10
varint_short n l = (shortest-is_varint n l).size

pub record_short : (k c : ℕ) (p : Payload) → k < 2 ^ 29 → c < 2 ^ 10 → IsBrief c p → length (shortest_record k p) ≤ 20 + c
record_short k c (varint n) l small b =
    let one = varint_short (8 * k + 0) (omega (arith, l)) in
    let two = varint_short n b in
    let sum = length-append (shortest (8 * k + 0)) (shortest n) in
    omega (arith, one, two, sum)
record_short k c (fixed64 n) l small b =
    let one = varint_short (8 * k + 1) (omega (arith, l)) in
    let two : length (to_le_bytes w64 n) ≡ 8 = refl in
    let sum = length-append (shortest (8 * k + 1)) (to_le_bytes w64 n) in
    omega (arith, one, two, sum)
record_short k c (fixed32 n) l small b =
    let one = varint_short (8 * k + 5) (omega (arith, l)) in
    let two : length (to_le_bytes w32 n) ≡ 4 = refl in
    let sum = length-append (shortest (8 * k + 5)) (to_le_bytes w32 n) in
    omega (arith, one, two, sum)
record_short k c (len s) l small b =
    let one = varint_short (8 * k + 2) (omega (arith, l)) in
    let two = varint_short (length s) (omega (arith, b, small)) in
    let sum = length-append (shortest (8 * k + 2) ++ shortest (length s)) s in
    let inner = length-append (shortest (8 * k + 2)) (shortest (length s)) in
    omega (arith, one, two, sum, inner, b)
record_short k c (group no_more) l small b =
    let one = varint_short (8 * k + 3) (omega (arith, l)) in
    let two = varint_short (8 * k + 4) (omega (arith, l)) in
    let sum = length-append (shortest (8 * k + 3) ++ []) (shortest (8 * k + 4)) in
    let inner = length-append (shortest (8 * k + 3)) [] in
    omega (arith, one, two, sum, inner)
record_short k c (group (more i p g)) l small b = absurd b

written_brief : (a : Kind) (x : Scalar) → IsOfKind a x → octets_in (scalar x) ≤ 1 → IsBrief 1 (written a x)
written_brief kind.Int32 (int32 z) h s = IsInRange-written kind.Int32 (int32 z) h
written_brief kind.Int64 (int64 z) h s = IsInRange-written kind.Int64 (int64 z) h
written_brief kind.Uint32 (uint32 n) h s = IsInRange-written kind.Uint32 (uint32 n) h
written_brief kind.Uint64 (uint64 n) h s = IsInRange-written kind.Uint64 (uint64 n) h
written_brief kind.Sint32 (int32 z) h s = IsInRange-written kind.Sint32 (int32 z) h
written_brief kind.Sint64 (int64 z) h s = IsInRange-written kind.Sint64 (int64 z) h
written_brief kind.Bool (boolean b) h s = IsInRange-written kind.Bool (boolean b) h
written_brief (kind.Enum e) (enum z) h s = IsInRange-written (kind.Enum e) (enum z) h
written_brief (kind.ClosedEnum e) (enum z) h s = IsInRange-written (kind.ClosedEnum e) (enum z) h
written_brief kind.Fixed64 (uint64 n) h s = tt
written_brief kind.Sfixed64 (int64 z) h s = tt
written_brief kind.Double (double n) h s = tt
written_brief kind.Fixed32 (uint32 n) h s = tt
written_brief kind.Sfixed32 (int32 z) h s = tt
written_brief kind.Float (float n) h s = tt
written_brief kind.Text (text t) h s = s
written_brief kind.Bytes (bytes t) h s = s
written_brief a x h s = absurd h

message_brief : (old : Types) (a : Kind) → IsDatum old a (message empty) → IsBrief 1 (payload_of old a (message empty))
message_brief old (kind.Message j) h = omega arith
message_brief old (kind.Group j) h = tt
message_brief old a h = absurd h

pub value_brief : (old : Types) (a : Kind) (d : Datum) → IsValue old a d → IsBrief 1 (payload_of old a d)
value_brief old a (scalar x) v = written_brief a x v.value v.small
value_brief old a (message b) v = subst (λ m. IsBrief 1 (payload_of old a (message m))) (sym v.bare) (message_brief old a (subst (λ m. IsDatum old a (message m)) v.bare v.value))
