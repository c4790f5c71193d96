-- Packed lists of one element: what another kind reads of them.
use Rattle.std.proofs.Common.{◌≡◌, ◌≢◌, ℕ, ◌%◌, ◌^◌, List, [], ◌∷◌, true, Option, Some, refl, sym, ◌∙◌, ap, subst, append-nil, arith}
use Rattle.std.specs.List.{filter_map, cons_option}
use Rattle.pb_wire.specs.Record.{Payload, varint, len, fixed32}
use Rattle.pb_wire.specs.Varint.{groups_value, shortest, shortest_within}
use Rattle.pb_schema.specs.declared.types.Kind.{Kind}
use Rattle.pb_schema.specs.declared.types.Kind.TheVariants as kind
use Rattle.pb_schema.specs.Types.{Types}
use Rattle.pb_schema.specs.Scalar.{Scalar}
use Rattle.pb_schema.specs.Kinds.{wire_type_of, is_packable, IsOfKind, read, written}
use Rattle.pb_schema.specs.Packed.{elements, element_bytes, numbers_of}
use Rattle.pb_schema.proofs.PackedLemmas.{numbers_back}
use Rattle.pb_value.specs.Data.{scalar, no_datums, datum}
use Rattle.pb_value.proofs.Options.{some_of}
use Rattle.pb_value.proofs.WrittenLemmas.{wire_type-written, payloads, packed_numbers}
use Rattle.pb_compat.specs.Scalars.{meaning}
use Rattle.pb_compat.specs.Samples.{IsReadOtherwise, IsReadOtherwisePacked}
use Rattle.pb_compat.proofs.FieldLemmas.{read_wire, packable_wire, wire_packable, elements-packed}

-- the numbers of a list of one element
pub one_number : (pool : Types) (a : Kind) (x : Scalar) → is_packable a ≡ true → IsOfKind a x → numbers_of (wire_type_of a) (element_bytes a x) ≡ written a x ∷ []
one_number pool a x packs h =
    ap (numbers_of (wire_type_of a)) (sym (append-nil (element_bytes a x)))
    ∙ numbers_back a (payloads a (datum (scalar x) no_datums)) _ packs (packed_numbers pool a (datum (scalar x) no_datums) packs (h, tt))

-- THE SAME WIRE TYPE

first_same : {X : Type 0} {x y : X} → ◌≡◌ {A = List X} (x ∷ []) (y ∷ []) → x ≡ y
first_same e = cc

-- where the new kind reads another value, it does so in a packed list
pub packed_of_read : (pool : Types) (a b : Kind) (x : Scalar) → is_packable a ≡ true → IsOfKind a x → IsReadOtherwise a b (scalar x) → IsReadOtherwisePacked a b (scalar x)
packed_of_read pool a b x packs h o y e =
    let r = some_of (read b (written a x)) (λ z. meaning z ≢ meaning x) o.0 in
    let wires : wire_type_of b ≡ wire_type_of a = sym (read_wire b (written a x) r.0 r.1) ∙ wire_type-written a x h in
    let packs_too : is_packable b ≡ true = wire_packable b (λ q. (packable_wire a packs).0 (sym wires ∙ q), λ q. (packable_wire a packs).1 (sym wires ∙ q)) in
    let all : elements b (len (element_bytes a x)) ≡ r.0 ∷ [] =
    elements-packed b (element_bytes a x) packs_too ∙ ap (λ (w : ℕ). filter_map (read b) (numbers_of w (element_bytes a x))) wires ∙ ap (filter_map (read b)) (one_number pool a x packs h)
    ∙ ap (λ (q : Option Scalar). cons_option q []) r.1 in
    subst (λ (z : Scalar). meaning z ≢ meaning x) (first_same (sym all ∙ e)) r.2

-- OTHER WIRE TYPES

none_one : {X : Type 0} {y : X} → ◌≡◌ {A = List X} [] (y ∷ []) → ⊥
none_one e = cc

two_one : {X : Type 0} {x z y : X} {zs : List X} → ◌≡◌ {A = List X} (x ∷ z ∷ zs) (y ∷ []) → ⊥
two_one e = cc

-- a kind reads each number of its wire type
reads_varint : (b : Kind) (n : ℕ) → wire_type_of b ≡ 0 → (y : Scalar) × (read b (varint n) ≡ Some y)
reads_varint kind.Int32 n w = (_, refl)
reads_varint kind.Int64 n w = (_, refl)
reads_varint kind.Uint32 n w = (_, refl)
reads_varint kind.Uint64 n w = (_, refl)
reads_varint kind.Sint32 n w = (_, refl)
reads_varint kind.Sint64 n w = (_, refl)
reads_varint kind.Bool n w = (_, refl)
reads_varint (kind.Enum e) n w = (_, refl)
reads_varint (kind.ClosedEnum e) n w = (_, refl)
reads_varint b n w = absurd (omega (arith, w))

reads_four : (b : Kind) (n : ℕ) → wire_type_of b ≡ 5 → (y : Scalar) × (read b (fixed32 n) ≡ Some y)
reads_four kind.Fixed32 n w = (_, refl)
reads_four kind.Sfixed32 n w = (_, refl)
reads_four kind.Float n w = (_, refl)
reads_four b n w = absurd (omega (arith, w))

two_read : (b : Kind) (p q : Payload) (ps : List Payload) (y : Scalar) → (x : Scalar) × (read b p ≡ Some x) → (z : Scalar) × (read b q ≡ Some z) → filter_map (read b) (p ∷ q ∷ ps) ≡ y ∷ [] → ⊥
two_read b p q ps y x z e =
    two_one
    (sym (ap (λ (o : Option Scalar). cons_option o (filter_map (read b) (q ∷ ps))) x.1 ∙ ap (λ (o : Option Scalar). x.0 ∷ cons_option o (filter_map (read b) ps)) z.1) ∙ e)

-- the number of a byte 0
abbrev zero_varint : Payload
zero_varint = varint (groups_value (0 ∷ []) % 2 ^ 64)

-- the elements of a list of a kind that is packed
module _ (b : Kind) (packs : is_packable b ≡ true) (y : Scalar) where
  pub as_numbers : (s : List ℕ) (w : ℕ) → wire_type_of b ≡ w → elements b (len s) ≡ y ∷ [] → filter_map (read b) (numbers_of w s) ≡ y ∷ []
  as_numbers s w e h = ap (λ (v : ℕ). filter_map (read b) (numbers_of v s)) (sym e) ∙ sym (elements-packed b s packs) ∙ h

  -- one byte is no whole element of a wire type of four or eight bytes
  byte_in_fours : (c : ℕ) → wire_type_of b ≡ 5 → elements b (len (c ∷ [])) ≡ y ∷ [] → ⊥
  byte_in_fours c w h = none_one (as_numbers (c ∷ []) 5 w h)

  byte_in_eights : (c : ℕ) → wire_type_of b ≡ 1 → elements b (len (c ∷ [])) ≡ y ∷ [] → ⊥
  byte_in_eights c w h = none_one (as_numbers (c ∷ []) 1 w h)

  four_in_eights : wire_type_of b ≡ 1 → elements b (len (1 ∷ 0 ∷ 0 ∷ 0 ∷ [])) ≡ y ∷ [] → ⊥
  four_in_eights w h = none_one (as_numbers (1 ∷ 0 ∷ 0 ∷ 0 ∷ []) 1 w h)

  -- four or eight bytes are several varints, and eight bytes are two elements of four
  four_as_varints : wire_type_of b ≡ 0 → elements b (len (1 ∷ 0 ∷ 0 ∷ 0 ∷ [])) ≡ y ∷ [] → ⊥
  four_as_varints w h = two_read b _ _ (zero_varint ∷ zero_varint ∷ []) y (reads_varint b _ w) (reads_varint b _ w) (as_numbers (1 ∷ 0 ∷ 0 ∷ 0 ∷ []) 0 w h)

  eight_as_varints : wire_type_of b ≡ 0 → elements b (len (1 ∷ 0 ∷ 0 ∷ 0 ∷ 0 ∷ 0 ∷ 0 ∷ 0 ∷ [])) ≡ y ∷ [] → ⊥
  eight_as_varints w h = two_read b _ _ (zero_varint ∷ zero_varint ∷ zero_varint ∷ zero_varint ∷ zero_varint ∷ zero_varint ∷ []) y (reads_varint b _ w) (reads_varint b _ w) (as_numbers (1 ∷ 0 ∷ 0 ∷ 0 ∷ 0 ∷ 0 ∷ 0 ∷ 0 ∷ []) 0 w h)

  eight_as_fours : wire_type_of b ≡ 5 → elements b (len (1 ∷ 0 ∷ 0 ∷ 0 ∷ 0 ∷ 0 ∷ 0 ∷ 0 ∷ [])) ≡ y ∷ [] → ⊥
  eight_as_fours w h = two_read b _ _ [] y (reads_four b _ w) (reads_four b _ w) (as_numbers (1 ∷ 0 ∷ 0 ∷ 0 ∷ 0 ∷ 0 ∷ 0 ∷ 0 ∷ []) 5 w h)

-- WIRE TYPES OF PACKED LISTS

-- varints, four bytes, eight bytes
pub data IsPackedWire (w : ℕ) : Type 0 where
  of_varints : w ≡ 0 → IsPackedWire w
  of_eights : w ≡ 1 → IsPackedWire w
  of_fours : w ≡ 5 → IsPackedWire w

pub packed_wire : (b : Kind) → is_packable b ≡ true → IsPackedWire (wire_type_of b)
packed_wire kind.Text packs = absurd (cc)
packed_wire kind.Bytes packs = absurd (cc)
packed_wire (kind.Message m) packs = absurd (cc)
packed_wire (kind.Group m) packs = absurd (cc)
packed_wire kind.Fixed64 packs = of_eights refl
packed_wire kind.Sfixed64 packs = of_eights refl
packed_wire kind.Double packs = of_eights refl
packed_wire kind.Fixed32 packs = of_fours refl
packed_wire kind.Sfixed32 packs = of_fours refl
packed_wire kind.Float packs = of_fours refl
packed_wire b packs = of_varints refl

-- one varint of a byte, where the new kind has another wire type
byte_apart : (b : Kind) (c : ℕ) (y : Scalar) → is_packable b ≡ true → wire_type_of b ≢ 0 → elements b (len (c ∷ [])) ≡ y ∷ [] → ⊥
byte_apart b c y packs other h = by (packed_wire b packs)
  where
    by : IsPackedWire (wire_type_of b) → ⊥
    by (of_varints w) = other w
    by (of_eights w) = byte_in_eights b packs y c w h
    by (of_fours w) = byte_in_fours b packs y c w h

four_apart : (b : Kind) (y : Scalar) → is_packable b ≡ true → wire_type_of b ≢ 5 → elements b (len (1 ∷ 0 ∷ 0 ∷ 0 ∷ [])) ≡ y ∷ [] → ⊥
four_apart b y packs other h = by (packed_wire b packs)
  where
    by : IsPackedWire (wire_type_of b) → ⊥
    by (of_varints w) = four_as_varints b packs y w h
    by (of_eights w) = four_in_eights b packs y w h
    by (of_fours w) = other w

eight_apart : (b : Kind) (y : Scalar) → is_packable b ≡ true → wire_type_of b ≢ 1 → elements b (len (1 ∷ 0 ∷ 0 ∷ 0 ∷ 0 ∷ 0 ∷ 0 ∷ 0 ∷ [])) ≡ y ∷ [] → ⊥
eight_apart b y packs other h = by (packed_wire b packs)
  where
    by : IsPackedWire (wire_type_of b) → ⊥
    by (of_varints w) = eight_as_varints b packs y w h
    by (of_eights w) = other w
    by (of_fours w) = eight_as_fours b packs y w h

pub byte_one : shortest 1 ≡ 1 ∷ []
unfolding shortest shortest_within
byte_one = refl

pub byte_two : shortest 2 ≡ 2 ∷ []
unfolding shortest shortest_within
byte_two = refl

-- the bytes of the number 1 in a packed list
pub data IsOneIn (a : Kind) (s : List ℕ) : Type 0 where
  as_varint : (c : ℕ) → s ≡ c ∷ [] → wire_type_of a ≡ 0 → IsOneIn a s
  as_four : s ≡ 1 ∷ 0 ∷ 0 ∷ 0 ∷ [] → wire_type_of a ≡ 5 → IsOneIn a s
  as_eight : s ≡ 1 ∷ 0 ∷ 0 ∷ 0 ∷ 0 ∷ 0 ∷ 0 ∷ 0 ∷ [] → wire_type_of a ≡ 1 → IsOneIn a s

-- a list of it alone, where the new kind has another wire type
pub one_apart : (a b : Kind) (x : Scalar) → IsOneIn a (element_bytes a x) → is_packable b ≡ true → wire_type_of b ≢ wire_type_of a → IsReadOtherwisePacked a b (scalar x)
one_apart a b x (as_varint c is w) packs other y e = absurd (byte_apart b c y packs (λ q. other (q ∙ sym w)) (ap (λ (s : List ℕ). elements b (len s)) (sym is) ∙ e))
one_apart a b x (as_four is w) packs other y e = absurd (four_apart b y packs (λ q. other (q ∙ sym w)) (ap (λ (s : List ℕ). elements b (len s)) (sym is) ∙ e))
one_apart a b x (as_eight is w) packs other y e = absurd (eight_apart b y packs (λ q. other (q ∙ sym w)) (ap (λ (s : List ℕ). elements b (len s)) (sym is) ∙ e))
