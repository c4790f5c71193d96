-- A packed list of one number of a closed enum, read as a list of a kind of another wire type: its bytes are no whole elements, or are those of
-- another number.
use Rattle.std.proofs.Common.{◌≡◌, ◌≢◌, ℕ, ℤ, pos, negsuc, suc, ◌+◌, ◌*◌, ◌^◌, ◌<◌, ◌≤◌, length, List, [], ◌∷◌, true, refl, sym, ◌∙◌, ap, subst, arith, inl, inr, length-append}
use Rattle.std.specs.Prelude.{◌⊎◌}
use Rattle.std.specs.Int.{w32, w64, cast_signed, cast_unsigned, from_le_bytes}
use Rattle.std.specs.Int.RustNames.{FitsSigned}
use Rattle.std.specs.List.{filter_map}
use Rattle.std.proofs.lemmas.Int.{ints}
use Rattle.std.proofs.Math.Nat.{pow-le-pow_right}
use Rattle.pb_wire.specs.Record.{len}
use Rattle.pb_wire.specs.Schema.{Element, four_bytes, eight_bytes}
use Rattle.pb_wire.specs.Sound.{IsElement, varint_element, four_element, eight_element, AreElements, no_elements, element}
use Rattle.pb_wire.specs.Varint.{groups_value, EndsOnce, shortest}
use Rattle.pb_wire.proofs.ShortestLemmas.{shortest-ends, groups_value-shortest, length-shortest-le}
use Rattle.pb_wire.proofs.VarintLemmas.{groups_value_below}
use Rattle.pb_schema.specs.declared.types.EnumId.{EnumId}
use Rattle.pb_schema.specs.declared.types.Kind.{Kind}
use Rattle.pb_schema.specs.declared.types.Kind.TheVariants as kind
use Rattle.pb_schema.specs.Types.{Types}
use Rattle.pb_schema.specs.Scalar.{Scalar, int32, uint32, enum}
use Rattle.pb_schema.specs.Kinds.{wire_type_of, is_packable, read}
use Rattle.pb_schema.specs.Context.{element_of}
use Rattle.pb_schema.specs.Packed.{elements, numbers_of}
use Rattle.pb_value.specs.Data.{scalar}
use Rattle.pb_value.proofs.FieldExtent.{equal_or_not}
use Rattle.pb_compat.specs.Scalars.{integer, meaning}
use Rattle.pb_compat.specs.Samples.{IsUnlikeElement, never_element, otherwise_element, unsound_element}
use Rattle.pb_compat.proofs.ElementLemmas.{as_numbers, IsPackedWire, of_varints, of_eights, of_fours, packed_wire}
use Rattle.pb_compat.proofs.SampleLemmas.{form_of, never_scalar, long_pos, long_neg, small_neg}

-- WHOLE ELEMENTS

four_long : (e : Element) (s : List ℕ) → e ≡ four_bytes → IsElement e s → length s ≡ 4
four_long e s is (varint_element v) = absurd (cc)
four_long e s is (four_element four) = four
four_long e s is (eight_element eight) = absurd (cc)

eight_long : (e : Element) (s : List ℕ) → e ≡ eight_bytes → IsElement e s → length s ≡ 8
eight_long e s is (varint_element v) = absurd (cc)
eight_long e s is (four_element four) = absurd (cc)
eight_long e s is (eight_element eight) = eight

whole_fours : (s : List ℕ) → AreElements four_bytes s → (q : ℕ) × (length s ≡ 4 * q)
whole_fours s no_elements = (0, omega arith)
whole_fours s (element {first = first} {others = others} one more same) =
    let four = four_long four_bytes first refl one in
    let rest = whole_fours others more in
    let most = rest.1 in
    let sum = ap length same ∙ length-append first others in
    (suc rest.0, omega (arith, four, most, sum))

whole_eights : (s : List ℕ) → AreElements eight_bytes s → (q : ℕ) × (length s ≡ 8 * q)
whole_eights s no_elements = (0, omega arith)
whole_eights s (element {first = first} {others = others} one more same) =
    let eight = eight_long eight_bytes first refl one in
    let rest = whole_eights others more in
    let most = rest.1 in
    let sum = ap length same ∙ length-append first others in
    (suc rest.0, omega (arith, eight, most, sum))

element_fours : (b : Kind) → is_packable b ≡ true → wire_type_of b ≡ 5 → element_of b ≡ four_bytes
element_fours kind.Fixed32 packs w = refl
element_fours kind.Sfixed32 packs w = refl
element_fours kind.Float packs w = refl
element_fours b packs w = absurd (omega (arith, w))

element_eights : (b : Kind) → is_packable b ≡ true → wire_type_of b ≡ 1 → element_of b ≡ eight_bytes
element_eights kind.Fixed64 packs w = refl
element_eights kind.Sfixed64 packs w = refl
element_eights kind.Double packs w = refl
element_eights b packs w = absurd (omega (arith, w))

-- HOW LONG THE NUMBER IS

some_byte : (s : List ℕ) → EndsOnce s → 1 ≤ length s
some_byte [] e = absurd e
some_byte (b ∷ s) e = omega arith

small_pos : (n : ℕ) → FitsSigned w32 (pos n) → n < 2 ^ 31
small_pos n h = grind (arith, ints)

-- at most nine bytes hold less than 63 bits
too_long : (c l : ℕ) → 2 ^ 63 ≤ c → c < 2 ^ (7 * l) → l ≤ 9 → ⊥
too_long c l large below few =
    let base : 0 < 2 = omega arith in
    let most : 2 ^ (7 * l) ≤ 2 ^ 63 = pow-le-pow_right {n = 2} base {i = 7 * l} {j = 63} (omega (arith, few)) in
    omega (arith, large, below, most)

-- the bytes of a number of 32 bits
pub record IsNumberBytes (z : ℤ) (s : List ℕ) : Type 0 where
  pub ends : EndsOnce s
  pub some : 1 ≤ length s
  pub long : ((n : ℕ) × (z ≡ pos n) × (groups_value s ≡ n) × (length s ≤ 5)) ⊎ (length s ≡ 10)

number_bytes_of : (z : ℤ) → FitsSigned w32 z → IsNumberBytes z (shortest (cast_unsigned w64 z))
number_bytes_of (pos n) h =
    let same = long_pos n h in
    let small = small_pos n h in
    let ends = shortest-ends (cast_unsigned w64 (pos n)) in
    record {
      ends = ends;
      some = some_byte (shortest (cast_unsigned w64 (pos n))) ends;
      long = inl (n, refl, groups_value-shortest (cast_unsigned w64 (pos n)) ∙ same, length-shortest-le 4 (cast_unsigned w64 (pos n)) (omega (arith, same, small)));
    }
number_bytes_of (negsuc n) h =
    let c : ℕ = cast_unsigned w64 (negsuc n) in
    let sum = long_neg n h in
    let small = small_neg n h in
    let ends = shortest-ends c in
    let most = length-shortest-le 9 c (omega (arith, sum)) in
    let below : c < 2 ^ (7 * length (shortest c)) = subst (λ (v : ℕ). v < 2 ^ (7 * length (shortest c))) (groups_value-shortest c) (groups_value_below (shortest c)) in
    record {
      ends = ends;
      some = some_byte (shortest c) ends;
      long = inr (ten (length (shortest c)) most (λ few. too_long c (length (shortest c)) (omega (arith, sum, small)) below few));
    }
  where
    ten : (l : ℕ) → l ≤ 10 → (l ≤ 9 → ⊥) → l ≡ 10
    ten l most many = by (equal_or_not l 10)
      where
        by : (l ≡ 10) ⊎ (l ≢ 10) → l ≡ 10
        by (inl e) = e
        by (inr d) = absurd (many (omega (arith, most, d)))

-- FOUR BYTES

first_same : {X : Type 0} {x y : X} → ◌≡◌ {A = List X} (x ∷ []) (y ∷ []) → x ≡ y
first_same e = cc

-- of three bytes from 128 on and one below, all eight bits are more than seven each
more_bits : (a b c d n : ℕ) → 128 ≤ a → 128 ≤ b → 128 ≤ c → groups_value (a ∷ b ∷ c ∷ d ∷ []) ≡ n → n < from_le_bytes w32 (a ∷ b ∷ c ∷ d ∷ [])
more_bits a b c d n la lb lc e =
    let bytes : from_le_bytes w32 (a ∷ b ∷ c ∷ d ∷ []) ≡ a + b * 256 + c * 65536 + d * 16777216 = refl in
    omega (arith, la, lb, lc, e, bytes)

unlike_unsigned : (m n : ℕ) → n < m → meaning (uint32 m) ≡ integer (pos n) → ⊥
unlike_unsigned m n l e = let same : m ≡ n = cc in omega (arith, l, same)

unlike_signed : (m n : ℕ) → n < m → n < 2 ^ 31 → meaning (int32 (cast_signed w32 m)) ≡ integer (pos n) → ⊥
unlike_signed m n l small e = let same : cast_signed w32 m ≡ pos n = cc in grind (arith, ints, same, l, small)

-- four bytes as a number of four bytes
four_otherwise : (b : Kind) (s : List ℕ) (n : ℕ) (y : Scalar) → form_of b ≡ 0 → is_packable b ≡ true → wire_type_of b ≡ 5 → EndsOnce s → length s ≡ 4 → groups_value s ≡ n → n < 2 ^ 31 → elements b (len s) ≡ y ∷ [] → meaning y ≢ integer (pos n)
four_otherwise b (p ∷ q ∷ r ∷ t ∷ []) n y form packs w ends four value small all = by b form (as_numbers b packs y (p ∷ q ∷ r ∷ t ∷ []) 5 w all)
  where
    more : n < from_le_bytes w32 (p ∷ q ∷ r ∷ t ∷ [])
    more = more_bits p q r t n ends.0 ends.1.0 ends.1.1.0 value

    by : (b : Kind) → form_of b ≡ 0 → filter_map (read b) (numbers_of 5 (p ∷ q ∷ r ∷ t ∷ [])) ≡ y ∷ [] → meaning y ≢ integer (pos n)
    by kind.Fixed32 form gives same = unlike_unsigned _ n more (ap meaning (first_same gives) ∙ same)
    by kind.Sfixed32 form gives same = unlike_signed _ n more small (ap meaning (first_same gives) ∙ same)
    by b form gives same = absurd (cc)
four_otherwise b s n y form packs w ends four value small all = absurd (omega (arith, four))

-- A CLOSED ENUM

integer_packs : (b : Kind) → form_of b ≡ 0 → is_packable b ≡ true
integer_packs kind.Text f = absurd (omega (arith, f))
integer_packs kind.Bytes f = absurd (omega (arith, f))
integer_packs (kind.Message m) f = absurd (omega (arith, f))
integer_packs (kind.Group m) f = absurd (omega (arith, f))
integer_packs b f = refl

module _ (old new : Types) (i : EnumId) (b : Kind) (z : ℤ) (fits : FitsSigned w32 z) where
  abbrev bytes_of : List ℕ
  bytes_of = shortest (cast_unsigned w64 z)

  bytes_are : IsNumberBytes z bytes_of
  bytes_are = number_bytes_of z fits

  no_eights : AreElements eight_bytes bytes_of → ⊥
  no_eights e = by bytes_are.long
    where
      q : (c : ℕ) × (length bytes_of ≡ 8 * c)
      q = whole_eights bytes_of e

      by : ((n : ℕ) × (z ≡ pos n) × (groups_value bytes_of ≡ n) × (length bytes_of ≤ 5)) ⊎ (length bytes_of ≡ 10) → ⊥
      by (inl few) = let some = bytes_are.some in let whole = q.1 in let most = few.3 in omega (arith, some, whole, most)
      by (inr ten) = let whole = q.1 in omega (arith, whole, ten)

  no_fours : length bytes_of ≢ 4 → AreElements four_bytes bytes_of → ⊥
  no_fours other e = by bytes_are.long
    where
      q : (c : ℕ) × (length bytes_of ≡ 4 * c)
      q = whole_fours bytes_of e

      by : ((n : ℕ) × (z ≡ pos n) × (groups_value bytes_of ≡ n) × (length bytes_of ≤ 5)) ⊎ (length bytes_of ≡ 10) → ⊥
      by (inl few) = let some = bytes_are.some in let whole = q.1 in let most = few.3 in omega (arith, some, whole, most, other)
      by (inr ten) = let whole = q.1 in omega (arith, whole, ten)

  fours : form_of b ≡ 0 → is_packable b ≡ true → wire_type_of b ≡ 5 → (length bytes_of ≡ 4) ⊎ (length bytes_of ≢ 4) → IsUnlikeElement old new (kind.ClosedEnum i) b (scalar (enum z))
  fours form packs w (inr other) = unsound_element packs (λ e. no_fours other (subst (λ (x : Element). AreElements x bytes_of) (element_fours b packs w) e))
  fours form packs w (inl four) = otherwise_element (λ y all same. by bytes_are.long y all same)
    where
      by : ((n : ℕ) × (z ≡ pos n) × (groups_value bytes_of ≡ n) × (length bytes_of ≤ 5)) ⊎ (length bytes_of ≡ 10) → (y : Scalar) → elements b (len bytes_of) ≡ y ∷ [] → meaning y ≡ meaning (enum z) → ⊥
      by (inr ten) y all same = omega (arith, four, ten)
      by (inl few) y all same =
          four_otherwise b bytes_of few.0 y form packs w bytes_are.ends four few.2 (small_pos few.0 (subst (FitsSigned w32) few.1 fits)) all (same ∙ ap integer few.1)

  pub closed_element : wire_type_of b ≢ 0 → IsUnlikeElement old new (kind.ClosedEnum i) b (scalar (enum z))
  closed_element other = by (equal_or_not (form_of b) 0)
    where
      by_wire : form_of b ≡ 0 → (packs : is_packable b ≡ true) → IsPackedWire (wire_type_of b) → IsUnlikeElement old new (kind.ClosedEnum i) b (scalar (enum z))
      by_wire form packs (of_varints w) = absurd (other w)
      by_wire form packs (of_eights w) = unsound_element packs (λ e. no_eights (subst (λ (x : Element). AreElements x bytes_of) (element_eights b packs w) e))
      by_wire form packs (of_fours w) = fours form packs w (equal_or_not (length bytes_of) 4)

      by : (form_of b ≡ 0) ⊎ (form_of b ≢ 0) → IsUnlikeElement old new (kind.ClosedEnum i) b (scalar (enum z))
      by (inl form) = let packs = integer_packs b form in by_wire form packs (packed_wire b packs)
      by (inr form) = never_element (never_scalar old new (kind.ClosedEnum i) b (enum z) fits (λ e. form (sym e)))
