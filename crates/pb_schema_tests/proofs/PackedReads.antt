-- Packed payloads, number by number.
use Rattle.std.proofs.Common.{◌≡◌, ℕ, zero, suc, ◌+◌, ◌-◌, ◌*◌, ◌%◌, ◌^◌, ◌<◌, ◌≤◌, List, [], ◌∷◌, ◌++◌, IsTrue, map, length, get_or, take, drop, refl, sym, ◌∙◌, ap, subst, arith, Some}
use Rattle.std.specs.Int.{w32, w64, cast_signed, from_le_bytes}
use Rattle.std.proofs.Math.Seq.{take-append_seam, drop-append_seam}
use Rattle.std.proofs.lemmas.List.{length-append, length-drop, length-take-le, take-append-drop, take_all}
use Rattle.std.proofs.lemmas.Bool.{false≢true}
use Rattle.std.proofs.lemmas.Int.{ints}
use Rattle.std.proofs.lemmas.Bool.Decides.{nat_tests}
use Rattle.pb_wire.specs.Varint.{IsVarint, EndsOnce, groups_value}
use Rattle.pb_wire.specs.Zigzag.{unzigzag}
use Rattle.pb_wire.specs.Record.{Payload, varint, fixed64, fixed32, wire_type}
use Rattle.pb_wire.specs.Ranges.{IsInRange}
use Rattle.pb_wire.specs.Schema.{Element, a_varint, four_bytes, eight_bytes}
use Rattle.pb_wire.specs.Sound.{IsElement, varint_element, four_element, eight_element, AreElements, no_elements, element}
use Rattle.pb_schema.specs.declared.types.Kind.{Kind}
use Rattle.pb_schema.specs.declared.types.Kind.TheVariants as kind
use Rattle.pb_schema.specs.Scalar.{Scalar, int32, int64, uint32, uint64, boolean, float, double, enum}
use Rattle.pb_schema.specs.Kinds.{wire_type_of, is_packable, read, IsOfKind}
use Rattle.pb_schema.specs.Packed.{numbers_of}
use Rattle.pb_schema.proofs.PackedLemmas.{varint_front}
use Rattle.pb_schema_tests.specs.Cuts.{Cuts}

-- what comes after a slice's front
pub take_rest : (n : ℕ) (s : List ℕ) → take (length s - n) (drop n s) ≡ drop n s
take_rest n s = take_all (length s - n) (drop n s) (omega (arith, length-drop n s))

-- ELEMENTS

front_length : (first others s : List ℕ) → s ≡ first ++ others → length first ≤ length s
front_length first others s joined = omega (arith, ap length joined, length-append first others)

front_taken : (first others s : List ℕ) → s ≡ first ++ others → take (length first) s ≡ first
front_taken first others s joined = ap (take (length first)) joined ∙ take-append_seam first others

rest_dropped : (n : ℕ) (first others s : List ℕ) → s ≡ first ++ others → length first ≡ n → others ≡ drop n s
rest_dropped n first others s joined size =
    sym (ap (drop n) joined ∙ ap (λ k. drop k (first ++ others)) (sym size) ∙ drop-append_seam first others)

elements_behind : (e : Element) (n : ℕ) (s : List ℕ) → 0 < n → n ≤ length s → ((first others : List ℕ) → IsElement e first → s ≡ first ++ others → length first ≡ n) → AreElements e s → AreElements e (drop n s)
elements_behind e n s some within each no_elements = absurd (omega (arith, some, within))
elements_behind e n s some within each (element {first} {others} one more joined) =
    subst (AreElements e) (rest_dropped n first others s joined (each first others one joined)) more

elements_before : (e : Element) (n : ℕ) (s : List ℕ) → IsElement e (take n s) → AreElements e (drop n s) → AreElements e s
elements_before e n s one more = element one more (sym (take-append-drop n s))

-- VARINTS

ends_some : (size : ℕ) (s : List ℕ) → EndsOnce (take size s) → 0 < size
ends_some zero s ends = absurd ends
ends_some (suc size) s ends = omega arith

one_varint : {s : List ℕ} → IsElement a_varint s → (n : ℕ) × IsVarint n s
one_varint (varint_element {n} v) = (n, v)

pub varint_cuts : (n size : ℕ) (s : List ℕ) → size ≤ length s → IsVarint n (take size s) → ((m t : ℕ) → t ≤ length s → IsVarint m (take t s) → t ≡ size) → Cuts a_varint 0 (varint n) s (take (length s - size) (drop size s))
varint_cuts n size s within v only =
    let some : 0 < size = ends_some size s v.ends in
    let each : (first others : List ℕ) → IsElement a_varint first → s ≡ first ++ others → length first ≡ size = each_one in
    let cut : Cuts a_varint 0 (varint n) s (drop size s) = record {
      type = refl;
      range = subst (λ m. m < 2 ^ 64) v.value (omega arith);
      numbers =
          ap (numbers_of 0) (sym (take-append-drop size s)) ∙ ap (map (λ b. varint (groups_value b % 2 ^ 64))) (varint_front (take size s) (drop size s) v.ends) ∙ ap (λ m. varint m ∷ numbers_of 0 (drop size s)) v.value;
      elements = (elements_behind a_varint size s some within each, elements_before a_varint size s (varint_element v));
      shorter = omega (arith, length-drop size s, some, within);
    } in
    subst (Cuts a_varint 0 (varint n) s) (sym (take_rest size s)) cut
  where
    each_one : (first others : List ℕ) → IsElement a_varint first → s ≡ first ++ others → length first ≡ size
    each_one first others one joined =
        let v = one_varint one in
        only v.0 (length first) (front_length first others s joined) (subst (IsVarint v.0) (sym (front_taken first others s joined)) v.1)

pub no_varint : (s : List ℕ) → ((m t : ℕ) → t ≤ length s → IsVarint m (take t s) → ⊥) → AreElements a_varint s → s ≡ []
no_varint s never no_elements = refl
no_varint s never (element {first} {others} one more joined) =
    let v = one_varint one in
    absurd (never v.0 (length first) (front_length first others s joined) (subst (IsVarint v.0) (sym (front_taken first others s joined)) v.1))

-- FOUR AND EIGHT BYTES

four_length : {s : List ℕ} → IsElement four_bytes s → length s ≡ 4
four_length (four_element size) = size

eight_length : {s : List ℕ} → IsElement eight_bytes s → length s ≡ 8
eight_length (eight_element size) = size

four_numbers : (s : List ℕ) (n : ℕ) → 4 ≤ length s → n ≡ get_or s 0 0 + get_or s 1 0 * 256 + get_or s 2 0 * 65536 + get_or s 3 0 * 16777216 → numbers_of 5 s ≡ fixed32 n ∷ numbers_of 5 (drop 4 s)
four_numbers (a ∷ b ∷ c ∷ d ∷ t) n size is =
    let e : from_le_bytes w32 (a ∷ b ∷ c ∷ d ∷ []) ≡ n = omega (arith, is) in ap (λ m. fixed32 m ∷ numbers_of 5 t) e
four_numbers s n size is = absurd (omega (arith, size))

eight_numbers : (s : List ℕ) (n : ℕ) → 8 ≤ length s → n ≡ get_or s 0 0 + get_or s 1 0 * 256 + get_or s 2 0 * 65536 + get_or s 3 0 * 16777216 + get_or s 4 0 * 4294967296 + get_or s 5 0 * 1099511627776 + get_or s 6 0 * 281474976710656 + get_or s 7 0 * 72057594037927936 → numbers_of 1 s ≡ fixed64 n ∷ numbers_of 1 (drop 8 s)
eight_numbers (a ∷ b ∷ c ∷ d ∷ e ∷ f ∷ g ∷ h ∷ t) n size is =
    let same : from_le_bytes w64 (a ∷ b ∷ c ∷ d ∷ e ∷ f ∷ g ∷ h ∷ []) ≡ n = omega (arith, is) in ap (λ m. fixed64 m ∷ numbers_of 1 t) same
eight_numbers s n size is = absurd (omega (arith, size))

pub four_cuts : (s : List ℕ) (n : ℕ) → 4 ≤ length s → n < 2 ^ 32 → n ≡ get_or s 0 0 + get_or s 1 0 * 256 + get_or s 2 0 * 65536 + get_or s 3 0 * 16777216 → Cuts four_bytes 5 (fixed32 n) s (take (length s - 4) (drop 4 s))
four_cuts s n size small is =
    let cut : Cuts four_bytes 5 (fixed32 n) s (drop 4 s) = record {
      type = refl;
      range = small;
      numbers = four_numbers s n size is;
      elements = (elements_behind four_bytes 4 s (omega arith) size (λ first others one joined. four_length one), elements_before four_bytes 4 s (four_element (length-take-le 4 s size)));
      shorter = omega (arith, length-drop 4 s, size);
    } in
    subst (Cuts four_bytes 5 (fixed32 n) s) (sym (take_rest 4 s)) cut

pub eight_cuts : (s : List ℕ) (n : ℕ) → 8 ≤ length s → n < 2 ^ 64 → n ≡ get_or s 0 0 + get_or s 1 0 * 256 + get_or s 2 0 * 65536 + get_or s 3 0 * 16777216 + get_or s 4 0 * 4294967296 + get_or s 5 0 * 1099511627776 + get_or s 6 0 * 281474976710656 + get_or s 7 0 * 72057594037927936 → Cuts eight_bytes 1 (fixed64 n) s (take (length s - 8) (drop 8 s))
eight_cuts s n size small is =
    let cut : Cuts eight_bytes 1 (fixed64 n) s (drop 8 s) = record {
      type = refl;
      range = small;
      numbers = eight_numbers s n size is;
      elements = (elements_behind eight_bytes 8 s (omega arith) size (λ first others one joined. eight_length one), elements_before eight_bytes 8 s (eight_element (length-take-le 8 s size)));
      shorter = omega (arith, length-drop 8 s, size);
    } in
    subst (Cuts eight_bytes 1 (fixed64 n) s) (sym (take_rest 8 s)) cut

-- VALUES

-- a number in range of a packable kind's wire type is a value of the kind
pub readable : (k : Kind) (p : Payload) → IsTrue (is_packable k) → wire_type p ≡ wire_type_of k → IsInRange p → (x : Scalar) × (read k p ≡ Some x) × IsOfKind k x
readable kind.Int32 (varint n) can type range = (int32 (cast_signed w32 (n % 2 ^ 32)), refl, grind (arith, ints))
readable kind.Int64 (varint n) can type range = (int64 (cast_signed w64 n), refl, grind (arith, ints))
readable kind.Uint32 (varint n) can type range = (uint32 (n % 2 ^ 32), refl, omega arith)
readable kind.Uint64 (varint n) can type range = (uint64 n, refl, range)
readable kind.Sint32 (varint n) can type range = (int32 (unzigzag (n % 2 ^ 32)), refl, grind (arith, ints, nat_tests))
readable kind.Sint64 (varint n) can type range = (int64 (unzigzag n), refl, grind (arith, ints, nat_tests))
readable kind.Bool (varint n) can type range = (boolean _, refl, tt)
readable (kind.Enum e) (varint n) can type range = (enum (cast_signed w32 (n % 2 ^ 32)), refl, grind (arith, ints))
readable (kind.ClosedEnum e) (varint n) can type range = (enum (cast_signed w32 (n % 2 ^ 32)), refl, grind (arith, ints))
readable kind.Fixed64 (fixed64 n) can type range = (uint64 n, refl, range)
readable kind.Sfixed64 (fixed64 n) can type range = (int64 (cast_signed w64 n), refl, grind (arith, ints))
readable kind.Double (fixed64 n) can type range = (double n, refl, range)
readable kind.Fixed32 (fixed32 n) can type range = (uint32 n, refl, range)
readable kind.Sfixed32 (fixed32 n) can type range = (int32 (cast_signed w32 n), refl, grind (arith, ints))
readable kind.Float (fixed32 n) can type range = (float n, refl, range)
readable kind.Text p can type range = absurd (false≢true can)
readable kind.Bytes p can type range = absurd (false≢true can)
readable (kind.Message m) p can type range = absurd (false≢true can)
readable (kind.Group m) p can type range = absurd (false≢true can)
readable k p can type range = absurd (omega (arith, type))

empty_list : (s : List ℕ) → length s ≡ 0 → s ≡ []
empty_list [] e = refl
empty_list (x ∷ xs) e = absurd (omega (arith, e))

-- nothing is left
pub elements_done : (e : Element) (rest s : List ℕ) → length rest ≡ 0 → (AreElements e rest → AreElements e s) → AreElements e s
elements_done e rest s empty back = back (subst (AreElements e) (sym (empty_list rest empty)) no_elements)
