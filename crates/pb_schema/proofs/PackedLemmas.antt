-- The numbers of a packed payload.
use Rattle.std.proofs.Common.{◌≡◌, ℕ, ◌%◌, ◌^◌, ◌<◌, ◌≤◌, zero, suc, List, [], ◌∷◌, ◌++◌, true, false, IsTrue, map, length, get_or, refl, sym, ◌∙◌, ap, subst, arith, ltb}
use Rattle.std.specs.List.{AllByRecursion}
use Rattle.std.specs.Int.{w32, w64, to_le_bytes, from_le_bytes}
use Rattle.std.proofs.lemmas.Nat.{le_bytes_4, le_bytes_8, from_le_bytes-to_le_bytes_4, from_le_bytes-to_le_bytes_8}
use Rattle.std.proofs.lemmas.Bool.Decides.{nat_tests}
use Rattle.pb_wire.specs.Varint.{EndsOnce, groups_value}
use Rattle.pb_wire.specs.Record.{Payload, varint, fixed64, len, group, fixed32}
use Rattle.pb_wire.specs.Ranges.{IsByte}
use Rattle.pb_wire.specs.Schema.{a_varint, four_bytes, eight_bytes}
use Rattle.pb_wire.specs.Sound.{varint_element, four_element, eight_element, AreElements, no_elements, element}
use Rattle.std.proofs.lemmas.Bool.{false≢true}
use Rattle.pb_schema.specs.declared.types.Kind.{Kind}
use Rattle.pb_schema.specs.declared.types.Kind.TheVariants as kind
use Rattle.pb_schema.specs.Kinds.{wire_type_of, is_packable}
use Rattle.pb_schema.specs.Context.{element_of}
use Rattle.pb_schema.specs.Packed.{AreNumbers, onto_varints, varints_of, fours_of, eights_of, numbers_of}

below_128 : (b : ℕ) → b < 128 → ltb b 128 ≡ true
below_128 b h = grind (arith, nat_tests)

from_128 : (b : ℕ) → 128 ≤ b → ltb b 128 ≡ false
from_128 b h = grind (arith, nat_tests)

pub varint_front : (first others : List ℕ) → EndsOnce first → varints_of (first ++ others) ≡ first ∷ varints_of others
varint_front [] others ends = absurd ends
varint_front (b ∷ []) others ends = ap (λ t. onto_varints t b (varints_of others)) (below_128 b ends)
varint_front (b ∷ c ∷ bs) others ends =
    ap (λ t. onto_varints t b (varints_of ((c ∷ bs) ++ others))) (from_128 b ends.0) ∙ ap (onto_varints false b) (varint_front (c ∷ bs) others ends.1)

eights_front : (xs others : List ℕ) → length xs ≡ 8 → eights_of (xs ++ others) ≡ xs ∷ eights_of others
eights_front (a ∷ b ∷ c ∷ d ∷ e ∷ f ∷ g ∷ h ∷ []) others size = refl
eights_front xs others size = absurd (omega (arith, size))

fours_front : (xs others : List ℕ) → length xs ≡ 4 → fours_of (xs ++ others) ≡ xs ∷ fours_of others
fours_front (a ∷ b ∷ c ∷ d ∷ []) others size = refl
fours_front xs others size = absurd (omega (arith, size))

-- what is read of spellings one after another
varints_back : (ps : List Payload) (s : List ℕ) → AreNumbers 0 ps s → numbers_of 0 s ≡ ps
varints_back [] s e = ap (numbers_of 0) e
varints_back (varint n ∷ ps) s are =
    ap (numbers_of 0) are.5 ∙ ap (map (λ b. varint (groups_value b % 2 ^ 64))) (varint_front are.1 are.2 are.3.1.ends) ∙ ap (λ m. varint m ∷ numbers_of 0 are.2) are.3.1.value ∙ ap (λ l. varint n ∷ l) (varints_back ps are.2 are.4)
varints_back (fixed64 n ∷ ps) s are = absurd (omega (arith, are.0))
varints_back (len b ∷ ps) s are = absurd (omega (arith, are.0))
varints_back (group g ∷ ps) s are = absurd (omega (arith, are.0))
varints_back (fixed32 n ∷ ps) s are = absurd (omega (arith, are.0))

eights_back : (ps : List Payload) (s : List ℕ) → AreNumbers 1 ps s → numbers_of 1 s ≡ ps
eights_back [] s e = ap (numbers_of 1) e
eights_back (fixed64 n ∷ ps) s are =
    let bytes : are.1 ++ are.2 ≡ to_le_bytes w64 n ++ are.2 = ap (λ l. l ++ are.2) are.3.1 in
    ap (numbers_of 1) (are.5 ∙ bytes) ∙ ap (λ m. fixed64 m ∷ numbers_of 1 are.2) (from_le_bytes-to_le_bytes_8 n are.3.0) ∙ ap (λ l. fixed64 n ∷ l) (eights_back ps are.2 are.4)
eights_back (varint n ∷ ps) s are = absurd (omega (arith, are.0))
eights_back (len b ∷ ps) s are = absurd (omega (arith, are.0))
eights_back (group g ∷ ps) s are = absurd (omega (arith, are.0))
eights_back (fixed32 n ∷ ps) s are = absurd (omega (arith, are.0))

fours_back : (ps : List Payload) (s : List ℕ) → AreNumbers 5 ps s → numbers_of 5 s ≡ ps
fours_back [] s e = ap (numbers_of 5) e
fours_back (fixed32 n ∷ ps) s are =
    let bytes : are.1 ++ are.2 ≡ to_le_bytes w32 n ++ are.2 = ap (λ l. l ++ are.2) are.3.1 in
    ap (numbers_of 5) (are.5 ∙ bytes) ∙ ap (λ m. fixed32 m ∷ numbers_of 5 are.2) (from_le_bytes-to_le_bytes_4 n are.3.0) ∙ ap (λ l. fixed32 n ∷ l) (fours_back ps are.2 are.4)
fours_back (varint n ∷ ps) s are = absurd (omega (arith, are.0))
fours_back (len b ∷ ps) s are = absurd (omega (arith, are.0))
fours_back (group g ∷ ps) s are = absurd (omega (arith, are.0))
fours_back (fixed64 n ∷ ps) s are = absurd (omega (arith, are.0))

-- whole elements are spellings of what is read of them
front_bytes : (xs ys : List ℕ) → AllByRecursion IsByte (xs ++ ys) → AllByRecursion IsByte xs
front_bytes [] ys h = tt
front_bytes (x ∷ xs) ys h = (h.0, front_bytes xs ys h.1)

back_bytes : (xs ys : List ℕ) → AllByRecursion IsByte (xs ++ ys) → AllByRecursion IsByte ys
back_bytes [] ys h = h
back_bytes (x ∷ xs) ys h = back_bytes xs ys h.1

byte_at : (bs : List ℕ) → AllByRecursion IsByte bs → (i : ℕ) → get_or bs i 0 < 256
byte_at [] h i = omega arith
byte_at (b ∷ bs) h zero = h.0
byte_at (b ∷ bs) h (suc i) = byte_at bs h.1 i

below_8 : (bs : List ℕ) → ((i : ℕ) → get_or bs i 0 < 256) → from_le_bytes w64 bs < 2 ^ 64
below_8 bs small =
    let a = small 0 in let b = small 1 in let c = small 2 in let d = small 3 in
    let e = small 4 in let f = small 5 in let g = small 6 in let h = small 7 in omega arith

below_4 : (bs : List ℕ) → ((i : ℕ) → get_or bs i 0 < 256) → from_le_bytes w32 bs < 2 ^ 32
below_4 bs small = let a = small 0 in let b = small 1 in let c = small 2 in let d = small 3 in omega arith

varints_whole : (s : List ℕ) → AreElements a_varint s → AreNumbers 0 (numbers_of 0 s) s
varints_whole s no_elements = refl
varints_whole s (element {first} {others} (varint_element v) rest joined) =
    subst (λ ps. AreNumbers 0 ps s) (sym (ap (numbers_of 0) joined ∙ ap (map (λ b. varint (groups_value b % 2 ^ 64))) (varint_front first others v.ends))) (refl, first, others, (omega arith, record { size = v.size; ends = v.ends; value = refl }), varints_whole others rest, joined)

eights_whole : (s : List ℕ) → AllByRecursion IsByte s → AreElements eight_bytes s → AreNumbers 1 (numbers_of 1 s) s
eights_whole s bytes no_elements = refl
eights_whole s bytes (element {first} {others} (eight_element size) rest joined) =
    let all = subst (AllByRecursion IsByte) joined bytes in
    let small = byte_at first (front_bytes first others all) in
    subst (λ ps. AreNumbers 1 ps s) (sym (ap (numbers_of 1) joined ∙ ap (map (λ b. fixed64 (from_le_bytes w64 b))) (eights_front first others size))) (refl, first, others, (below_8 first small, sym (le_bytes_8 first (from_le_bytes w64 first) size small refl)), eights_whole others (back_bytes first others all) rest, joined)

fours_whole : (s : List ℕ) → AllByRecursion IsByte s → AreElements four_bytes s → AreNumbers 5 (numbers_of 5 s) s
fours_whole s bytes no_elements = refl
fours_whole s bytes (element {first} {others} (four_element size) rest joined) =
    let all = subst (AllByRecursion IsByte) joined bytes in
    let small = byte_at first (front_bytes first others all) in
    subst (λ ps. AreNumbers 5 ps s) (sym (ap (numbers_of 5) joined ∙ ap (map (λ b. fixed32 (from_le_bytes w32 b))) (fours_front first others size))) (refl, first, others, (below_4 first small, sym (le_bytes_4 first (from_le_bytes w32 first) size small refl)), fours_whole others (back_bytes first others all) rest, joined)

pub numbers_back : (k : Kind) (ps : List Payload) (s : List ℕ) → IsTrue (is_packable k) → AreNumbers (wire_type_of k) ps s → numbers_of (wire_type_of k) s ≡ ps
numbers_back kind.Int32 ps s can are = varints_back ps s are
numbers_back kind.Int64 ps s can are = varints_back ps s are
numbers_back kind.Uint32 ps s can are = varints_back ps s are
numbers_back kind.Uint64 ps s can are = varints_back ps s are
numbers_back kind.Sint32 ps s can are = varints_back ps s are
numbers_back kind.Sint64 ps s can are = varints_back ps s are
numbers_back kind.Bool ps s can are = varints_back ps s are
numbers_back (kind.Enum e) ps s can are = varints_back ps s are
numbers_back (kind.ClosedEnum e) ps s can are = varints_back ps s are
numbers_back kind.Fixed64 ps s can are = eights_back ps s are
numbers_back kind.Sfixed64 ps s can are = eights_back ps s are
numbers_back kind.Double ps s can are = eights_back ps s are
numbers_back kind.Fixed32 ps s can are = fours_back ps s are
numbers_back kind.Sfixed32 ps s can are = fours_back ps s are
numbers_back kind.Float ps s can are = fours_back ps s are
numbers_back kind.Text ps s can are = absurd (false≢true can)
numbers_back kind.Bytes ps s can are = absurd (false≢true can)
numbers_back (kind.Message m) ps s can are = absurd (false≢true can)
numbers_back (kind.Group m) ps s can are = absurd (false≢true can)

pub numbers_whole : (k : Kind) (s : List ℕ) → IsTrue (is_packable k) → AllByRecursion IsByte s → AreElements (element_of k) s → AreNumbers (wire_type_of k) (numbers_of (wire_type_of k) s) s
numbers_whole kind.Int32 s can bytes are = varints_whole s are
numbers_whole kind.Int64 s can bytes are = varints_whole s are
numbers_whole kind.Uint32 s can bytes are = varints_whole s are
numbers_whole kind.Uint64 s can bytes are = varints_whole s are
numbers_whole kind.Sint32 s can bytes are = varints_whole s are
numbers_whole kind.Sint64 s can bytes are = varints_whole s are
numbers_whole kind.Bool s can bytes are = varints_whole s are
numbers_whole (kind.Enum e) s can bytes are = varints_whole s are
numbers_whole (kind.ClosedEnum e) s can bytes are = varints_whole s are
numbers_whole kind.Fixed64 s can bytes are = eights_whole s bytes are
numbers_whole kind.Sfixed64 s can bytes are = eights_whole s bytes are
numbers_whole kind.Double s can bytes are = eights_whole s bytes are
numbers_whole kind.Fixed32 s can bytes are = fours_whole s bytes are
numbers_whole kind.Sfixed32 s can bytes are = fours_whole s bytes are
numbers_whole kind.Float s can bytes are = fours_whole s bytes are
numbers_whole kind.Text s can bytes are = absurd (false≢true can)
numbers_whole kind.Bytes s can bytes are = absurd (false≢true can)
numbers_whole (kind.Message m) s can bytes are = absurd (false≢true can)
numbers_whole (kind.Group m) s can bytes are = absurd (false≢true can)
