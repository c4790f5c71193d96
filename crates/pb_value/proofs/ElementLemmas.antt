-- What is read from payloads in range is of the kind that it is read as.
use Rattle.std.proofs.Common.{◌≡◌, ℕ, ◌%◌, ◌^◌, ◌<◌, List, [], ◌∷◌, map, arith, refl, None, IfSome}
use Rattle.std.proofs.lemmas.Int.{ints}
use Rattle.std.proofs.lemmas.Bool.Decides.{nat_tests}
use Rattle.std.specs.Prelude.{true, IsUtf8, FitsSigned}
use Rattle.std.specs.List.{AllByRecursion}
use Rattle.std.specs.Int.{w32, w64, cast_signed, from_le_bytes}
use Rattle.pb_wire.specs.Zigzag.{unzigzag}
use Rattle.pb_wire.specs.Varint.{groups_value}
use Rattle.pb_wire.specs.Record.{Payload, varint, fixed64, len, group, fixed32}
use Rattle.pb_wire.specs.Ranges.{AreBytes, IsInRange}
use Rattle.pb_schema.specs.declared.types.Kind.{Kind}
use Rattle.pb_schema.specs.declared.types.Kind.TheVariants as kind
use Rattle.pb_schema.specs.Kinds.{wire_type_of, is_packable, message_of_kind, read, default_of, IsOfKind}
use Rattle.pb_value.proofs.ListLemmas.{all_map, all_found, listed}
use Rattle.pb_schema.specs.Packed.{numbers_of, varints_of, fours_of, eights_of, elements}

-- a text's payload is UTF-8
abbrev pub IsTextFor : Kind → Payload → Type 0
IsTextFor kind.Text (len s) = IsUtf8 s
IsTextFor k p = Unit {0}

low_fits : (n : ℕ) → FitsSigned w32 (cast_signed w32 (n % 2 ^ 32))
low_fits n = grind (arith, ints)

half_fits : (n : ℕ) → n < 2 ^ 32 → FitsSigned w32 (cast_signed w32 n)
half_fits n h = grind (arith, ints)

whole_fits : (n : ℕ) → n < 2 ^ 64 → FitsSigned w64 (cast_signed w64 n)
whole_fits n h = grind (arith, ints)

unzigzag_half : (n : ℕ) → n < 2 ^ 32 → FitsSigned w32 (unzigzag n)
unzigzag_half n h = grind (arith, ints, nat_tests)

unzigzag_whole : (n : ℕ) → n < 2 ^ 64 → FitsSigned w64 (unzigzag n)
unzigzag_whole n h = grind (arith, ints, nat_tests)

-- a value that is read is of the kind
pub read-IsOfKind : (k : Kind) (p : Payload) → IsInRange p → IsTextFor k p → IfSome (read k p) (IsOfKind k)
read-IsOfKind kind.Int32 (varint n) h t = low_fits n
read-IsOfKind kind.Int64 (varint n) h t = whole_fits n h
read-IsOfKind kind.Uint32 (varint n) h t = omega arith
read-IsOfKind kind.Uint64 (varint n) h t = h
read-IsOfKind kind.Sint32 (varint n) h t = unzigzag_half (n % 2 ^ 32) (omega arith)
read-IsOfKind kind.Sint64 (varint n) h t = unzigzag_whole n h
read-IsOfKind kind.Bool (varint n) h t = tt
read-IsOfKind (kind.Enum e) (varint n) h t = low_fits n
read-IsOfKind (kind.ClosedEnum e) (varint n) h t = low_fits n
read-IsOfKind kind.Fixed64 (fixed64 n) h t = h
read-IsOfKind kind.Sfixed64 (fixed64 n) h t = whole_fits n h
read-IsOfKind kind.Double (fixed64 n) h t = h
read-IsOfKind kind.Fixed32 (fixed32 n) h t = h
read-IsOfKind kind.Sfixed32 (fixed32 n) h t = half_fits n h
read-IsOfKind kind.Float (fixed32 n) h t = h
read-IsOfKind kind.Text (len s) h t = t
read-IsOfKind kind.Bytes (len s) h t = h
read-IsOfKind k p h t = tt

-- the default of a kind is of the kind
pub IsOfKind-default_of : (k : Kind) → message_of_kind k ≡ None → IsOfKind k (default_of k)
IsOfKind-default_of (kind.Message m) none = absurd (cc)
IsOfKind-default_of (kind.Group m) none = absurd (cc)
IsOfKind-default_of kind.Double none = omega arith
IsOfKind-default_of kind.Float none = omega arith
IsOfKind-default_of kind.Int64 none = grind (arith, ints)
IsOfKind-default_of kind.Uint64 none = omega arith
IsOfKind-default_of kind.Int32 none = grind (arith, ints)
IsOfKind-default_of kind.Fixed64 none = omega arith
IsOfKind-default_of kind.Fixed32 none = omega arith
IsOfKind-default_of kind.Bool none = tt
IsOfKind-default_of kind.Text none = ([], (refl, refl))
IsOfKind-default_of kind.Bytes none = tt
IsOfKind-default_of kind.Uint32 none = omega arith
IsOfKind-default_of kind.Sfixed32 none = grind (arith, ints)
IsOfKind-default_of kind.Sfixed64 none = grind (arith, ints)
IsOfKind-default_of kind.Sint32 none = grind (arith, ints)
IsOfKind-default_of kind.Sint64 none = grind (arith, ints)
IsOfKind-default_of (kind.Enum e) none = grind (arith, ints)
IsOfKind-default_of (kind.ClosedEnum e) none = grind (arith, ints)

-- PACKED PAYLOADS

-- the eight bytes, or four, of a number
EightBytes : List ℕ → Type 0
EightBytes b = from_le_bytes w64 b < 2 ^ 64

FourBytes : List ℕ → Type 0
FourBytes b = from_le_bytes w32 b < 2 ^ 32

eights_in_range : (s : List ℕ) → AreBytes s → AllByRecursion EightBytes (eights_of s)
unfolding EightBytes
eights_in_range (a ∷ b ∷ c ∷ d ∷ e ∷ f ∷ g ∷ h ∷ s) w =
    (omega (arith, w.0, w.1.0, w.1.1.0, w.1.1.1.0, w.1.1.1.1.0, w.1.1.1.1.1.0, w.1.1.1.1.1.1.0, w.1.1.1.1.1.1.1.0), eights_in_range s w.1.1.1.1.1.1.1.1)
eights_in_range s w = tt

fours_in_range : (s : List ℕ) → AreBytes s → AllByRecursion FourBytes (fours_of s)
unfolding FourBytes
fours_in_range (a ∷ b ∷ c ∷ d ∷ s) w = (omega (arith, w.0, w.1.0, w.1.1.0, w.1.1.1.0), fours_in_range s w.1.1.1.1)
fours_in_range s w = tt

pub varints_in_range : (s : List ℕ) → AllByRecursion IsInRange (numbers_of 0 s)
varints_in_range s = each (varints_of s)
  where
    each : (bs : List (List ℕ)) → AllByRecursion IsInRange (map (λ b. varint (groups_value b % 2 ^ 64)) bs)
    each [] = tt
    each (b ∷ bs) = (omega arith, each bs)

eight_bytes_in_range : (s : List ℕ) → AreBytes s → AllByRecursion IsInRange (numbers_of 1 s)
unfolding EightBytes
eight_bytes_in_range s w = all_map EightBytes IsInRange (λ b. fixed64 (from_le_bytes w64 b)) (λ b h. h) (eights_of s) (eights_in_range s w)

four_bytes_in_range : (s : List ℕ) → AreBytes s → AllByRecursion IsInRange (numbers_of 5 s)
unfolding FourBytes
four_bytes_in_range s w = all_map FourBytes IsInRange (λ b. fixed32 (from_le_bytes w32 b)) (λ b h. h) (fours_of s) (fours_in_range s w)

numbers_in_range : (k : Kind) (s : List ℕ) → is_packable k ≡ true → AreBytes s → AllByRecursion IsInRange (numbers_of (wire_type_of k) s)
numbers_in_range kind.Text s can w = absurd (cc)
numbers_in_range kind.Bytes s can w = absurd (cc)
numbers_in_range (kind.Message m) s can w = absurd (cc)
numbers_in_range (kind.Group m) s can w = absurd (cc)
numbers_in_range kind.Fixed64 s can w = eight_bytes_in_range s w
numbers_in_range kind.Sfixed64 s can w = eight_bytes_in_range s w
numbers_in_range kind.Double s can w = eight_bytes_in_range s w
numbers_in_range kind.Fixed32 s can w = four_bytes_in_range s w
numbers_in_range kind.Sfixed32 s can w = four_bytes_in_range s w
numbers_in_range kind.Float s can w = four_bytes_in_range s w
numbers_in_range k s can w = varints_in_range s

not_text : (k : Kind) (p : Payload) → is_packable k ≡ true → IsTextFor k p
not_text kind.Text p can = absurd (cc)
not_text k p can = tt

-- the elements of a payload are of the kind
pub elements-AreOfKind : (k : Kind) (p : Payload) → IsInRange p → IsTextFor k p → AllByRecursion (IsOfKind k) (elements k p)
elements-AreOfKind k (varint n) h t = listed (IsOfKind k) (read k (varint n)) (read-IsOfKind k (varint n) h t)
elements-AreOfKind k (fixed64 n) h t = listed (IsOfKind k) (read k (fixed64 n)) (read-IsOfKind k (fixed64 n) h t)
elements-AreOfKind k (fixed32 n) h t = listed (IsOfKind k) (read k (fixed32 n)) (read-IsOfKind k (fixed32 n) h t)
elements-AreOfKind k (group g) h t = listed (IsOfKind k) (read k (group g)) (read-IsOfKind k (group g) h t)
elements-AreOfKind kind.Text (len s) h t = (t, tt)
elements-AreOfKind kind.Bytes (len s) h t = (h, tt)
elements-AreOfKind (kind.Message m) (len s) h t = tt
elements-AreOfKind (kind.Group m) (len s) h t = tt
elements-AreOfKind k (len s) h t =
    all_found IsInRange (IsOfKind k) (read k) (λ p w. read-IsOfKind k p w (not_text k p refl)) (numbers_of (wire_type_of k) s) (numbers_in_range k s refl h)
