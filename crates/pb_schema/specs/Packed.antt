-- The elements that a payload holds: one, or those of a packed list (encoding guide, "Packed Repeated Fields").
use Rattle.std.specs.Prelude.{◌≡◌, ℕ, ◌%◌, ◌^◌, List, [], ◌∷◌, ◌++◌, map, Bool, true, false, ◌==◌, nat_lt, if◌then◌else◌}
use Rattle.std.specs.List.{filter_map}
use Rattle.std.specs.Option.{option_to_list}
use Rattle.std.specs.Int.{w32, w64, to_le_bytes, from_le_bytes}
use Rattle.pb_wire.specs.Varint.{groups_value, shortest}
use Rattle.pb_wire.specs.Record.{Payload, varint, fixed64, len, fixed32, wire_type}
use Rattle.pb_wire.specs.Spell.{Body}
use Rattle.pb_schema.specs.declared.types.Kind.{Kind}
use Rattle.pb_schema.specs.Scalar.{Scalar}
use Rattle.pb_schema.specs.Kinds.{wire_type_of, is_packable, read, written}

-- s is the joining of spellings of these numbers, each of this wire type
abbrev pub AreNumbers : ℕ → List Payload → List ℕ → Type 0
AreNumbers w [] s = s ≡ []
AreNumbers w (p ∷ ps) s =
    (wire_type p ≡ w) × (first : List ℕ) × (others : List ℕ) × Body 0 p first × AreNumbers w ps others × (s ≡ first ++ others)

abbrev pub onto_varints : Bool → ℕ → List (List ℕ) → List (List ℕ)
onto_varints true b ss = (b ∷ []) ∷ ss
onto_varints false b [] = (b ∷ []) ∷ []
onto_varints false b (s ∷ ss) = (b ∷ s) ∷ ss

-- the bytes, cut after each one below 128
abbrev pub varints_of : List ℕ → List (List ℕ)
varints_of [] = []
varints_of (b ∷ bs) = onto_varints (nat_lt b 128) b (varints_of bs)

abbrev pub fours_of : List ℕ → List (List ℕ)
fours_of (a ∷ b ∷ c ∷ d ∷ s) = (a ∷ b ∷ c ∷ d ∷ []) ∷ fours_of s
fours_of _ = []

abbrev pub eights_of : List ℕ → List (List ℕ)
eights_of (a ∷ b ∷ c ∷ d ∷ e ∷ f ∷ g ∷ h ∷ s) = (a ∷ b ∷ c ∷ d ∷ e ∷ f ∷ g ∷ h ∷ []) ∷ eights_of s
eights_of _ = []

-- the numbers of a packed payload, each of this wire type
abbrev pub numbers_of : ℕ → List ℕ → List Payload
numbers_of w s =
    if w == 0 then map (λ b. varint (groups_value b % 2 ^ 64)) (varints_of s)
    else (if w == 1 then map (λ b. fixed64 (from_le_bytes w64 b)) (eights_of s) else map (λ b. fixed32 (from_le_bytes w32 b)) (fours_of s))

-- the elements that the payload of a fitting record gives, in order
abbrev pub elements : Kind → Payload → List Scalar
elements k (len s) = elements_of (is_packable k)
  where
    elements_of : Bool → List Scalar
    elements_of true = filter_map (read k) (numbers_of (wire_type_of k) s)
    elements_of false = option_to_list (read k (len s))
elements k p = option_to_list (read k p)

-- the bytes of a number in a packed list, in the shortest spelling
abbrev pub number_bytes : Payload → List ℕ
number_bytes (varint n) = shortest n
number_bytes (fixed64 n) = to_le_bytes w64 n
number_bytes (fixed32 n) = to_le_bytes w32 n
number_bytes _ = []

-- the bytes of an element of a packed list
abbrev pub element_bytes : Kind → Scalar → List ℕ
element_bytes k x = number_bytes (written k x)
