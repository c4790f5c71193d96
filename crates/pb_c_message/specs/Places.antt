-- Places as C says them: each step by a kind and a number, with strings in a list beside them.
use Rattle.std.specs.Prelude.{ℕ, ℤ, nat_lt, ◌%◌, ◌^◌, List, [], ◌∷◌, Bool, true, false, ◌==◌, ◌||◌, if◌then◌else◌}
use Rattle.std.specs.Prelude.{Option, Some, None, option_map, option_and_then}
use Rattle.std.specs.Borrow.{Bor}
use Rattle.std.specs.Int.{cast_signed, cast_unsigned, w32, w64}
use Rattle.std.specs.List.{slice_get}
use Rattle.std.specs.Str.{is_utf8}
use Rattle.pb_schema.specs.Scalar.{Scalar, int32, int64, uint32, uint64, boolean, text}
use Rattle.pb_value.specs.View.{key_view}
use Rattle.pb_place.specs.declared.step.PlaceStep.{PlaceStep}
use Rattle.pb_place.specs.declared.step.PlaceStep.TheVariants as step
use Rattle.pb_c_message.specs.declared.value.PlainValue.{PlainValue}

-- bytes of the caller's
abbrev pub Bytes : Type 0
Bytes = Bor (List ℕ)

-- a step, with a key as the scalar that it is
pub data Step : Type 0 where
  field : ℕ → Step
  index : ℕ → Step
  key : Scalar → Step

abbrev pub step_view : PlaceStep → Step
step_view (step.Field n) = field n
step_view (step.Index i) = index i
step_view (step.Key k) = key (key_view k)

-- the number is all 64 bits of the two's complement of its low half
abbrev pub int32_said : ℕ → Option ℤ
int32_said n = if cast_unsigned w64 (cast_signed w32 (n % 2 ^ 32)) == n then Some (cast_signed w32 (n % 2 ^ 32)) else None

abbrev pub uint32_said : ℕ → Option ℕ
uint32_said n = if nat_lt n (2 ^ 32) then Some n else None

abbrev pub bool_said : ℕ → Option Bool
bool_said n = if n == 0 then Some false else (if n == 1 then Some true else None)

-- The kinds sfixed32, sint32, sfixed64, sint64, fixed32 and fixed64 count as the kind that has their values.
abbrev pub key_kind : ℕ → ℕ
key_kind k = if k == 15 || k == 17 then 5 else (if k == 16 || k == 18 then 3 else (if k == 7 then 13 else (if k == 6 then 4 else k)))

abbrev pub number_key_said : ℕ → ℕ → Option Scalar
number_key_said k n =
    if k == 5 then option_map int32 (int32_said n) else
    (if k == 3 then Some (int64 (cast_signed w64 n)) else
    (if k == 13 then option_map uint32 (uint32_said n) else
    (if k == 4 then Some (uint64 n) else
    (if k == 8 then option_map boolean (bool_said n) else None))))

-- a string is the one of this index among the given ones
abbrev pub text_key_said : List Bytes → ℕ → Option Scalar
text_key_said keys n = option_and_then (λ b. if is_utf8 b.now then Some (text b.now) else None) (slice_get keys n)

abbrev pub key_said : List Bytes → ℕ → ℕ → Option Scalar
key_said keys k n = if k == 9 then text_key_said keys n else number_key_said (key_kind k) n

-- what a step of C says
abbrev pub said : List Bytes → PlainValue → Option Step
said keys s =
    if s.kind == 21 then option_map field (uint32_said s.number) else
    (if s.kind == 22 then Some (index s.number) else option_map key (key_said keys s.kind s.number))

-- what all steps say, if each says something
abbrev pub places : List Bytes → List PlainValue → Option (List Step)
places keys [] = Some []
places keys (s ∷ ss) = option_and_then (λ x. option_map (λ xs. x ∷ xs) (places keys ss)) (said keys s)
