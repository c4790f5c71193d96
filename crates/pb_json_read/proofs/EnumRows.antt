-- Values of enums, and what is passed over: small cases, worked out by the definitions.
use Rattle.std.proofs.Common.{◌≡◌, ℤ, List, [], ◌∷◌, true, false, Some, None, Ok, Err, refl, arith, pos, negsuc, codes}
use Rattle.std.specs.Prelude.{FitsSigned}
use Rattle.std.specs.Int.{w32}
use Rattle.pb_schema.specs.declared.types.Kind.TheVariants as kind
use Rattle.pb_schema.specs.Types.{Types}
use Rattle.pb_json_scalars.specs.Numbers.{IsIntegerText, none}
use Rattle.pb_json_text.specs.Json as json
use Rattle.pb_json_read.specs.declared.rules.JsonRules.TheVariants.{Strict, Lenient}
use Rattle.pb_json_read.specs.Scalars.{IsClosedEnumValue, IsEnumValue}
use Rattle.pb_json_read.specs.Steps.{passes_over}

abbrev pool : Types
pool = record {
  files = [];
  messages = [];
  enums = record { name = codes "Color"; file = 0; parent = None; values = (codes "RED", pos 0) ∷ (codes "BLUE", pos 5) ∷ [] } ∷ [];
}

seven : IsIntegerText (codes "7") (pos 7)
seven = (
  record { negative = false; whole = codes "7"; fraction = []; upper = false; sign = none; exponent = [] },
  record { whole = ((omega arith, (omega arith, tt)), λ e. refl); fraction = tt; exponent = tt; text = refl },
  (7, refl, refl),
)

seven_fits : FitsSigned w32 (pos 7)
seven_fits = grind arith

-- ---- by name, by number, and by a number in a string, also one that no value has

by_name : IsEnumValue pool 0 (json.string (codes "BLUE")) (pos 5)
by_name = refl

by_number : IsEnumValue pool 0 (json.number (codes "7")) (pos 7)
by_number = (seven, seven_fits)

by_number_in_a_string : IsEnumValue pool 0 (json.string (codes "7")) (pos 7)
by_number_in_a_string = (seven, seven_fits)

not_of_another_name : ¬ IsEnumValue pool 0 (json.string (codes "BLUE")) (pos 0)
not_of_another_name e = cc

no_null : ¬ IsEnumValue pool 0 json.null (pos 0)
no_null e = cc

-- ---- a closed enum has the numbers that it declares

declared : IsClosedEnumValue pool 0 (json.string (codes "BLUE")) (pos 5)
declared = (refl, refl)

not_declared : ¬ IsClosedEnumValue pool 0 (json.number (codes "7")) (pos 7)
not_declared e = cc

-- ---- strings alone are passed over, and those of enums alone

unknown_value_passes : passes_over Lenient (kind.Enum (record { 0 = 0 })) (json.string (codes "GREEN")) ≡ true
unknown_value_passes = refl

of_a_closed_enum_too : passes_over Lenient (kind.ClosedEnum (record { 0 = 0 })) (json.string (codes "GREEN")) ≡ true
of_a_closed_enum_too = refl

no_fraction_passes : passes_over Lenient (kind.Enum (record { 0 = 0 })) (json.number (codes "1.5")) ≡ false
no_fraction_passes = refl

no_large_number_passes : passes_over Lenient (kind.ClosedEnum (record { 0 = 0 })) (json.number (codes "3e9")) ≡ false
no_large_number_passes = refl

strictly_none_passes : passes_over Strict (kind.Enum (record { 0 = 0 })) (json.string (codes "GREEN")) ≡ false
strictly_none_passes = refl
