-- Keys of maps, as strings (ProtoJSON format, "JSON representation").
use Rattle.std.specs.Prelude.{◌≡◌, ℕ, Bool, true, false, List, ◌++◌, ℤ, Option, Some, None, if◌then◌else◌, codes}
use Rattle.std.specs.Str.{bytes_eq}
use Rattle.std.specs.Str.Parse.{digits_value}
use Rattle.pb_json_scalars.specs.Numbers.{IsInt, minus_text, signed}

-- a decimal integer: perhaps a minus, and digits, of which the first is no 0 before another
abbrev pub IsKeyText : List ℕ → ℤ → Type 0
IsKeyText s z = (negative : Bool) × (ds : List ℕ) × IsInt ds × (s ≡ minus_text negative ++ ds) × (z ≡ signed negative (digits_value 10 ds))

abbrev pub bool_key : List ℕ → Option Bool
bool_key s = if bytes_eq s (codes "true") then Some true else if bytes_eq s (codes "false") then Some false else None
