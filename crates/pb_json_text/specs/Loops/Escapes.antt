-- The parts of escapes as parts of strings.
use Rattle.std.specs.Prelude.{◌≡◌, ℕ, ◌<◌, ◌≤◌, [], ◌&&◌, nat_le, Option, Some, None, if◌then◌else◌, encode_utf8, ◌⊎◌}
use Rattle.std.specs.Char.{digit_value}
use Rattle.pb_json_text.specs.Loops.Machine.{StringPart, StringNext, goes, stops, text}
use Rattle.pb_json_text.specs.Loops.Machine as machine
use Rattle.pb_json_text.specs.declared.escape.EscapePart.{EscapePart}
use Rattle.pb_json_text.specs.declared.escape.EscapePart.TheVariants as part
use Rattle.pb_json_text.specs.declared.escape.EscapeNext.{EscapeNext}
use Rattle.pb_json_text.specs.declared.escape.EscapeNext.TheVariants.{Part, Character, Refused}

abbrev pub part_of : EscapePart → StringPart
part_of part.Backslash = machine.backslash
part_of part.Digits0 = machine.digits0
part_of (part.Digits1 a) = machine.digits1 a
part_of (part.Digits2 v) = machine.digits2 v
part_of (part.Digits3 v) = machine.digits3 v
part_of (part.High u) = machine.high u
part_of (part.HighBackslash u) = machine.high_backslash u
part_of (part.Low0 u) = machine.low0 u
part_of (part.Low1 u) = machine.low1 u
part_of (part.Low2 u v) = machine.low2 u v
part_of (part.Low3 u v) = machine.low3 u v

abbrev pub IsHigh : ℕ → Type 0
IsHigh u = (55296 ≤ u) × (u < 56320)

-- the digits so far begin a character
abbrev pub IsPart : EscapePart → Type 0
IsPart part.Backslash = Unit {0}
IsPart part.Digits0 = Unit {0}
IsPart (part.Digits1 a) = a < 16
IsPart (part.Digits2 v) = (v < 220) ⊎ ((224 ≤ v) × (v < 256))
IsPart (part.Digits3 v) = (v < 3520) ⊎ ((3584 ≤ v) × (v < 4096))
IsPart (part.High u) = IsHigh u
IsPart (part.HighBackslash u) = IsHigh u
IsPart (part.Low0 u) = IsHigh u
IsPart (part.Low1 u) = IsHigh u
IsPart (part.Low2 u v) = IsHigh u × (220 ≤ v) × (v < 224)
IsPart (part.Low3 u v) = IsHigh u × (3520 ≤ v) × (v < 3584)

-- the code's answer is the machine's
abbrev pub IsNext : StringNext → EscapeNext → Type 0
IsNext n (Part q) = (n ≡ goes (part_of q) []) × IsPart q
IsNext n (Character c) = n ≡ goes text (encode_utf8 c)
IsNext n Refused = n ≡ stops

-- the digit, where it is from least to most
abbrev pub digit_in : ℕ → ℕ → ℕ → Option ℕ
digit_in least most x = if nat_le least (digit_value x) && nat_le (digit_value x) most then Some (digit_value x) else None
