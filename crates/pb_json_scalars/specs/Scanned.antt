-- What the scan of a number answers. Only private clauses cite it.
use Rattle.std.specs.Prelude.{◌≡◌, ℕ, Bool, true, false, not, Option, Some, None, if◌then◌else◌, ◌&&◌, ◌||◌, ◌==◌, nat_lt, List, [], ◌∷◌, ◌++◌, length, drop, slice_index}
use Rattle.fast_float.specs.Text.{Parts}
use Rattle.pb_json_scalars.specs.Numbers.{Number, IsNumber, Sign, none, plus, minus, fraction_text, exponent_text}

-- a number without its minus
abbrev pub unsigned_text : Number → List ℕ
unsigned_text n = n.whole ++ (fraction_text n.fraction ++ exponent_text n.upper n.sign n.exponent)

abbrev pub is_some : List ℕ → Bool
is_some [] = false
is_some (d ∷ ds) = true

abbrev pub goes_down : Sign → List ℕ → Bool
goes_down none exponent = false
goes_down plus exponent = false
goes_down minus exponent = is_some exponent

-- the parts of a numeral that a number is
abbrev pub parts_of : Number → Parts
parts_of n = record {
  whole = n.whole;
  point = is_some n.fraction;
  fraction = n.fraction;
  exponent_negative = goes_down n.sign n.exponent;
  exponent = n.exponent;
  len = length (unsigned_text n);
}

abbrev pub ScannedAs : Number → Bool → Parts → Type 0
ScannedAs n negative p = (negative ≡ n.negative) × (p ≡ parts_of n)

abbrev pub IsScanned : List ℕ → Bool → Parts → Type 0
IsScanned s negative p = (n : Number) × IsNumber s n × ScannedAs n negative p

-- what follows a minus that comes first
abbrev pub without_minus : List ℕ → List ℕ
without_minus s = drop (if slice_index s 0 == 45 then 1 else 0) s

-- one digit or more, and no 0 before another
abbrev pub is_int : List ℕ → Bool
is_int ds = nat_lt 0 (length ds) && (not (slice_index ds 0 == 48) || (length ds == 1))

-- the numeral that is read first is a number, and takes all characters
abbrev pub is_number : Parts → ℕ → Bool
is_number p n = (p.len == n) && (is_int p.whole && (not p.point || nat_lt 0 (length p.fraction)))

-- a number of this size, where it is not below 0
abbrev pub unsigned : Bool → ℕ → Option ℕ
unsigned negative size = if negative && not (size == 0) then None else Some size
