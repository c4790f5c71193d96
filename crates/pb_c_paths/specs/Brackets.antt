-- What a path has in brackets: an index, or the key of a map that is no string.
use Rattle.std.specs.Prelude.{ℕ, ◌+◌, ◌-◌, ◌*◌, ◌^◌, nat_lt, List, [], ◌∷◌, drop, Bool, true, false, ◌==◌, ◌||◌, if◌then◌else◌, codes}
use Rattle.std.specs.Prelude.{Option, Some, None, option_and_then}
use Rattle.std.specs.Str.{bytes_eq}
use Rattle.pb_schema.specs.declared.types.Kind.{Kind}
use Rattle.pb_schema.specs.declared.types.Kind.TheVariants as kind

-- a number below a limit
abbrev pub below : ℕ → Option ℕ → Option ℕ
below limit None = None
below limit (Some n) = if nat_lt n limit then Some n else None

-- the number with one digit more, if 64 bits hold it
abbrev pub with_digit : ℕ → ℕ → Option ℕ
with_digit n c = if nat_lt c 48 || nat_lt 57 c then None else below (2 ^ 64) (Some (n * 10 + (c - 48)))

abbrev pub decimal_from : ℕ → List ℕ → Option ℕ
decimal_from n [] = Some n
decimal_from n (c ∷ cs) = option_and_then (λ m. decimal_from m cs) (with_digit n c)

-- the number of one digit or more, if 64 bits hold it
abbrev pub decimal : List ℕ → Option ℕ
decimal [] = None
decimal (c ∷ cs) = decimal_from 0 (c ∷ cs)

abbrev pub has_minus : List ℕ → Bool
has_minus [] = false
has_minus (c ∷ cs) = c == 45

-- the 64 bits of minus a number
abbrev pub minus_bits : ℕ → ℕ
minus_bits n = if n == 0 then 0 else (2 ^ 64 - 1) - (n - 1)

abbrev pub minus_option : Option ℕ → Option ℕ
minus_option None = None
minus_option (Some n) = Some (minus_bits n)

-- the 64 bits of a number from minus the limit on, and below the limit
abbrev pub signed_bits : ℕ → List ℕ → Option ℕ
signed_bits limit s = if has_minus s then minus_option (below (limit + 1) (decimal (drop 1 s))) else below limit (decimal s)

abbrev pub truth : List ℕ → Option ℕ
truth s = if bytes_eq s (codes "true") then Some 1 else if bytes_eq s (codes "false") then Some 0 else None

-- the kind of a key, as a step has it
abbrev pub key_kind : Kind → ℕ
key_kind kind.Int32 = 5
key_kind kind.Sint32 = 5
key_kind kind.Sfixed32 = 5
key_kind kind.Int64 = 3
key_kind kind.Sint64 = 3
key_kind kind.Sfixed64 = 3
key_kind kind.Uint32 = 13
key_kind kind.Fixed32 = 13
key_kind kind.Uint64 = 4
key_kind kind.Fixed64 = 4
key_kind kind.Bool = 8
key_kind kind.Text = 9
key_kind kind.Bytes = 9
key_kind kind.Double = 9
key_kind kind.Float = 9
key_kind (kind.Enum e) = 9
key_kind (kind.ClosedEnum e) = 9
key_kind (kind.Message m) = 9
key_kind (kind.Group m) = 9

-- the number of a key of a kind that is no string, as a step has it
abbrev pub key_bits : Kind → List ℕ → Option ℕ
key_bits kind.Int32 s = signed_bits (2 ^ 31) s
key_bits kind.Sint32 s = signed_bits (2 ^ 31) s
key_bits kind.Sfixed32 s = signed_bits (2 ^ 31) s
key_bits kind.Int64 s = signed_bits (2 ^ 63) s
key_bits kind.Sint64 s = signed_bits (2 ^ 63) s
key_bits kind.Sfixed64 s = signed_bits (2 ^ 63) s
key_bits kind.Uint32 s = below (2 ^ 32) (decimal s)
key_bits kind.Fixed32 s = below (2 ^ 32) (decimal s)
key_bits kind.Uint64 s = decimal s
key_bits kind.Fixed64 s = decimal s
key_bits kind.Bool s = truth s
key_bits kind.Text s = None
key_bits kind.Bytes s = None
key_bits kind.Double s = None
key_bits kind.Float s = None
key_bits (kind.Enum e) s = None
key_bits (kind.ClosedEnum e) s = None
key_bits (kind.Message m) s = None
key_bits (kind.Group m) s = None
