-- What a JSON value means as a number, a string and the like (ProtoJSON format, "JSON representation").
use Rattle.std.specs.Prelude.{◌≡◌, ℕ, ℤ, pos, List, Bool, true, Option, Some, None, option_map, find, codes, FitsSigned, IsUtf8, IsSomeAnd}
use Rattle.std.specs.Float.{Format}
use Rattle.std.specs.Int.{w32}
use Rattle.std.specs.Str.{bytes_eq}
use Rattle.pb_schema.specs.Types.{Types}
use Rattle.pb_schema.specs.Closed.{declares}
use Rattle.pb_schema.specs.EnumValues.{enum_values}
use Rattle.pb_schema.specs.Names.{enum_names, name_at}
use Rattle.pb_json_text.specs.Json.{Json, null, boolean, number, string, array, object}
use Rattle.pb_json_scalars.specs.Numbers.{IsIntegerText, IsFloatText, IsFloatString}
use Rattle.pb_json_scalars.specs.Base64.{base64_bytes}

-- the option has the one thing of which this holds, and none where it holds of nothing
abbrev pub IsOnly : {A : Type 0} → (A → Type 0) → Option A → Type 0
IsOnly {A} P None = (x : A) → ¬ P x
IsOnly {A} P (Some y) = P y × ((x : A) → P x → x ≡ y)

-- the characters of a number, or of a string
abbrev pub characters : Json → Option (List ℕ)
characters (number s) = Some s
characters (string s) = Some s
characters null = None
characters (boolean b) = None
characters (array js) = None
characters (object ms) = None

-- a number that equals the integer, or a string of such a number
abbrev pub IsInteger : Json → ℤ → Type 0
IsInteger j z = IsSomeAnd (characters j) (λ s. IsIntegerText s z)

-- the bits of the float nearest to a number, or of what a string says
abbrev pub IsFloat : Format → Json → ℕ → Type 0
IsFloat f (number s) bits = IsFloatText f s bits
IsFloat f (string s) bits = IsFloatString f s bits
IsFloat f null bits = ⊥
IsFloat f (boolean b) bits = ⊥
IsFloat f (array js) bits = ⊥
IsFloat f (object ms) bits = ⊥

abbrev pub IsBool : Json → Bool → Type 0
IsBool (boolean b) c = c ≡ b
IsBool null c = ⊥
IsBool (number s) c = ⊥
IsBool (string s) c = ⊥
IsBool (array js) c = ⊥
IsBool (object ms) c = ⊥

abbrev pub IsString : Json → List ℕ → Type 0
IsString (string s) t = IsUtf8 s × (t ≡ s)
IsString null t = ⊥
IsString (boolean b) t = ⊥
IsString (number s) t = ⊥
IsString (array js) t = ⊥
IsString (object ms) t = ⊥

-- a string of base64
abbrev pub IsBytes : Json → List ℕ → Type 0
IsBytes (string s) t = base64_bytes s ≡ Some t
IsBytes null t = ⊥
IsBytes (boolean b) t = ⊥
IsBytes (number s) t = ⊥
IsBytes (array js) t = ⊥
IsBytes (object ms) t = ⊥

-- the number of the first value with a name
abbrev pub number_named : List ℕ → List (List ℕ × ℤ) → Option ℤ
number_named name values = option_map (λ v. v.1) (find (λ v. bytes_eq v.0 name) values)

-- what a string means where a value may have its name
abbrev pub IsNamed : Option ℤ → List ℕ → ℤ → Type 0
IsNamed (Some n) s z = z ≡ n
IsNamed None s z = IsIntegerText s z × FitsSigned w32 z

-- the enum whose one value means null
abbrev pub is_null_enum : Types → ℕ → Bool
is_null_enum pool e = bytes_eq (name_at (enum_names pool) e) (codes "google.protobuf.NullValue")

-- the name of a value of the enum, or its number, also as a string
abbrev pub IsEnumValue : Types → ℕ → Json → ℤ → Type 0
IsEnumValue pool e (string s) z = IsNamed (number_named s (enum_values pool e)) s z
IsEnumValue pool e (number s) z = IsIntegerText s z × FitsSigned w32 z
IsEnumValue pool e null z = (is_null_enum pool e ≡ true) × (z ≡ pos 0)
IsEnumValue pool e (boolean b) z = ⊥
IsEnumValue pool e (array js) z = ⊥
IsEnumValue pool e (object ms) z = ⊥

-- of a closed enum the number is declared
abbrev pub IsClosedEnumValue : Types → ℕ → Json → ℤ → Type 0
IsClosedEnumValue pool e j z = IsEnumValue pool e j z × (declares pool e z ≡ true)
