-- The grammar of JSON (RFC 8259), by places: each definition says what there is from one place to another.
use Rattle.std.specs.Prelude.{◌≡◌, ℕ, suc, ◌+◌, ◌-◌, ◌*◌, ◌<◌, ◌≤◌, List, [], ◌∷◌, ◌++◌, length, codes, Bool, true, false, ◌==◌, ◌||◌, Option, Some, None, if◌then◌else◌, ◌⊎◌, encode_utf8}
use Rattle.std.specs.List.{AllByRecursion, flat_map}
use Rattle.std.specs.Char.{digit_value, is_ascii_digit}
use Rattle.pb_json_text.specs.Json.{Json, null, boolean, number, string, array, object, Elements, no_elements, element, Members, no_members, member, Placed}

-- a place: how many bytes are before it, and the bytes from it on
abbrev pub Place : Type 0
Place = ℕ × List ℕ

-- from one place to the other there are these bytes
abbrev pub Spells : List ℕ → Place → Place → Type 0
Spells w here after = (here.1 ≡ w ++ after.1) × (after.0 ≡ here.0 + length w)

-- WHITE SPACE (section 2)

abbrev pub is_blank : ℕ → Bool
is_blank x = x == 32 || x == 9 || x == 10 || x == 13

abbrev pub AreBlanks : List ℕ → Type 0
AreBlanks w = AllByRecursion (λ x. is_blank x ≡ true) w

abbrev pub Blanks : Place → Place → Type 0
Blanks here after = (w : List ℕ) × Spells w here after × AreBlanks w

-- NUMBERS (section 6)

abbrev pub AreDigits : List ℕ → Type 0
AreDigits w = AllByRecursion (λ x. is_ascii_digit x ≡ true) w

abbrev pub IsMinus : List ℕ → Type 0
IsMinus w = (w ≡ []) ⊎ (w ≡ codes "-")

-- no digit is before a 0 that is the first
abbrev pub IsWhole : List ℕ → Type 0
IsWhole w = (w ≡ codes "0") ⊎ ((x : ℕ) × (ds : List ℕ) × (w ≡ x ∷ ds) × (is_ascii_digit x ≡ true) × ((x == 48) ≡ false) × AreDigits ds)

abbrev pub IsFraction : List ℕ → Type 0
IsFraction w = (w ≡ []) ⊎ ((x : ℕ) × (ds : List ℕ) × (w ≡ 46 ∷ x ∷ ds) × AreDigits (x ∷ ds))

abbrev pub IsLetter : ℕ → Type 0
IsLetter x = (x ≡ 101) ⊎ (x ≡ 69)

abbrev pub IsSign : List ℕ → Type 0
IsSign w = (w ≡ []) ⊎ (w ≡ codes "-") ⊎ (w ≡ codes "+")

abbrev pub IsExponent : List ℕ → Type 0
IsExponent w =
    (w ≡ []) ⊎ ((letter : ℕ) × (sign : List ℕ) × (x : ℕ) × (ds : List ℕ) × (w ≡ letter ∷ (sign ++ x ∷ ds)) × IsLetter letter × IsSign sign × AreDigits (x ∷ ds))

pub record IsNumber (w : List ℕ) : Type 0 where
  pub minus : List ℕ
  pub whole : List ℕ
  pub fraction : List ℕ
  pub exponent : List ℕ
  pub joined : w ≡ minus ++ (whole ++ (fraction ++ exponent))
  pub is_minus : IsMinus minus
  pub is_whole : IsWhole whole
  pub is_fraction : IsFraction fraction
  pub is_exponent : IsExponent exponent

-- STRINGS (section 7)

-- A character: as it is, by a letter after a backslash, by four hexadecimal digits of UTF-16, or by two times four.
pub data Character : Type 0 where
  itself : ℕ → Character
  letter : ℕ → Character
  unit : ℕ → ℕ → ℕ → ℕ → Character
  pair : ℕ → ℕ → ℕ → ℕ → ℕ → ℕ → ℕ → ℕ → Character

-- what a letter after a backslash means
abbrev pub meaning_of_letter : ℕ → Option ℕ
meaning_of_letter x =
    if x == 34 then Some 34 else if x == 92 then Some 92 else if x == 47 then Some 47 else if x == 98 then Some 8 else if x == 102 then Some 12
    else if x == 110 then Some 10 else if x == 114 then Some 13 else if x == 116 then Some 9 else None

-- the code unit of four digits
abbrev pub unit_of : ℕ → ℕ → ℕ → ℕ → ℕ
unit_of a b c d = ((digit_value a * 16 + digit_value b) * 16 + digit_value c) * 16 + digit_value d

abbrev pub AreHex : ℕ → ℕ → ℕ → ℕ → Type 0
AreHex a b c d = (digit_value a < 16) × (digit_value b < 16) × (digit_value c < 16) × (digit_value d < 16)

abbrev pub IsSurrogate : ℕ → Type 0
IsSurrogate u = (55296 ≤ u) × (u < 57344)

abbrev pub surrogates : ℕ → ℕ → ℕ
surrogates high low = 65536 + (high - 55296) * 1024 + (low - 56320)

-- the character is one: no control character, quotation mark or backslash is itself, and surrogates come in pairs
abbrev pub IsCharacter : Character → Type 0
IsCharacter (itself x) = (32 ≤ x) × ((x == 34) ≡ false) × ((x == 92) ≡ false)
IsCharacter (letter x) = (m : ℕ) × (meaning_of_letter x ≡ Some m)
IsCharacter (unit a b c d) = AreHex a b c d × ((unit_of a b c d < 55296) ⊎ (57344 ≤ unit_of a b c d))
IsCharacter (pair a b c d e f g h) =
    AreHex a b c d × AreHex e f g h × (55296 ≤ unit_of a b c d) × (unit_of a b c d < 56320) × (56320 ≤ unit_of e f g h) × (unit_of e f g h < 57344)

abbrev pub bytes_of_character : Character → List ℕ
bytes_of_character (itself x) = x ∷ []
bytes_of_character (letter x) = 92 ∷ x ∷ []
bytes_of_character (unit a b c d) = 92 ∷ 117 ∷ a ∷ b ∷ c ∷ d ∷ []
bytes_of_character (pair a b c d e f g h) = 92 ∷ 117 ∷ a ∷ b ∷ c ∷ d ∷ 92 ∷ 117 ∷ e ∷ f ∷ g ∷ h ∷ []

abbrev pub some_byte : Option ℕ → List ℕ
some_byte None = []
some_byte (Some m) = m ∷ []

-- the bytes that a character means, in UTF-8
abbrev pub meaning_of : Character → List ℕ
meaning_of (itself x) = x ∷ []
meaning_of (letter x) = some_byte (meaning_of_letter x)
meaning_of (unit a b c d) = encode_utf8 (unit_of a b c d)
meaning_of (pair a b c d e f g h) = encode_utf8 (surrogates (unit_of a b c d) (unit_of e f g h))

-- characters written as w, which mean s
pub record Characters (s w : List ℕ) : Type 0 where
  pub all : List Character
  pub are : AllByRecursion IsCharacter all
  pub written : w ≡ flat_map bytes_of_character all
  pub meant : s ≡ flat_map meaning_of all

-- a string, in quotation marks
abbrev pub IsString : List ℕ → Place → Place → Type 0
IsString s here after = (w : List ℕ) × Spells (34 ∷ (w ++ 34 ∷ [])) here after × Characters s w

-- VALUES (sections 2 to 5)

-- this, with blanks around it
abbrev pub Around : (Place → Place → Type 0) → Place → Place → Type 0
Around V here after = (p q : Place) × Blanks here p × V p q × Blanks q after

abbrev pub bool_word : Bool → List ℕ
bool_word true = codes "true"
bool_word false = codes "false"

abbrev mutual
  -- a value, with arrays and objects nested no deeper than the number
  pub IsValue : ℕ → Json → Place → Place → Type 0
  IsValue levels null here after = Spells (codes "null") here after
  IsValue levels (boolean b) here after = Spells (bool_word b) here after
  IsValue levels (number d) here after = Spells d here after × IsNumber d
  IsValue levels (string s) here after = IsString s here after
  IsValue levels (array js) here after = (m : ℕ) × (p : Place) × (levels ≡ suc m) × Spells (codes "[") here p × AreElements m js p after
  IsValue levels (object ms) here after = (m : ℕ) × (p : Place) × (levels ≡ suc m) × Spells (codes "{") here p × AreMembers m ms p after

  -- elements up to the closing bracket
  pub AreElements : ℕ → Elements → Place → Place → Type 0
  AreElements m no_elements here after = (p : Place) × Blanks here p × Spells (codes "]") p after
  AreElements m (element at j js) here after =
      (p : Place) × Around (λ q r. (at ≡ q.0) × IsValue m j q r) here p × AreMoreElements m js p after

  -- those after the first
  pub AreMoreElements : ℕ → Elements → Place → Place → Type 0
  AreMoreElements m no_elements here after = Spells (codes "]") here after
  AreMoreElements m (element at j js) here after =
      (o p : Place) × Spells (codes ",") here o × Around (λ q r. (at ≡ q.0) × IsValue m j q r) o p × AreMoreElements m js p after

  -- members up to the closing bracket
  pub AreMembers : ℕ → Members → Place → Place → Type 0
  AreMembers m no_members here after = (p : Place) × Blanks here p × Spells (codes "}") p after
  AreMembers m (member name_at name at j ms) here after =
      (n o p : Place) × Around (λ q r. (name_at ≡ q.0) × IsString name q r) here n × Spells (codes ":") n o
      × Around (λ q r. (at ≡ q.0) × IsValue m j q r) o p × AreMoreMembers m ms p after

  pub AreMoreMembers : ℕ → Members → Place → Place → Type 0
  AreMoreMembers m no_members here after = Spells (codes "}") here after
  AreMoreMembers m (member name_at name at j ms) here after =
      (l n o p : Place) × Spells (codes ",") here l × Around (λ q r. (name_at ≡ q.0) × IsString name q r) l n × Spells (codes ":") n o
      × Around (λ q r. (at ≡ q.0) × IsValue m j q r) o p × AreMoreMembers m ms p after

-- the bytes are a value with blanks around it (RFC 8259, section 2)
abbrev pub IsText : ℕ → Placed → List ℕ → Type 0
IsText levels v b = (end : ℕ) × Around (λ p q. (v.0 ≡ p.0) × IsValue levels v.1 p q) (0, b) (end, [])
