-- What a JSON value is written as (RFC 8259): on one line without blanks, or with each element and each member on a line of its own, two blanks
-- deeper than what holds it.
use Rattle.std.specs.Prelude.{◌≡◌, ℕ, ◌+◌, ◌*◌, ◌≤◌, List, [], ◌∷◌, ◌++◌, length, Bool, true, false, ◌==◌, nat_lt, unsigned_abs, Option, Some, None, codes, replicate}
use Rattle.std.specs.Prelude.{if◌then◌else◌}
use Rattle.std.specs.List.{flat_map}
use Rattle.hex.specs.Hex.{encode_lower}
use Rattle.ryu.specs.Parse.{parse_float}
use Rattle.ryu.specs.Plain.{IsPlainNumber}
use Rattle.pb_json.specs.Times.{IsInstantText}
use Rattle.pb_json.specs.declared.form.Layout.{Layout}
use Rattle.pb_json.specs.declared.form.Layout.TheVariants.{Compact, Indented}
use Rattle.pb_json.specs.Json.{Json, null, truth, number, real, plain, string, instant, array, object, Elements, no_elements, element, Members, no_members, member}

-- STRINGS (RFC 8259, section 7)

-- the letter after the backslash, of a character that has a short escape
abbrev pub escape_letter : ℕ → Option ℕ
escape_letter b =
    if b == 34 then Some 34 else if b == 92 then Some 92 else if b == 8 then Some 98 else if b == 12 then Some 102 else if b == 10 then Some 110
    else if b == 13 then Some 114 else if b == 9 then Some 116 else None

abbrev pub control_or_itself : ℕ → List ℕ
control_or_itself b = if nat_lt b 32 then codes "\\u00" ++ encode_lower (b ∷ []) else b ∷ []

abbrev pub escaped_or : Option ℕ → List ℕ → List ℕ
escaped_or None other = other
escaped_or (Some letter) other = 92 ∷ letter ∷ []

-- a byte of a string: a quote, a backslash and a control character are escaped
abbrev pub string_byte : ℕ → List ℕ
string_byte b = escaped_or (escape_letter b) (control_or_itself b)

abbrev pub in_quotes : List ℕ → List ℕ
in_quotes s = codes "\"" ++ s ++ codes "\""

abbrev pub string_text : List ℕ → List ℕ
string_text s = in_quotes (flat_map string_byte s)

abbrev pub bool_text : Bool → List ℕ
bool_text true = codes "true"
bool_text false = codes "false"

-- VALUES

-- the comma before all but the first
abbrev pub separator : Bool → List ℕ
separator true = []
separator false = codes ","

-- a line feed and two blanks a level
abbrev pub new_line : Layout → ℕ → List ℕ
new_line Compact indent = []
new_line Indented indent = codes "\n" ++ replicate (2 * indent) 32

abbrev pub colon : Layout → List ℕ
colon Compact = codes ":"
colon Indented = codes ": "

-- before the closing bracket; nothing where nothing is held
abbrev pub closing_line : Layout → ℕ → Bool → List ℕ
closing_line layout indent true = []
closing_line layout indent false = new_line layout indent

-- before a member's value
abbrev pub member_start : Layout → ℕ → Bool → List ℕ → List ℕ
member_start layout indent is_first name = separator is_first ++ new_line layout indent ++ string_text name ++ colon layout

module _ (layout : Layout) where
  abbrev mutual
    -- the bytes are the value's, which begins on a line of this indentation; a float is written in at most 25 characters, any that read back as it
    pub IsJsonText : ℕ → Json → List ℕ → Type 0
    IsJsonText indent null s = s ≡ codes "null"
    IsJsonText indent (truth b) s = s ≡ bool_text b
    IsJsonText indent (number digits) s = s ≡ digits
    IsJsonText indent (real f x) s = IsPlainNumber s × (parse_float f s ≡ Some x) × (length s ≤ 25)
    IsJsonText indent (plain c) s = s ≡ in_quotes c
    IsJsonText indent (string c) s = s ≡ string_text c
    IsJsonText indent (instant z n) s = (t : List ℕ) × (s ≡ in_quotes t) × IsInstantText z (unsigned_abs n) t
    IsJsonText indent (array js) s = (rest : List ℕ) × (s ≡ codes "[" ++ rest) × AreElements indent true js rest
    IsJsonText indent (object ms) s = (rest : List ℕ) × (s ≡ codes "{" ++ rest) × AreMembers indent true ms rest

    -- elements up to the closing bracket; the first has no comma before it
    pub AreElements : ℕ → Bool → Elements → List ℕ → Type 0
    AreElements indent is_first no_elements s = s ≡ closing_line layout indent is_first ++ codes "]"
    AreElements indent is_first (element j js) s =
        (one rest : List ℕ) × (s ≡ (separator is_first ++ new_line layout (indent + 1) ++ one) ++ rest) × IsJsonText (indent + 1) j one
        × AreElements indent false js rest

    pub AreMembers : ℕ → Bool → Members → List ℕ → Type 0
    AreMembers indent is_first no_members s = s ≡ closing_line layout indent is_first ++ codes "}"
    AreMembers indent is_first (member name j ms) s =
        (one rest : List ℕ) × (s ≡ (member_start layout (indent + 1) is_first name ++ one) ++ rest) × IsJsonText (indent + 1) j one
        × AreMembers indent false ms rest
