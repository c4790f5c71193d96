-- The grammar of paths, in the notation of RFC 5234, and the place that each path spells.
--
--     path      = "" / part *("." part)
--     part      = name / name "[" index "]" / name "[" key "]"
--     name      = *(ALPHA / DIGIT / "_")
--     index     = 1*DIGIT
--     key       = integer / "true" / "false" / string
--     integer   = ["-"] 1*DIGIT
--     string    = %x22 *character %x22
--     character = any byte but %x22 and "\" / "\" %x22 / "\\" / "\x" HEXDIG HEXDIG
--
-- A name is that of a field of the message. An index comes after a list, a key after a map, as the type of its keys says. A part before a dot leads to
-- one message, and the next name is that of a field of its type. The name of a list or of a map alone leads to all of it, and so to no dot. The empty
-- path is the message itself.
use Rattle.std.specs.Prelude.{◌≡◌, ◌≢◌, ◌⊎◌, ◌<◌, ◌+◌, ◌*◌, ◌^◌, ℕ, ℤ, pos, neg_ℤ, List, [], ◌∷◌, ◌++◌, length, drop, map, codes}
use Rattle.std.specs.Prelude.{true, false, ◌==◌, ◌||◌, if◌then◌else◌, Option, Some, None, Ok, option_map, option_and_then, FitsSigned}
use Rattle.std.specs.Fmt.{decimal, signed_decimal}
use Rattle.std.specs.Int.{cast_unsigned, w32, w64}
use Rattle.std.specs.List.{list_all, concat}
use Rattle.std.specs.Str.Parse.{IsNumeral, digits_value}
use Rattle.pb_schema.specs.Kinds.{message_of_kind}
use Rattle.pb_schema.specs.Names.{continues_word}
use Rattle.pb_schema.specs.Scalar.{Scalar, int32, int64, uint32, uint64, boolean, float, double, enum, text, bytes}
use Rattle.pb_schema.specs.Tables.{field_named}
use Rattle.pb_schema.specs.Types.{FieldView, Types, field_numbered, message_fields}
use Rattle.pb_schema.specs.declared.types.Kind.{Kind}
use Rattle.pb_schema.specs.declared.types.Kind.TheVariants as kind
use Rattle.pb_schema.specs.declared.types.Shape.{Shape}
use Rattle.pb_schema.specs.declared.types.Shape.TheVariants as shape
use Rattle.pb_c_message.specs.Places.{Step, field, index, key}
use Rattle.pb_c_message.specs.declared.value.PlainValue.{PlainValue}
use Rattle.pb_c_paths.specs.Path.{Read, path_read, plain}
use Rattle.pb_c_paths.specs.Reading.{digit_of, is_many}

-- NUMBERS AND STRINGS

abbrev pub SpellsNumber : List ℕ → ℕ → Type 0
SpellsNumber s n = IsNumeral 10 s × (digits_value 10 s ≡ n)

pub data SpellsInteger : List ℕ → ℤ → Type 0 where
  unsigned : {s : List ℕ} {n : ℕ} → SpellsNumber s n → SpellsInteger s (pos n)
  minus : {s : List ℕ} {n : ℕ} → SpellsNumber s n → SpellsInteger (45 ∷ s) (neg_ℤ (pos n))

-- the bytes between the quotes, and the string
pub data SpellsString : List ℕ → List ℕ → Type 0 where
  nothing : SpellsString [] []
  itself : {c : ℕ} {s w : List ℕ} → c ≢ 34 → c ≢ 92 → SpellsString s w → SpellsString (c ∷ s) (c ∷ w)
  escaped : {c : ℕ} {s w : List ℕ} → (c ≡ 34) ⊎ (c ≡ 92) → SpellsString s w → SpellsString (92 ∷ c ∷ s) (c ∷ w)
  by_digits : {h l a b : ℕ} {s w : List ℕ} → digit_of h ≡ Some a → digit_of l ≡ Some b → SpellsString s w
      → SpellsString (92 ∷ 120 ∷ h ∷ l ∷ s) ((a * 16 + b) ∷ w)

-- KEYS

abbrev pub SpellsInt32 : List ℕ → Scalar → Type 0
SpellsInt32 s k = (z : ℤ) × (k ≡ int32 z) × SpellsInteger s z × FitsSigned w32 z

abbrev pub SpellsInt64 : List ℕ → Scalar → Type 0
SpellsInt64 s k = (z : ℤ) × (k ≡ int64 z) × SpellsInteger s z × FitsSigned w64 z

abbrev pub SpellsUint32 : List ℕ → Scalar → Type 0
SpellsUint32 s k = (n : ℕ) × (k ≡ uint32 n) × SpellsNumber s n × (n < 2 ^ 32)

abbrev pub SpellsUint64 : List ℕ → Scalar → Type 0
SpellsUint64 s k = (n : ℕ) × (k ≡ uint64 n) × SpellsNumber s n × (n < 2 ^ 64)

abbrev pub SpellsBool : List ℕ → Scalar → Type 0
SpellsBool s k = ((s ≡ codes "true") × (k ≡ boolean true)) ⊎ ((s ≡ codes "false") × (k ≡ boolean false))

abbrev pub quoted : List ℕ → List ℕ
quoted s = 34 ∷ (s ++ (34 ∷ []))

abbrev pub SpellsText : List ℕ → Scalar → Type 0
SpellsText s k = (inside : List ℕ) × (w : List ℕ) × (s ≡ quoted inside) × SpellsString inside w × (k ≡ text w)

-- a key, in a map with keys of this kind
abbrev pub SpellsKey : Kind → List ℕ → Scalar → Type 0
SpellsKey kind.Int32 s k = SpellsInt32 s k
SpellsKey kind.Sint32 s k = SpellsInt32 s k
SpellsKey kind.Sfixed32 s k = SpellsInt32 s k
SpellsKey kind.Int64 s k = SpellsInt64 s k
SpellsKey kind.Sint64 s k = SpellsInt64 s k
SpellsKey kind.Sfixed64 s k = SpellsInt64 s k
SpellsKey kind.Uint32 s k = SpellsUint32 s k
SpellsKey kind.Fixed32 s k = SpellsUint32 s k
SpellsKey kind.Uint64 s k = SpellsUint64 s k
SpellsKey kind.Fixed64 s k = SpellsUint64 s k
SpellsKey kind.Bool s k = SpellsBool s k
SpellsKey kind.Text s k = SpellsText s k
SpellsKey kind.Bytes s k = ⊥
SpellsKey kind.Double s k = ⊥
SpellsKey kind.Float s k = ⊥
SpellsKey (kind.Enum e) s k = ⊥
SpellsKey (kind.ClosedEnum e) s k = ⊥
SpellsKey (kind.Message m) s k = ⊥
SpellsKey (kind.Group m) s k = ⊥

-- PARTS AND PATHS

abbrev pub in_brackets : List ℕ → List ℕ
in_brackets s = 91 ∷ (s ++ (93 ∷ []))

-- what is in the brackets after a list or a map, and its step
abbrev pub SpellsInside : Shape → List ℕ → Step → Type 0
SpellsInside (shape.List packed) s t = (n : ℕ) × (t ≡ index n) × SpellsNumber s n × (n < 2 ^ 64)
SpellsInside (shape.Map keys) s t = (k : Scalar) × (t ≡ key k) × SpellsKey keys s k
SpellsInside shape.Implicit s t = ⊥
SpellsInside shape.Explicit s t = ⊥
SpellsInside (shape.OneofMember o) s t = ⊥

-- the name of a field of a message type
pub record Names (pool : Types) (m : ℕ) (w : List ℕ) (f : FieldView) : Type 0 where
  pub word : list_all continues_word w ≡ true
  pub found : field_named w (message_fields pool m) ≡ Some f

-- a part, its steps, and the kind of the one value that it leads to
pub data SpellsPart (pool : Types) (m : ℕ) : List ℕ → List Step → Kind → Type 0 where
  one : {w : List ℕ} {f : FieldView} → Names pool m w f → is_many f.shape ≡ false → SpellsPart pool m w (field f.number ∷ []) f.kind
  one_of_many : {w : List ℕ} {f : FieldView} (s : List ℕ) (t : Step) → Names pool m w f → SpellsInside f.shape s t
      → SpellsPart pool m (w ++ in_brackets s) (field f.number ∷ t ∷ []) f.kind

-- one part or more, and the steps of all
pub data SpellsParts (pool : Types) : ℕ → List ℕ → List Step → Type 0 where
  all : {m : ℕ} {w : List ℕ} {f : FieldView} → Names pool m w f → is_many f.shape ≡ true → SpellsParts pool m w (field f.number ∷ [])
  last : {m : ℕ} {p : List ℕ} {ss : List Step} {k : Kind} → SpellsPart pool m p ss k → SpellsParts pool m p ss
  inside : {m n : ℕ} {p q : List ℕ} {ss ts : List Step} {k : Kind} → SpellsPart pool m p ss k → message_of_kind k ≡ Some n → SpellsParts pool n q ts
      → SpellsParts pool m (p ++ (46 ∷ q)) (ss ++ ts)

-- a path, from a message type on
pub data SpellsPath (pool : Types) (m : ℕ) : List ℕ → List Step → Type 0 where
  message : SpellsPath pool m [] []
  parts : {c : ℕ} {p : List ℕ} {ss : List Step} → SpellsParts pool m (c ∷ p) ss → SpellsPath pool m (c ∷ p) ss

-- STEPS AS C HAS THEM

-- a key: of a number all its 64 bits, and of a string its index among the strings
abbrev pub plain_key : ℕ → Scalar → PlainValue
plain_key i (int32 z) = plain 5 (cast_unsigned w64 z)
plain_key i (int64 z) = plain 3 (cast_unsigned w64 z)
plain_key i (uint32 n) = plain 13 n
plain_key i (uint64 n) = plain 4 n
plain_key i (boolean b) = plain 8 (if b then 1 else 0)
plain_key i (text w) = plain 9 i
plain_key i (float n) = plain 9 i
plain_key i (double n) = plain 9 i
plain_key i (enum z) = plain 9 i
plain_key i (bytes w) = plain 9 i

abbrev pub plain_step : ℕ → Step → PlainValue
plain_step i (field n) = plain 21 n
plain_step i (index n) = plain 22 n
plain_step i (key k) = plain_key i k

abbrev pub string_of_key : Scalar → List (List ℕ)
string_of_key (text w) = w ∷ []
string_of_key (int32 z) = []
string_of_key (int64 z) = []
string_of_key (uint32 n) = []
string_of_key (uint64 n) = []
string_of_key (boolean b) = []
string_of_key (float n) = []
string_of_key (double n) = []
string_of_key (enum z) = []
string_of_key (bytes w) = []

-- the string of a step, if it is one
abbrev pub string_of : Step → List (List ℕ)
string_of (field n) = []
string_of (index n) = []
string_of (key k) = string_of_key k

abbrev pub strings_of : List Step → List (List ℕ)
strings_of [] = []
strings_of (s ∷ ss) = string_of s ++ strings_of ss

-- the steps, where this many strings are before them
abbrev pub plain_steps : ℕ → List Step → List PlainValue
plain_steps i [] = []
plain_steps i (s ∷ ss) = plain_step i s ∷ plain_steps (length (string_of s) + i) ss

-- what was read are these steps
pub record Holds (r : Read) (ss : List Step) : Type 0 where
  pub steps : r.steps ≡ plain_steps 0 ss
  pub lengths : r.lengths ≡ map length (strings_of ss)
  pub strings : r.strings ≡ concat (strings_of ss)

-- THE LAWS

-- what was read of a path is a place that the path spells
pub record IsSpelledBy (pool : Types) (m : ℕ) (path : List ℕ) (r : Read) : Type 0 where
  pub steps : List Step
  pub spelled : SpellsPath pool m path steps
  pub holds : Holds r steps

-- the place that a path spells is read of it
pub record IsReadAs (pool : Types) (m : ℕ) (path : List ℕ) (ss : List Step) : Type 0 where
  pub read : Read
  pub comes : path_read pool m path ≡ Ok read
  pub holds : Holds read ss

abbrev pub ReadIsSpelled : Types → Type 0
ReadIsSpelled pool = (m : ℕ) (path : List ℕ) (r : Read) → path_read pool m path ≡ Ok r → IsSpelledBy pool m path r

abbrev pub SpelledIsRead : Types → Type 0
SpelledIsRead pool = (m : ℕ) (path : List ℕ) (ss : List Step) → SpellsPath pool m path ss → IsReadAs pool m path ss

abbrev pub SpellsOnePlace : Types → Type 0
SpellsOnePlace pool = (m : ℕ) (path : List ℕ) (ss ts : List Step) → SpellsPath pool m path ss → SpellsPath pool m path ts → ss ≡ ts

-- THE SPELLING OF A PLACE

-- a string, in which a quote and a backslash are after a backslash
abbrev pub spelled_string : List ℕ → List ℕ
spelled_string [] = []
spelled_string (c ∷ cs) = if c == 34 || c == 92 then 92 ∷ c ∷ spelled_string cs else c ∷ spelled_string cs

abbrev pub spelled_key : Scalar → List ℕ
spelled_key (int32 z) = signed_decimal z
spelled_key (int64 z) = signed_decimal z
spelled_key (uint32 n) = decimal n
spelled_key (uint64 n) = decimal n
spelled_key (boolean b) = if b then codes "true" else codes "false"
spelled_key (text w) = quoted (spelled_string w)
spelled_key (float n) = []
spelled_key (double n) = []
spelled_key (enum z) = []
spelled_key (bytes w) = []

abbrev pub message_after : Option FieldView → Option ℕ
message_after None = None
message_after (Some f) = message_of_kind f.kind

abbrev pub field_in : Types → Option ℕ → ℕ → Option FieldView
field_in pool None n = None
field_in pool (Some m) n = field_numbered n (message_fields pool m)

-- a dot and the name of each field, and brackets around each index and key
abbrev pub spelled_steps : Types → Option ℕ → List Step → Option (List ℕ)
spelled_steps pool o [] = Some []
spelled_steps pool o (field n ∷ ss) =
    let f = field_in pool o n in let rest = spelled_steps pool (message_after f) ss in
    option_and_then (λ (g : FieldView). option_map (λ q. 46 ∷ (g.name ++ q)) rest) f
spelled_steps pool o (index n ∷ ss) = option_map (λ q. in_brackets (decimal n) ++ q) (spelled_steps pool o ss)
spelled_steps pool o (key k ∷ ss) = option_map (λ q. in_brackets (spelled_key k) ++ q) (spelled_steps pool o ss)

-- the one path that is written for a place, from a message type on, if all its fields are there
abbrev pub spelled : Types → ℕ → List Step → Option (List ℕ)
spelled pool m ss = option_map (drop 1) (spelled_steps pool (Some m) ss)

-- the spelling of a place is a path to it
pub record IsSpelledBack (pool : Types) (m : ℕ) (ss : List Step) : Type 0 where
  pub path : List ℕ
  pub written : spelled pool m ss ≡ Some path
  pub read : SpellsPath pool m path ss

-- each place that a path spells has a spelling
abbrev pub PlacesAreSpelled : Types → Type 0
PlacesAreSpelled pool = (m : ℕ) (path : List ℕ) (ss : List Step) → SpellsPath pool m path ss → IsSpelledBack pool m ss
