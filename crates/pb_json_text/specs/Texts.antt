-- What a JSON text is, and what is wrong with bytes that are none.
use Rattle.std.specs.Prelude.{◌≡◌, ℕ, ◌+◌, ◌<◌, List, ◌++◌, length, take, IsUtf8}
use Rattle.std.specs.Str.Lossy.{utf8_valid_len}
use Rattle.pb_json_text.specs.Json.{Placed}
use Rattle.pb_json_text.specs.Grammar.{IsText}
use Rattle.pb_json_text.specs.declared.fault.JsonCause.{JsonCause}
use Rattle.pb_json_text.specs.declared.fault.JsonCause.TheVariants.{UnexpectedByte, UnexpectedEnd, BadUtf8, TooDeep, OutOfMemory}

-- how deep arrays and objects may nest
abbrev pub max_depth : ℕ
max_depth = 100

-- the bytes are a JSON text of this value (RFC 8259, sections 2 and 8.1)
abbrev pub IsJson : Placed → List ℕ → Type 0
IsJson v b = IsUtf8 b × IsText max_depth v b

-- some text that nests no deeper than the number begins with the bytes, apart from what UTF-8 asks of strings
abbrev pub Begins : ℕ → List ℕ → Type 0
Begins levels front = (more : List ℕ) × (v : Placed) × IsText levels v (front ++ more)

-- the bytes before this place begin a text, and with the byte there they do not
pub record IsFirstBad (b : List ℕ) (n : ℕ) : Type 0 where
  pub within : n < utf8_valid_len b
  pub before : Begins max_depth (take n b)
  pub bad : ¬ Begins max_depth (take (n + 1) b)

-- the bytes are no JSON text, for this cause at this place
abbrev pub HasFault : JsonCause → List ℕ → ℕ → Type 0
HasFault UnexpectedByte b n = IsFirstBad b n × (¬ Begins (max_depth + 1) (take (n + 1) b))
HasFault TooDeep b n = IsFirstBad b n × Begins (max_depth + 1) (take (n + 1) b)
HasFault UnexpectedEnd b n = (n ≡ length b) × IsUtf8 b × Begins max_depth b × ((v : Placed) → ¬ IsText max_depth v b)
HasFault BadUtf8 b n = (n ≡ utf8_valid_len b) × (n < length b) × Begins max_depth (take n b)
HasFault OutOfMemory b n = ⊥
