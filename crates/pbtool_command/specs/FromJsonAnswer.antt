-- What `from-json` answers: the file is read as JSON, and the canonical bytes of its message are written to another, or it is refused.
use Rattle.std.specs.Prelude.{◌≡◌, ◌<◌, ◌≤◌, ℕ, List, codes, length}
use Rattle.pb_wire.specs.Limits.{full}
use Rattle.pb_schema.specs.Types.{Types}
use Rattle.pb_value.specs.Data.{Message}
use Rattle.pb_encode.specs.Encoding.{bytes_of}
use Rattle.pb_json.specs.Given.{NamesGiven}
use Rattle.pb_json_read.specs.Answers.{IsReadBy, IsRefusedBy}
use Rattle.pb_json_read.specs.Faults.{name_of}
use Rattle.pb_json_read.specs.declared.error.JsonReadError.{JsonReadError}
use Rattle.pb_json_read.specs.declared.rules.JsonRules.{JsonRules}
use Rattle.pbtool_files.specs.Answer.{Answer, saves, refused}
use Rattle.pbtool_files.specs.Report.{json_text_line}
use Rattle.pbtool_command.specs.MessageAnswer.{CanonAnswer}

-- a text has at most 2^31 - 1 bytes
abbrev pub too_long_line : List ℕ
too_long_line = json_text_line full.bytes (codes "InputTooLarge")

-- where this says which bytes are in the file, by the names that fields are given
pub data FromJsonAnswer (IsIn : List ℕ → Type 0) (r : JsonRules) (names : NamesGiven) (out : List ℕ) (pool : Types) (m : ℕ) (answer : Answer) : Type 0 where
  too_long : {b : List ℕ} → IsIn b → full.bytes < length b → answer ≡ refused too_long_line → FromJsonAnswer IsIn r names out pool m answer
  faulty :
      {b : List ℕ} (e : JsonReadError) → IsIn b → length b ≤ full.bytes → IsRefusedBy pool r names m b e
      → answer ≡ refused (json_text_line e.byte (name_of e.cause)) → FromJsonAnswer IsIn r names out pool m answer
  read :
      {b : List ℕ} (v : Message) → IsIn b → length b ≤ full.bytes → IsReadBy pool r names m b v
      → CanonAnswer (bytes_of (record { pool = pool; kind = m; body = v })) (saves out (bytes_of (record { pool = pool; kind = m; body = v }))) answer
      → FromJsonAnswer IsIn r names out pool m answer
