-- What is answered of a JSON text that is read as a message.
use Rattle.std.specs.Prelude.{◌≡◌, ℕ, List, Bool, Option, Some, if◌then◌else◌}
use Rattle.pb_schema.specs.Types.{Types}
use Rattle.pb_value.specs.Data.{Message}
use Rattle.pb_json.specs.Given.{NamesGiven}
use Rattle.pb_json_read.specs.Answers.{IsReadBy, IsRefusedBy}
use Rattle.pb_json_read.specs.declared.error.JsonReadError.{JsonReadError}
use Rattle.pb_json_read.specs.declared.rules.JsonRules.{JsonRules}
use Rattle.pb_json_read.specs.declared.rules.JsonRules.TheVariants.{Lenient, Strict}
use Rattle.pb_c_answers.specs.Json.Numbers.{read_number}

-- whether names that are not declared are passed over
abbrev pub rules_of : Bool → JsonRules
rules_of lenient = if lenient then Lenient else Strict

-- names are held, and by these a JSON text is read as the message
abbrev pub IsReadHeld : Option NamesGiven → Types → JsonRules → ℕ → List ℕ → Message → Type 0
IsReadHeld held pool rules m b v = (names : NamesGiven) × (held ≡ Some names) × IsReadBy pool rules names m b v

-- names are held, and by these the bytes are refused with this
abbrev pub IsRefusedHeld : Option NamesGiven → Types → JsonRules → ℕ → List ℕ → JsonReadError → Type 0
IsRefusedHeld held pool rules m b e = (names : NamesGiven) × (held ≡ Some names) × IsRefusedBy pool rules names m b e

-- The answer is the cause, and the byte is reported.
pub record ReportsRead (e : JsonReadError) (answer byte : ℕ) : Type 0 where
  pub cause : answer ≡ read_number e.cause
  pub where_is : byte ≡ e.byte
