-- What is answered of the JSON of a message (ProtoJSON format).
use Rattle.std.specs.Prelude.{◌≡◌, ℕ, Bool, List, if◌then◌else◌}
use Rattle.std.specs.Borrow.{Bor}
use Rattle.pb_value.specs.Dynamic.{Dynamic}
use Rattle.pb_json.specs.declared.form.JsonForm.{JsonForm}
use Rattle.pb_json.specs.declared.form.Layout.TheVariants.{Compact, Indented}
use Rattle.pb_json.specs.declared.form.Names.TheVariants.{Declared, Given}
use Rattle.pb_json.specs.Given.{NamesGiven}
use Rattle.pb_json.specs.JsonText.{IsJsonText}
use Rattle.pb_json.specs.Mapping.{json_of}
use Rattle.pb_json.specs.Refusals.{Refused}
use Rattle.pb_c_answers.specs.Json.Numbers.{json_number}
use Rattle.pb_c_answers.specs.Reporting.{IsLaid}

-- fields have their declared names, or those that they are given, and else those in lowerCamelCase
abbrev pub json_form : Bool → Bool → Bor NamesGiven → JsonForm
json_form declared indented names =
    record { names = if declared then Declared else Given names; layout = if indented then Indented else Compact }

-- a JSON text of the message is laid over the buffer
abbrev pub IsJsonLaid : JsonForm → Dynamic → List ℕ → List ℕ → ℕ → Type 0
IsJsonLaid form m old new size = (json : List ℕ) × IsJsonText form.layout 0 (json_of form.names m) json × IsLaid json old new size

-- the same by the names that fields are given
abbrev pub IsJsonLaidBy : NamesGiven → Bool → Bool → Dynamic → List ℕ → List ℕ → ℕ → Type 0
IsJsonLaidBy given declared indented m old new size =
    (names : Bor NamesGiven) × (names.now ≡ given) × IsJsonLaid (json_form declared indented names) m old new size

-- The answer is the cause, and the path is laid over the buffer.
pub record RefusesAs (r : Refused) (answer : ℕ) (old new : List ℕ) (steps : ℕ) : Type 0 where
  pub cause : answer ≡ json_number r.cause
  pub path : IsLaid r.path old new steps
