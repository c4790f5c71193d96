-- What `json` makes of a message: its JSON text as a line, or a refusal that says which part of it has none.
use Rattle.std.specs.Prelude.{◌≡◌, ℕ, List, ◌++◌}
use Rattle.std.specs.Borrow.{Bor}
use Rattle.pb_value.specs.Dynamic.{Dynamic}
use Rattle.pb_json.specs.Answers.{IsJsonOf, IsRefused}
use Rattle.pb_json.specs.Given.{NamesGiven}
use Rattle.pb_json.specs.Refusals.{Refused}
use Rattle.pb_json.specs.declared.form.JsonForm.{JsonForm}
use Rattle.pb_json.specs.declared.form.Layout.{Layout}
use Rattle.pb_json.specs.declared.form.Names.TheVariants.{Given}
use Rattle.pbtool_files.specs.Answer.{Answer, done, refused}
use Rattle.pbtool_files.specs.Report.{json_line}
use Rattle.pb_listing.specs.RawListing.{line_feed}

-- with the names that the set gives
abbrev pub json_form : Layout → Bor NamesGiven → JsonForm
json_form layout names = record { names = Given names; layout = layout }

-- bytes are a JSON text of a message, and a line feed
abbrev pub IsJsonLine : Layout → Bor NamesGiven → Dynamic → List ℕ → Type 0
IsJsonLine layout names m line = (text : List ℕ) × IsJsonOf (json_form layout names) m text × (line ≡ text ++ line_feed)

pub data JsonAnswer (layout : Layout) (names : Bor NamesGiven) (m : Dynamic) (answer : Answer) : Type 0 where
  has_form : {line : List ℕ} → IsJsonLine layout names m line → answer ≡ done line → JsonAnswer layout names m answer
  no_form : {r : Refused} → IsRefused m r → answer ≡ refused (json_line r.path r.cause) → JsonAnswer layout names m answer
