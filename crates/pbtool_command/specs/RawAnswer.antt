-- What `raw` answers.
use Rattle.std.specs.Prelude.{◌≡◌, ℕ, List, ◌++◌, Option, None, Some}
use Rattle.hex.specs.Hex.{encode_lower}
use Rattle.pb_wire.specs.Record.{Record}
use Rattle.pb_wire.specs.Spell.{shortest_records}
use Rattle.pb_wire.specs.Fault.{Fault}
use Rattle.pb_wire.specs.Schema.{blank}
use Rattle.pb_wire.specs.Grammar.{IsText, HasFault}
use Rattle.pb_wire.specs.Limits.{Bounds}
use Rattle.pbtool_files.specs.Answer.{Answer, done, refused, device_failed}
use Rattle.pb_listing.specs.RawListing.{line_feed, raw_listing}
use Rattle.pb_listing.specs.NestedListing.{IsNestedListing}
use Rattle.pbtool_command.specs.declared.command.RawForm.{RawForm}
use Rattle.pbtool_command.specs.declared.command.RawForm.TheVariants.{Listing, Nested, Shortest}
use Rattle.pbtool_files.specs.Report.{fault_line}

-- the bytes are what is shown of records in a form
abbrev pub IsShownAs : RawForm → List Record → List ℕ → Type 0
IsShownAs Listing records text = text ≡ raw_listing records
IsShownAs Nested records text = IsNestedListing records text
IsShownAs Shortest records text = text ≡ encode_lower (shortest_records records) ++ line_feed

abbrev pub ShownAnswer : RawForm → List Record → Answer → Type 0
ShownAnswer form records answer = (text : List ℕ) × IsShownAs form records text × (answer ≡ done text)

-- what `raw` answers, where this is the file at the path
pub data RawAnswer (limits : Bounds) (form : RawForm) (path : List ℕ) (content : Option (List ℕ)) (answer : Answer) : Type 0 where
  missing : content ≡ None → answer ≡ device_failed path → RawAnswer limits form path content answer
  shown :
      {text : List ℕ} {records : List Record} → content ≡ Some text → IsText blank tt limits text records
      → ShownAnswer form records answer → RawAnswer limits form path content answer
  faulty :
      {text : List ℕ} {f : Fault} → content ≡ Some text → HasFault blank tt limits text f → answer ≡ refused (fault_line f)
      → RawAnswer limits form path content answer
