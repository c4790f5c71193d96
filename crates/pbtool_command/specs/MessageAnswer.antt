-- What is made of a message, and what comes of bytes that should be one.
use Rattle.std.specs.Prelude.{◌≡◌, ◌<◌, ◌≤◌, ◌^◌, ℕ, List, ◌++◌, codes, length}
use Rattle.hex.specs.Hex.{encode_lower}
use Rattle.pb_wire.specs.Fault.{Fault}
use Rattle.pb_schema.specs.Types.{Types}
use Rattle.pb_value.specs.Data.{Message}
use Rattle.pb_value.specs.Dynamic.{Dynamic}
use Rattle.pb_encode.specs.Encoding.{bytes_of}
use Rattle.pbtool_files.specs.Answer.{Answer, done, saves, refused}
use Rattle.pb_listing.specs.declared.form.FloatForm.{FloatForm}
use Rattle.pb_listing.specs.ListingAs.{IsListing}
use Rattle.pb_listing.specs.RawListing.{line_feed}
use Rattle.pbtool_files.specs.Report.{fault_line, too_large_line}
use Rattle.pbtool_command.specs.JsonAnswer.{JsonAnswer}
use Rattle.pbtool_command.specs.TextAnswer.{TextAnswer}
use Rattle.pbtool_command.specs.declared.form.Form.{Form}
use Rattle.pbtool_command.specs.declared.form.Form.TheVariants.{Check, Listing, Json, Text, Canonical, CanonicalFile}

-- an encoding has at most 2^31 - 1 bytes, or none is made
pub data CanonAnswer (bytes : List ℕ) (made answer : Answer) : Type 0 where
  fits : length bytes < 2 ^ 31 → answer ≡ made → CanonAnswer bytes made answer
  too_large : 2 ^ 31 ≤ length bytes → answer ≡ refused too_large_line → CanonAnswer bytes made answer

-- its listing is printed, with floats listed so
abbrev pub ListingAnswer : FloatForm → Dynamic → Answer → Type 0
ListingAnswer floats m answer = (text : List ℕ) × IsListing floats m text × (answer ≡ done text)

-- what is made of a message
abbrev pub FormAnswer : Form → Dynamic → Answer → Type 0
FormAnswer Check m answer = answer ≡ done (codes "ok\n")
FormAnswer (Listing floats) m answer = ListingAnswer floats m answer
FormAnswer (Json layout names) m answer = JsonAnswer layout names m answer
FormAnswer (Text text_form) m answer = TextAnswer text_form m answer
FormAnswer Canonical m answer = CanonAnswer (bytes_of m) (done (encode_lower (bytes_of m) ++ line_feed)) answer
FormAnswer (CanonicalFile path) m answer = CanonAnswer (bytes_of m) (saves path.now (bytes_of m)) answer

-- where these say of a type which fault bytes have, and of which value they are a text
pub data MessageAnswer
    (HasFault : Types → ℕ → Fault → Type 0) (IsText : Types → ℕ → Message → Type 0) (form : Form) (pool : Types) (m : ℕ) (answer : Answer) : Type 0 where
  faulty : {f : Fault} → HasFault pool m f → answer ≡ refused (fault_line f) → MessageAnswer HasFault IsText form pool m answer
  read :
      {v : Message} → IsText pool m v → FormAnswer form (record { pool = pool; kind = m; body = v }) answer
      → MessageAnswer HasFault IsText form pool m answer
