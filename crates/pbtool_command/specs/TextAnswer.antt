-- What `text` makes of a message: its text, as whole lines.
use Rattle.std.specs.Prelude.{◌≡◌, ℕ, List, [], ◌++◌}
use Rattle.pb_value.specs.Dynamic.{Dynamic}
use Rattle.pb_text.specs.Text.{IsText}
use Rattle.pb_text.specs.declared.form.TextForm.{TextForm}
use Rattle.pb_text.specs.declared.form.Layout.{Layout}
use Rattle.pb_text.specs.declared.form.Layout.TheVariants.{Lines, OneLine}
use Rattle.pbtool_files.specs.Answer.{Answer, done}
use Rattle.pb_listing.specs.RawListing.{line_feed}

-- what follows a text: on one line it has no end of a line
abbrev pub text_end : Layout → List ℕ
text_end Lines = []
text_end OneLine = line_feed

-- bytes are a text of a message, as whole lines
abbrev pub AreTextLines : TextForm → Dynamic → List ℕ → Type 0
AreTextLines form m lines = (text : List ℕ) × IsText form m text × (lines ≡ text ++ text_end form.layout)

abbrev pub TextAnswer : TextForm → Dynamic → Answer → Type 0
TextAnswer form m answer = (lines : List ℕ) × AreTextLines form m lines × (answer ≡ done lines)
