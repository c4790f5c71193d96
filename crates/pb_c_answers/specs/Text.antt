-- What is answered of the text of a message (text format).
use Rattle.std.specs.Prelude.{◌≡◌, ℕ, List, if◌then◌else◌}
use Rattle.pb_value.specs.Dynamic.{Dynamic}
use Rattle.pb_text.specs.Text.{IsText}
use Rattle.pb_text.specs.declared.form.TextForm.{TextForm}
use Rattle.pb_text.specs.declared.form.Layout.TheVariants.{Lines, OneLine}
use Rattle.pb_text.specs.declared.form.Characters.TheVariants.{Escaped, Utf8}
use Rattle.pb_text.specs.declared.form.UnknownRecords.TheVariants.{ByNumber, Omitted}
use Rattle.pb_c_answers.specs.declared.text.TextFlags.{TextFlags}
use Rattle.pb_c_answers.specs.Reporting.{IsLaid}

-- on one line or on lines, characters in UTF-8 or escaped, without unknown records or with them
abbrev pub form_of : TextFlags → TextForm
form_of flags = record {
  layout = if flags.single_line then OneLine else Lines;
  characters = if flags.utf8 then Utf8 else Escaped;
  unknown = if flags.omit_unknown then Omitted else ByNumber;
}

-- a text of the message in the form of these flags is laid over the buffer
abbrev pub IsTextLaid : TextFlags → Dynamic → List ℕ → List ℕ → ℕ → Type 0
IsTextLaid flags m old new size = (text : List ℕ) × IsText (form_of flags) m text × IsLaid text old new size
