-- How the fields of a message are laid out: each on a line, two blanks deeper than what holds it, or all on one line, with a blank after each.
use Rattle.std.specs.Prelude.{ℕ, ◌*◌, List, [], ◌++◌, codes, replicate}
use Rattle.pb_text.specs.declared.form.Layout.{Layout}
use Rattle.pb_text.specs.declared.form.Layout.TheVariants.{Lines, OneLine}

-- two blanks a level
abbrev pub indent : Layout → ℕ → List ℕ
indent Lines level = replicate (2 * level) 32
indent OneLine level = []

-- what comes after a field, and after a brace
abbrev pub gap : Layout → List ℕ
gap Lines = codes "\n"
gap OneLine = codes " "

abbrev pub item : Layout → ℕ → List ℕ → List ℕ
item layout level text = indent layout level ++ text ++ gap layout
