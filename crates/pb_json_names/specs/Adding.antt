-- What more names change.
use Rattle.std.specs.Prelude.{◌≡◌, ℕ}
use Rattle.std.specs.Option.{option_or}
use Rattle.pb_json.specs.Given.{NamesGiven, name_given}
use Rattle.pb_json_names.specs.Names.{last_given}

-- the last of these names counts, or else what there was before
abbrev pub Adds : NamesGiven → NamesGiven → NamesGiven → Type 0
Adds xs old new = (m n : ℕ) → name_given new m n ≡ option_or (last_given xs m n) (name_given old m n)
