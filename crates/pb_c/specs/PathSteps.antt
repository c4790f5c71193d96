-- What is answered of a path with names.
use Rattle.std.specs.Prelude.{◌≡◌, ℕ, List, length, Option, Result}
use Rattle.pb_schema.specs.Types.{Types}
use Rattle.pb_c_message.specs.declared.value.PlainValue.{PlainValue}
use Rattle.pb_c_paths.specs.Path.{Read, path_read}
use Rattle.pb_c_paths.specs.declared.unread.Unread.{Unread}
use Rattle.pb_c_answers.specs.Reporting.{laid_over}
use Rattle.pb_c_answers.specs.Typed.{HasType}
use Rattle.pb_c.specs.declared.pool.path.PathReport.{PathReport}

-- a pool is held, and this comes of the path, from its message type of this number on
abbrev pub IsPathHeld : Option Types → ℕ → List ℕ → Result Read Unread → Type 0
IsPathHeld held m path o = (ts : Types) × HasType held m ts × (path_read ts m path ≡ o)

-- The steps are laid over one buffer, the lengths of the strings among them over another, and these strings over a third; and how many there are of each
-- is reported.
pub record ReportsPath (r : Read) (steps_old steps_new : List PlainValue) (lengths_old lengths_new strings_old strings_new : List ℕ) (report : PathReport)
    : Type 0 where
  pub steps : steps_new ≡ laid_over r.steps steps_old
  pub lengths : lengths_new ≡ laid_over r.lengths lengths_old
  pub strings : strings_new ≡ laid_over r.strings strings_old
  pub counted : report ≡ record { steps = length r.steps; strings = length r.lengths; bytes = length r.strings; byte = 0 }

-- the byte of the path where it is refused
abbrev pub refused_at : ℕ → PathReport
refused_at b = record { steps = 0; strings = 0; bytes = 0; byte = b }
