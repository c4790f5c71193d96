-- The words of a report.
use Rattle.std.specs.Prelude.{ℕ, List, codes}
use Rattle.pb_compat.specs.declared.difference.Severity.{Severity}
use Rattle.pb_compat.specs.declared.difference.Severity.TheVariants.{BreaksReading, Loses, ChangesPresence, Converts, Renames}

abbrev pub severity_word : Severity → List ℕ
severity_word BreaksReading = codes "breaks"
severity_word Loses = codes "loses"
severity_word ChangesPresence = codes "presence"
severity_word Converts = codes "converts"
severity_word Renames = codes "renames"
