-- What is reported of a comparison of two types.
use Rattle.std.specs.Prelude.{ℕ, List, map, flat_map}
use Rattle.pb_schema.specs.Types.{Types}
use Rattle.pb_compat.specs.Pairs.{IsComparison}
use Rattle.pb_compat.specs.declared.difference.ComparedTypes.{ComparedTypes}
use Rattle.pb_compat.specs.declared.difference.Difference.{Difference}
use Rattle.pb_compat.specs.declared.difference.Severity.{Severity}
use Rattle.pb_compat.specs.declared.difference.Severity.TheVariants.{BreaksReading, Loses, ChangesPresence, Converts, Renames}
use Rattle.pb_c_answers.specs.Reporting.{IsLaid}
use Rattle.pb_c.specs.declared.compat.DifferenceReport.{DifferenceReport}

-- in the order of docs/COMPAT.md, the worst first
abbrev pub severity_number : Severity → ℕ
severity_number BreaksReading = 1
severity_number Loses = 2
severity_number ChangesPresence = 3
severity_number Converts = 4
severity_number Renames = 5

abbrev pub difference_row : ℕ → ℕ → Difference → DifferenceReport
difference_row m n d = record { old_type = m; new_type = n; number = d.number; severity = severity_number d.severity }

-- all differences, of one pair of types after another
abbrev pub rows_of : List ComparedTypes → List DifferenceReport
rows_of cs = flat_map (λ c. map (difference_row c.old.0 c.new.0) c.differences.items) cs

-- The differences of a comparison of the two types are laid over the buffer.
abbrev pub IsReported : Types → ℕ → Types → ℕ → List DifferenceReport → List DifferenceReport → ℕ → Type 0
IsReported old m new n before after count = (cs : List ComparedTypes) × IsComparison old new (m, n) cs × IsLaid (rows_of cs) before after count
