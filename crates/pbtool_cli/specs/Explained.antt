-- A command that explains its refusals: it does what it does without, and lines follow the line of the refusal.
use Rattle.std.specs.Prelude.{◌≡◌, ◌≢◌, ℕ, List, ◌++◌, Option}
use Rattle.pbtool_files.specs.FileMap.{FileMap, IsSaved, IsUnsaved}
use Rattle.pbtool_files.specs.Report.{device_line}
use Rattle.pbtool_hints.specs.Lines.{AreLines}
use Rattle.pbtool_command.specs.Answers.{Does}
use Rattle.pbtool_command.specs.declared.command.Command.{Command}

-- a line went out, and after it lines for a person
abbrev pub WithMore : (List ℕ → Type 0) → List ℕ → Type 0
WithMore Told line = (more : List ℕ) × AreLines more × Told (line ++ more)

-- The command is done with files that are then in some state, before they are read again for what explains a refusal. Where opening or writing a file
-- of the command failed, the status is 3 and the line names a device.
abbrev pub DoesExplained :
    {F : Type 0} → (F → Option FileMap) → (F → ℕ) → F → (List ℕ → Type 0) → (List ℕ → Type 0) → (List ℕ → Type 0) → ℕ → (FileMap → Type 0) → Command
    → Type 0
DoesExplained {F} contents failures old Out Cut Told status IsMap command =
    (done : F) × Does Out Cut (WithMore Told) (IsSaved contents old done) (IsUnsaved contents failures old done) status IsMap command
    × (status ≢ 3 → failures done ≡ failures old)
    × (failures done ≢ failures old → (path : List ℕ) × WithMore Told (device_line path))
