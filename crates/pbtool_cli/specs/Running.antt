-- The answer of a run of the program, by its words.
use Rattle.std.specs.Prelude.{◌≡◌, ◌≢◌, ◌⊎◌, ℕ, List, [], Bool, true, false, Option, None, IsSome, IsSomeAnd, codes}
use Rattle.clap.specs.Words.{Row, Text, fault_of, subcommand_of, takes}
use Rattle.pbtool_files.specs.Answer.{RunsOut}
use Rattle.pbtool_files.specs.Report.{device_line, output_name}
use Rattle.pbtool_command.specs.Answers.{Does}
use Rattle.pbtool_files.specs.FileMap.{FileMap}
use Rattle.pbtool_command.specs.declared.command.Command.{Command}
use Rattle.pbtool_cli.specs.Misuse.{report_of}
use Rattle.pbtool_cli.specs.Words.{IsMatched, is_explained, tool}

-- what is so of a command, by whether its words say that it explains its refusals
abbrev pub DoesBy : Bool → Type 0 → Type 0 → Type 0
DoesBy true plain explained = explained
DoesBy false plain explained = plain

-- a text goes to standard output, whole, or in part where the output fails
abbrev pub IsPrinted : (List ℕ → Type 0) → (List ℕ → Type 0) → (List ℕ → Type 0) → ℕ → List ℕ → Type 0
IsPrinted Out Cut Line status text = ((status ≡ 0) × Out text × Line []) ⊎ ((status ≡ 3) × Cut text × Line (device_line output_name))

abbrev pub version_line : List ℕ
version_line = codes "pbtool 0.1.0\n"

-- where IsText says that a text is printed: of `help` it is a page, and of `version` the version
abbrev pub Shows : (List ℕ → Type 0) → Option (Text × List Row) → Type 0
Shows IsText matched =
    IsSomeAnd matched (λ m. ((m.0 ≡ codes "help") × ((page : List ℕ) × IsText page)) ⊎ ((m.0 ≡ codes "version") × IsText version_line))

-- What the words name is done, unless memory runs out before: a page or the version is printed, or a command is done. Its end is described in pbtool_files'
-- specs/Answer.antt; that of a command that explains its refusals in pbtool_command's specs/Explained.antt.
abbrev pub DoesNamed :
    (List ℕ → Type 0) → (List ℕ → Type 0) → (List ℕ → Type 0) → (Option (List ℕ × List ℕ) → Type 0) → (List ℕ → Type 0) → ℕ
    → (FileMap → Type 0) → (Command → Type 0) → Option (Text × List Row) → Type 0
DoesNamed Out Cut Line Saved Unsaved status IsMap Explains matched =
    RunsOut Out Line Saved status
    ⊎ ((Saved None × Shows (IsPrinted Out Cut Line status) matched)
    ⊎ ((command : Command) × IsMatched matched command
    × DoesBy (is_explained matched) (Does Out Cut Line Saved Unsaved status IsMap command) (Explains command)))

-- The words are refused: nothing goes to standard output, no file is written, and the status is 2, unless memory runs out before.
abbrev pub RefusesWords : (List ℕ → Type 0) → (List ℕ → Type 0) → (Option (List ℕ × List ℕ) → Type 0) → ℕ → Type 0
RefusesWords Out Line Saved status = ((status ≡ 2) × Out [] × Saved None) ⊎ RunsOut Out Line Saved status

-- They are refused, and this is reported.
abbrev pub ReportsMisuse : (List ℕ → Type 0) → (List ℕ → Type 0) → (Option (List ℕ × List ℕ) → Type 0) → ℕ → List ℕ → Type 0
ReportsMisuse Out Line Saved status line = ((status ≡ 2) × Out [] × Line line × Saved None) ⊎ RunsOut Out Line Saved status

-- clap does not take the words, or they are no command all the same
abbrev pub IsNoCommand : List Text → Type 0
IsNoCommand words =
    ((fault_of tool words ≢ []) × (takes tool words ≡ false)) ⊎ IsSome (report_of (subcommand_of tool words))
