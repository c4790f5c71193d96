-- What is reported of words that clap takes, and that are no command all the same.
use Rattle.std.specs.Prelude.{◌||◌, ◌++◌, ◌==◌, List, [], ◌∷◌, Bool, Option, None, Some, codes, option_and_then, if◌then◌else◌}
use Rattle.std.specs.List.{ends_with, list_any}
use Rattle.std.specs.Str.{bytes_eq}
use Rattle.clap.specs.Words.{Row, Text}
use Rattle.pbtool_cli.specs.Words.{option_of, output_of, sources_of, tool_names}
use Rattle.pbtool_cli.specs.declared.misuse.Misuse.{Misuse}
use Rattle.pbtool_cli.specs.declared.misuse.Misuse.TheVariants.{NoCommand, NoSource, Overwrites}

-- a file is a source: it is among them, or its name ends as that of a source
abbrev pub is_source : Text → List Text → Bool
is_source path names = list_any (λ name. bytes_eq name path) names || ends_with ◌==◌ path (codes ".proto")

-- `help` has a page of it
abbrev pub is_topic : Text → Bool
is_topic word = list_any (λ name. bytes_eq name word) tool_names

-- `compile` is given no source
abbrev pub no_source : Text
no_source =
    codes "error: the following required arguments were not provided:\n  <FILE>...\n\n"
    ++ codes "Usage: pbtool compile [OPTIONS] <ROOT> <OUT> <FILE>...\n       pbtool compile [OPTIONS] -o <OUT> <ROOT> <FILE>...\n\n"
    ++ codes "For more information, try '--help'.\n"

-- it would write over a source
abbrev pub overwrites : Text → Text
overwrites path = codes "error: '" ++ path ++ codes "' is a source, and no file to write\n"

-- `help` is asked about a word that is no command
abbrev pub no_command : Text → Text
no_command word = codes "error: '" ++ word ++ codes "' is no command\n"

abbrev pub line_of : Misuse → Text
line_of NoSource = no_source
line_of (Overwrites path) = overwrites path.now
line_of (NoCommand word) = no_command word.now

abbrev pub compile_report_by : Text → List Text → Option Text
compile_report_by path [] = Some no_source
compile_report_by path (name ∷ names) = if is_source path (name ∷ names) then Some (overwrites path) else None

-- of the words of `compile`
abbrev pub compile_report : List Row → Option Text
compile_report rows = compile_report_by (output_of rows) (sources_of rows)

-- of those of `help`
abbrev pub help_report : List Row → Option Text
help_report rows = option_and_then (λ word. if is_topic word then None else Some (no_command word)) (option_of (codes "COMMAND") rows)

abbrev pub report_by : Text → List Row → Option Text
report_by name rows =
    if bytes_eq name (codes "compile") then compile_report rows else (if bytes_eq name (codes "help") then help_report rows else None)

-- of what clap's matches say; nothing where they are a command
abbrev pub report_of : Option (Text × List Row) → Option Text
report_of = option_and_then (λ m. report_by m.0 m.1)
