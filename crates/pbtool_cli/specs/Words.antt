-- The command line, and the commands that its words name.
use Rattle.std.specs.Prelude.{◌≡◌, List, [], ◌∷◌, Bool, true, false, Option, Some, codes, unwrap_or, string_bytes, map, option_map, IsSomeAnd}
use Rattle.std.specs.Prelude.{drop, is_some, if◌then◌else◌}
use Rattle.std.specs.Str.{bytes_eq}
use Rattle.std.specs.Option.{option_map_or}
use Rattle.std.specs.declared.string.String.{String}
use Rattle.std.specs.declared.alloc.Global.{Global}
use Rattle.clap.specs.Words.{App, Row, Rule, Text, Shape, all_of, first_of, new_app, new_rule, with_rule, with_subcommand}
use Rattle.clap.specs.Simple.{on_top}
use Rattle.clap.specs.declared.builder.ArgAction.TheVariants.{Append, Set, SetTrue}
use Rattle.pbtool_command.specs.declared.command.Command.{Command}
use Rattle.pbtool_command.specs.declared.command.Command.TheVariants.{Raw, Check, Show, Canon, Json, Frames, AllFrames, Types, Compile}
use Rattle.pbtool_command.specs.declared.command.Command.TheVariants.{Compat, FromJson}
use Rattle.pbtool_command.specs.declared.command.Command.TheVariants as command
use Rattle.pbtool_command.specs.declared.command.Comparison.{Comparison}
use Rattle.pb_compat_lines.specs.declared.verdict.Readers.{Readers}
use Rattle.pb_compat_lines.specs.declared.verdict.Readers.TheVariants.{Both, New}
use Rattle.pbtool_command.specs.declared.command.FrameForm.{FrameForm}
use Rattle.pbtool_command.specs.declared.command.FrameForm.TheVariants as frame_form
use Rattle.pbtool_command.specs.declared.command.RawForm.{RawForm}
use Rattle.pbtool_command.specs.declared.command.RawForm.TheVariants.{Listing, Nested, Shortest}
use Rattle.pbtool_command.specs.declared.command.Roots.{Roots}
use Rattle.pbtool_command.specs.declared.command.Source.{Source}
use Rattle.pbtool_command.specs.CompileAnswer.{texts_of}
use Rattle.pb_listing.specs.declared.form.FloatForm.{FloatForm}
use Rattle.pb_listing.specs.declared.form.FloatForm.TheVariants.{Bits, Decimal}
use Rattle.pb_json_read.specs.declared.rules.JsonRules.{JsonRules}
use Rattle.pb_json_read.specs.declared.rules.JsonRules.TheVariants as json_rules
use Rattle.pb_json.specs.declared.form.Layout.{Layout}
use Rattle.pb_json.specs.declared.form.Layout.TheVariants.{Compact, Indented}
use Rattle.pb_text.specs.declared.form.TextForm.{TextForm}
use Rattle.pb_text.specs.declared.form.Layout.TheVariants.{Lines, OneLine}
use Rattle.pb_text.specs.declared.form.Characters.TheVariants.{Escaped}
use Rattle.pb_text.specs.declared.form.UnknownRecords.TheVariants.{ByNumber}
use Rattle.pbtool_files.specs.declared.set_file.Reading.{Reading}
use Rattle.pbtool_files.specs.declared.set_file.Reading.TheVariants.{Lenient, Strict}

abbrev pub short_rule : Rule
short_rule = record (new_rule (codes "short")) { long = Some (codes "short"); action = Some SetTrue }

-- an argument that is required
abbrev pub wanted : Text → Rule
wanted id = record (new_rule id) { required = true }

abbrev pub nested_rule : Rule
nested_rule = record (new_rule (codes "nested")) { long = Some (codes "nested"); action = Some SetTrue }

abbrev pub explain_rule : Rule
explain_rule = record (new_rule (codes "explain")) { long = Some (codes "explain"); action = Some SetTrue }

-- `raw [--short] [--nested] [--explain] FILE`
abbrev pub raw_command : App
raw_command =
    with_rule (with_rule (with_rule (with_rule (new_app (codes "raw")) short_rule) nested_rule) explain_rule) (wanted (codes "FILE"))

abbrev pub lenient_rule : Rule
lenient_rule = record (new_rule (codes "lenient")) { long = Some (codes "lenient"); action = Some SetTrue }

-- with `[--explain] [--lenient] SET TYPE FILE`
abbrev pub of_source : App → App
of_source a =
    with_rule (with_rule (with_rule (with_rule (with_rule a explain_rule) lenient_rule) (wanted (codes "SET"))) (wanted (codes "TYPE")))
    (wanted (codes "FILE"))

abbrev pub check_command : App
check_command = of_source (new_app (codes "check"))

abbrev pub decimal_rule : Rule
decimal_rule = record (new_rule (codes "decimal")) { short = Some 100; long = Some (codes "decimal"); action = Some SetTrue }

-- `show [-d] [--explain] [--lenient] SET TYPE FILE`
abbrev pub show_command : App
show_command = of_source (with_rule (new_app (codes "show")) decimal_rule)

abbrev pub out_rule : Rule
out_rule = record (new_rule (codes "out")) { long = Some (codes "out"); action = Some Set }

-- `canon [--out OUT] [--explain] [--lenient] SET TYPE FILE`
abbrev pub canon_command : App
canon_command = of_source (with_rule (new_app (codes "canon")) out_rule)

abbrev pub pretty_rule : Rule
pretty_rule = record (new_rule (codes "pretty")) { long = Some (codes "pretty"); action = Some SetTrue }

-- `json [--pretty] [--explain] [--lenient] SET TYPE FILE`
abbrev pub json_command : App
json_command = of_source (with_rule (new_app (codes "json")) pretty_rule)

abbrev pub single_line_rule : Rule
single_line_rule = record (new_rule (codes "single-line")) { long = Some (codes "single-line"); action = Some SetTrue }

-- `text [--single-line] [--explain] [--lenient] SET TYPE FILE`
abbrev pub text_command : App
text_command = of_source (with_rule (new_app (codes "text")) single_line_rule)

abbrev pub keep_going_rule : Rule
keep_going_rule = record (new_rule (codes "keep-going")) { long = Some (codes "keep-going"); action = Some SetTrue }

abbrev pub json_rule : Rule
json_rule = record (new_rule (codes "json")) { long = Some (codes "json"); action = Some SetTrue }

-- `frames [-d] [--json] [--keep-going] [--explain] [--lenient] SET TYPE FILE`
abbrev pub frames_command : App
frames_command = of_source (with_rule (with_rule (with_rule (new_app (codes "frames")) decimal_rule) json_rule) keep_going_rule)

-- `types [--lenient] SET [NAME]`
abbrev pub types_command : App
types_command = with_rule (with_rule (with_rule (new_app (codes "types")) lenient_rule) (wanted (codes "SET"))) (new_rule (codes "NAME"))

-- `-I DIR`, any number of times
abbrev pub directory_rule : Rule
directory_rule = record (new_rule (codes "DIR")) { short = Some 73; action = Some Append }

-- `-o OUT`, or `--descriptor_set_out OUT`
abbrev pub output_rule : Rule
output_rule =
    record (new_rule (codes "out")) { short = Some 111; long = Some (codes "descriptor_set_out"); action = Some Set; value_names = 1 }

-- `compile [--explain] [--lenient] [-I DIR].. [-o OUT] ROOT FILE..`, where without `-o` the first FILE is OUT
abbrev pub compile_command : App
compile_command =
    with_rule (with_rule (with_rule (with_rule (with_rule (with_rule (new_app (codes "compile")) explain_rule) lenient_rule) directory_rule)
    output_rule) (wanted (codes "ROOT")))
    (record (wanted (codes "FILE")) { action = Some Append })

abbrev pub both_rule : Rule
both_rule = record (new_rule (codes "both")) { long = Some (codes "both"); action = Some SetTrue }

-- `compat [--lenient] [--both] OLD NEW [TYPE]`
abbrev pub compat_command : App
compat_command =
    with_rule (with_rule (with_rule (with_rule (with_rule (new_app (codes "compat")) lenient_rule) both_rule) (wanted (codes "OLD"))) (wanted (codes "NEW")))
    (new_rule (codes "TYPE"))

abbrev pub ignore_unknown_rule : Rule
ignore_unknown_rule = record (new_rule (codes "ignore-unknown")) { long = Some (codes "ignore-unknown"); action = Some SetTrue }

-- `from-json [--ignore-unknown] [--explain] [--lenient] SET TYPE FILE OUT`
abbrev pub from_json_command : App
from_json_command = with_rule (of_source (with_rule (new_app (codes "from-json")) ignore_unknown_rule)) (wanted (codes "OUT"))

-- a subcommand is wanted, and `help` is none
abbrev pub wants_subcommand : Shape → Shape
wants_subcommand s = record s { subcommand_required = true; disable_help_subcommand = true }

-- `--version` is known
abbrev pub with_version : Shape → Shape
with_version s = record s { has_version = true }

abbrev pub tool_top : App
tool_top = on_top wants_subcommand (on_top with_version (new_app (codes "pbtool")))

-- the commands that read one message
abbrev pub message_tool : App
message_tool =
    with_subcommand (with_subcommand (with_subcommand (with_subcommand (with_subcommand (with_subcommand
    tool_top raw_command.top) check_command.top) show_command.top) canon_command.top) json_command.top) text_command.top

-- all commands but `compat` and `from-json`
abbrev pub other_tool : App
other_tool = with_subcommand (with_subcommand (with_subcommand message_tool frames_command.top) types_command.top) compile_command.top

-- all commands over files
abbrev pub commands_tool : App
commands_tool = with_subcommand (with_subcommand other_tool compat_command.top) from_json_command.top

-- `help [COMMAND]`
abbrev pub help_command : App
help_command = with_rule (new_app (codes "help")) (new_rule (codes "COMMAND"))

-- `version`
abbrev pub version_command : App
version_command = new_app (codes "version")

-- the whole command line
abbrev pub tool : App
tool = with_subcommand (with_subcommand commands_tool help_command.top) version_command.top

abbrev pub tool_names : List Text
tool_names =
    codes "raw" ∷ codes "check" ∷ codes "show" ∷ codes "canon" ∷ codes "json" ∷ codes "text" ∷ codes "frames" ∷ codes "types" ∷ codes "compile"
    ∷ codes "compat" ∷ codes "from-json" ∷ codes "help" ∷ codes "version" ∷ []

abbrev pub words_of : List (String Global) → List Text
words_of = map string_bytes

-- a flag is given
abbrev pub flag_of : Text → List Row → Bool
flag_of id rows = option_map_or (λ text. bytes_eq text (codes "true")) (first_of id rows) false

-- the words say that the command explains its refusals
abbrev pub is_explained : Option (Text × List Row) → Bool
is_explained matched = option_map_or (flag_of (codes "explain")) (option_map (λ m. m.1) matched) false

-- the value of an argument that is required
abbrev pub value_of : Text → List Row → Text
value_of id rows = unwrap_or (first_of id rows) []

-- the values of an argument that takes several
abbrev pub values_of : Text → List Row → List Text
values_of id rows = unwrap_or (all_of id rows) []

-- the value of an option
abbrev pub option_of : Text → List Row → Option Text
option_of id rows = first_of id rows

-- the first of several values
abbrev pub first_text : List Text → Text
first_text [] = []
first_text (t ∷ ts) = t

-- the file that `compile` writes: that of the option, or else the first word after the root
abbrev pub output_of : List Row → Text
output_of rows = unwrap_or (option_of (codes "out") rows) (first_text (values_of (codes "FILE") rows))

-- the sources that `compile` reads: the words after the root, or those after the file that is written
abbrev pub sources_of : List Row → List Text
sources_of rows = if is_some (option_of (codes "out") rows) then values_of (codes "FILE") rows else drop 1 (values_of (codes "FILE") rows)

-- how a set or sources are read, by whether the flag is given
abbrev pub reading_of : Bool → Reading
reading_of true = Lenient
reading_of false = Strict

-- the set, or the sources, are read so by these words
abbrev pub IsReading : List Row → Reading → Type 0
IsReading rows r = r ≡ reading_of (flag_of (codes "lenient") rows)

-- how JSON is read, by whether unknown names are to be passed over, and whether the set is read leniently
abbrev pub json_rules_of : Bool → Bool → JsonRules
json_rules_of true lenient = json_rules.Lenient
json_rules_of false true = json_rules.Lenient
json_rules_of false false = json_rules.Strict

abbrev pub AreJsonRules : List Row → JsonRules → Type 0
AreJsonRules rows r = r ≡ json_rules_of (flag_of (codes "ignore-unknown") rows) (flag_of (codes "lenient") rows)

-- how records are shown, by whether their shortest encoding is wanted, and whether payloads are listed
abbrev pub raw_form_of : Bool → Bool → RawForm
raw_form_of true nested = Shortest
raw_form_of false true = Nested
raw_form_of false false = Listing

abbrev pub IsRawForm : List Row → RawForm → Type 0
IsRawForm rows f = f ≡ raw_form_of (flag_of (codes "short") rows) (flag_of (codes "nested") rows)

-- how floats are listed, by whether the flag is given
abbrev pub floats_of : Bool → FloatForm
floats_of true = Decimal
floats_of false = Bits

-- floats are listed so by these words
abbrev pub AreFloats : List Row → FloatForm → Type 0
AreFloats rows f = f ≡ floats_of (flag_of (codes "decimal") rows)

-- how frames are printed, by whether JSON is wanted, and with floats so if it is not
abbrev pub frame_form_of : Bool → FloatForm → FrameForm
frame_form_of true floats = frame_form.Json
frame_form_of false floats = frame_form.Listing floats

abbrev pub IsFrameForm : List Row → FrameForm → Type 0
IsFrameForm rows f = f ≡ frame_form_of (flag_of (codes "json") rows) (floats_of (flag_of (codes "decimal") rows))

-- how JSON is laid out, by whether the flag is given
abbrev pub layout_of : Bool → Layout
layout_of true = Indented
layout_of false = Compact

-- the text format of `protoc --decode`, laid out so by whether the flag is given
abbrev pub text_form_of : Bool → TextForm
text_form_of single = record { layout = if single then OneLine else Lines; characters = Escaped; unknown = ByNumber }

-- the values that name a message and its type
abbrev pub IsSource : List Row → Source → Type 0
IsSource rows s =
    IsReading rows s.reading × (s.set.now ≡ value_of (codes "SET") rows) × (s.type_name.now ≡ value_of (codes "TYPE") rows) × (s.file.now ≡ value_of (codes "FILE") rows)

-- which readers are asked about, by whether the flag is given
abbrev pub readers_of : Bool → Readers
readers_of true = Both
readers_of false = New

-- the values that name two sets and the type that is compared
abbrev pub IsComparison : List Row → Comparison → Type 0
IsComparison rows c =
    IsReading rows c.reading × (c.old.now ≡ value_of (codes "OLD") rows) × (c.new.now ≡ value_of (codes "NEW") rows)
    × (option_map (λ n. n.now) c.type_name ≡ option_of (codes "TYPE") rows) × (c.readers ≡ readers_of (flag_of (codes "both") rows))

-- the values that name roots, and how sources under them are read
abbrev pub AreRoots : List Row → Roots → Type 0
AreRoots rows r = IsReading rows r.reading × (r.root.now ≡ value_of (codes "ROOT") rows) × (texts_of r.others.now ≡ values_of (codes "DIR") rows)

-- the command has this name, these flags and these values
abbrev pub IsNamed : Text → List Row → Command → Type 0
IsNamed name rows (Raw form file) = (name ≡ codes "raw") × IsRawForm rows form × (file.now ≡ value_of (codes "FILE") rows)
IsNamed name rows (Check source) = (name ≡ codes "check") × IsSource rows source
IsNamed name rows (Show floats source) = (name ≡ codes "show") × AreFloats rows floats × IsSource rows source
IsNamed name rows (Canon to source) =
    (name ≡ codes "canon") × (option_map (λ path. path.now) to ≡ option_of (codes "out") rows) × IsSource rows source
IsNamed name rows (Json layout source) =
    (name ≡ codes "json") × (layout ≡ layout_of (flag_of (codes "pretty") rows)) × IsSource rows source
IsNamed name rows (command.Text form source) =
    (name ≡ codes "text") × (form ≡ text_form_of (flag_of (codes "single-line") rows)) × IsSource rows source
IsNamed name rows (Frames form source) =
    (name ≡ codes "frames") × (flag_of (codes "keep-going") rows ≡ false) × IsFrameForm rows form × IsSource rows source
IsNamed name rows (AllFrames form source) =
    (name ≡ codes "frames") × (flag_of (codes "keep-going") rows ≡ true) × IsFrameForm rows form × IsSource rows source
IsNamed name rows (Types reading set type_name) =
    (name ≡ codes "types") × IsReading rows reading × (set.now ≡ value_of (codes "SET") rows)
    × (option_map (λ n. n.now) type_name ≡ option_of (codes "NAME") rows)
IsNamed name rows (Compile roots out names) =
    (name ≡ codes "compile") × AreRoots rows roots × (out.now ≡ output_of rows) × (texts_of names.now ≡ sources_of rows)
IsNamed name rows (FromJson rules out source) =
    (name ≡ codes "from-json") × AreJsonRules rows rules × (out.now ≡ value_of (codes "OUT") rows) × IsSource rows source
IsNamed name rows (Compat comparison) = (name ≡ codes "compat") × IsComparison rows comparison

-- the command shows frames, as these words say
abbrev pub ShowsFrames : List Row → Command → Type 0
ShowsFrames rows = IsNamed (codes "frames") rows

-- the command is what clap's matches say
abbrev pub IsMatched : Option (Text × List Row) → Command → Type 0
IsMatched matched command = IsSomeAnd matched (λ m. IsNamed m.0 m.1 command)
