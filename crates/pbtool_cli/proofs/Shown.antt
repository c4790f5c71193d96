-- What is done where the words name no command over files.
use Rattle.std.proofs.Common.{◌≡◌, ◌⊎◌, Bool, true, false, List, ℕ, Option, Some, None, option_map, codes, inl, inr, refl, ap, ◌∙◌, subst}
use Rattle.std.specs.Prelude.{IfSome, option_and_then, if◌then◌else◌}
use Rattle.std.specs.Borrow.{Bor}
use Rattle.std.specs.Box.{box_value}
use Rattle.std.specs.declared.alloc.Global.{Global}
use Rattle.std.specs.declared.boxed.Box.{Box}
use Rattle.clap.specs.Words.{Row, Text, subcommand_name_of, subcommand_rows_of}
use Rattle.clap.specs.Simple.{subcommand_rows}
use Rattle.clap.specs.declared.parser.matches.ArgMatches.{ArgMatches}
use Rattle.clap.specs.declared.parser.matches.ArgMatches.TheViews.{out-ArgMatches, out-SubCommand}
use Rattle.clap.specs.declared.parser.matches.SubCommand.{SubCommand}
use Rattle.pbtool_cli.specs.Misuse.{help_report, is_topic, no_command, report_of}
use Rattle.pbtool_files.specs.FileMap.{FileMap}
use Rattle.pbtool_command.specs.declared.command.Command.{Command}
use Rattle.pbtool_cli.specs.Running.{DoesNamed, Shows, version_line}
use Rattle.pbtool_cli.specs.Words.{option_of}

-- the name and the rows of the subcommand that was met
named_rows :
    (s : Option (Text × List Row)) (name : Text) (rows : List Row) → option_map (λ p. p.0) s ≡ Some name → option_map (λ p. p.1) s ≡ Some rows
    → s ≡ Some (name, rows)
named_rows None name rows n r = absurd (cc)
named_rows (Some p) name rows n r =
    let same_name : p.0 ≡ name = cc in
    let same_rows : p.1 ≡ rows = cc in
    rw (same_name, same_rows) refl

name_met :
    (o : Option (Box SubCommand Global)) (name : Text) → option_map (λ b. (out-SubCommand (box_value b)).name.now) o ≡ Some name
    → option_map (λ p. p.0) (subcommand_rows o) ≡ Some name
name_met None name e = e
name_met (Some b) name e = e

pub met :
    (m : ArgMatches) (name : Text) (rows : List Row) → subcommand_name_of m ≡ Some name → option_map (λ p. p.1) (subcommand_rows_of m) ≡ Some rows
    → subcommand_rows_of m ≡ Some (name, rows)
met m name rows n r = named_rows (subcommand_rows_of m) name rows (name_met (out-ArgMatches m).subcommand name n) r

-- a word that `help` is asked about and that is not refused is a command
pub known_topic :
    (o : Option (Bor (List ℕ))) (rows : List Row) → option_map (λ s. s.now) o ≡ option_of (codes "COMMAND") rows → help_report rows ≡ None
    → IfSome o (λ word. is_topic word.now ≡ true)
known_topic None rows given known = tt
known_topic (Some word) rows given known = by (is_topic word.now) refl (ap by_word given ∙ known)
  where
    by_word : Option Text → Option Text
    by_word = option_and_then (λ w. if is_topic w then None else Some (no_command w))

    by : (b : Bool) → is_topic word.now ≡ b → (if is_topic word.now then None else Some (no_command word.now)) ≡ None → b ≡ true
    by true is none = refl
    by false is none = let bad = rw is at none in absurd (cc)

shown_by :
    (IsText : List ℕ → Type 0) (s : Option (Text × List Row)) (name : Text) → option_map (λ p. p.0) s ≡ Some name
    → ((name ≡ codes "help") × ((page : List ℕ) × IsText page)) ⊎ ((name ≡ codes "version") × IsText version_line) → Shows IsText s
shown_by IsText None name e what = absurd (cc)
shown_by IsText (Some p) name e (inl what) = inl (let same : p.0 ≡ name = cc in same ∙ what.0, what.1)
shown_by IsText (Some p) name e (inr what) = inr (let same : p.0 ≡ name = cc in same ∙ what.0, what.1)

-- a page is printed
pub page_shown :
    (IsText : List ℕ → Type 0) (m : ArgMatches) → subcommand_name_of m ≡ Some (codes "help") → (page : List ℕ) × IsText page → Shows IsText (subcommand_rows_of m)
page_shown IsText m n page =
    shown_by IsText (subcommand_rows_of m) (codes "help") (name_met (out-ArgMatches m).subcommand (codes "help") n) (inl (refl, page))

-- or the version
pub version_shown :
    (IsText : List ℕ → Type 0) (m : ArgMatches) → subcommand_name_of m ≡ Some (codes "version") → IsText version_line → Shows IsText (subcommand_rows_of m)
version_shown IsText m n version =
    shown_by IsText (subcommand_rows_of m) (codes "version") (name_met (out-ArgMatches m).subcommand (codes "version") n) (inr (refl, version))

-- WHAT IS SO OF THE SAME MATCHES

pub reported_at :
    (P : Text → Type 0) (s t : Option (Text × List Row)) → s ≡ t → IfSome (report_of s) P → IfSome (report_of t) P
reported_at P s t same of = subst (λ (u : Option (Text × List Row)). IfSome (report_of u) P) same of

pub named_done :
    (Out Cut Told : List ℕ → Type 0) (Saved : Option (List ℕ × List ℕ) → Type 0) (Unsaved : List ℕ → Type 0) (status : ℕ) (IsMap : FileMap → Type 0)
    (Explains : Command → Type 0) (s t : Option (Text × List Row)) → s ≡ t → (report_of s ≡ None → DoesNamed Out Cut Told Saved Unsaved status IsMap Explains s)
    → report_of t ≡ None → DoesNamed Out Cut Told Saved Unsaved status IsMap Explains t
named_done Out Cut Told Saved Unsaved status IsMap Explains s t same done none =
    subst (λ (u : Option (Text × List Row)). DoesNamed Out Cut Told Saved Unsaved status IsMap Explains u) same (done (ap report_of same ∙ none))
