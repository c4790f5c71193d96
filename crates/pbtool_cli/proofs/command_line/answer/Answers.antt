use Rattle.std.proofs.Common.{rules, ◌≡◌, Some, None, codes, refl, sym, inl, inr, ap, ◌∙◌}
use Rattle.std.proofs.KnownBytes.{Appends-nil}
use Rattle.clap.specs.Words.{found_of, rows_of, subcommand_rows_of}
use Rattle.clap.proofs.WalkLemmas.{first_value-rows}
use Rattle.pbtool_files.proofs.KnownLemmas.{keeps_same}
use Rattle.pbtool_cli.specs.Misuse.{line_of, report_of}
use Rattle.pbtool_cli.proofs.Shown.{known_topic, met, page_shown, version_shown}
use Rattle.pbtool_cli.proofs.command_line.answer.Goals as goal

pub returns-in-Some-clause-done : goal.returns-in-Some-clause-done
returns-in-Some-clause-done g c = λ none. let some = sym c.in-Some.ensures in absurd (cc)

pub returns-in-Some-clause-misused : goal.returns-in-Some-clause-misused
returns-in-Some-clause-misused g c =
    let reported : report_of (subcommand_rows_of c.args.matches.now) ≡ Some (line_of c.in-Some.misuse) = sym c.in-Some.ensures in
    rw reported (inl
    (refl, (refl, Appends-nil (g.O.Output.written c.args.out.now)), c.report.ensures, keeps_same (g.F.Files.contents c.args.files.now)))

pub returns-in-Some-clause-usage : goal.returns-in-Some-clause-usage
returns-in-Some-clause-usage g c = λ two.
    let reported : report_of (subcommand_rows_of c.args.matches.now) ≡ Some (line_of c.in-Some.misuse) = sym c.in-Some.ensures in
    rw reported (search rules)

pub print_page-requires : goal.print_page-requires
print_page-requires g c =
    let rows = rows_of (found_of c.in-Some-subcommand_matches.inner.now) in
    let at_help = met c.args.matches.now (codes "help") rows (c.in-Some-subcommand_matches.ensures.found.0 refl) c.in-Some-subcommand_matches.ensures.rows in
    let unreported : report_of (Some (codes "help", rows)) ≡ None = sym (ap report_of at_help) ∙ sym c.in_default.ensures in
    known_topic c.get_str.result rows (c.get_str.ensures ∙ first_value-rows (found_of c.in-Some-subcommand_matches.inner.now) (codes "COMMAND")) unreported

pub returns-in-Some-subcommand_matches-clause-done : goal.returns-in-Some-subcommand_matches-clause-done
returns-in-Some-subcommand_matches-clause-done g c = λ unreported.
    elim c.print_page.ensures.printed [
      | inl page ↦ inr (inl (keeps_same (g.F.Files.contents c.args.files.now), page_shown _ c.args.matches.now (c.in-Some-subcommand_matches.ensures.found.0 refl) page))
      | inr memory ↦ inl (memory.0, memory.1, memory.2, keeps_same (g.F.Files.contents c.args.files.now))
    ]

pub returns-in-Some-subcommand_matches-2-clause-done : goal.returns-in-Some-subcommand_matches-2-clause-done
returns-in-Some-subcommand_matches-2-clause-done g c = λ unreported.
    inr (inl (keeps_same (g.F.Files.contents c.args.files.now), version_shown _ c.args.matches.now (c.in-Some-subcommand_matches-2.ensures.found.0 refl) c.print_version.ensures.printed))

pub returns-then-explains-clause-done : goal.returns-then-explains-clause-done
returns-then-explains-clause-done g c = λ unreported.
    let given = sym c.explains.ensures ∙ c.if-explains.true in
    inr (inr (rw given (c.command_of-command.result, c.command_of-command.ensures, c.execute_explained.ensures.done)))

pub returns-else-explains-clause-done : goal.returns-else-explains-clause-done
returns-else-explains-clause-done g c = λ unreported.
    let none = sym c.explains.ensures ∙ c.if-explains.false in
    inr (inr (rw none (c.command_of-command.result, c.command_of-command.ensures, c.execute_then.ensures.done)))
