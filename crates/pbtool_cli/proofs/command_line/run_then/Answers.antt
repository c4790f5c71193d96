use Rattle.std.proofs.Common.{◌≡◌, List, Option, refl, sym, inl, inr, ap, ◌∙◌, arith, subst}
use Rattle.std.specs.Prelude.{IsSome}
use Rattle.std.proofs.KnownBytes.{Appends-nil}
use Rattle.clap.specs.Words.{App, Row, Text, is_simple, is_simple_and_free, fault_of, kind_of, subcommand_of, subcommand_rows_of, takes}
use Rattle.clap.specs.declared.error.kind.ErrorKind.TheVariants.{OutOfMemory}
use Rattle.pbtool_cli.specs.Words.{is_explained, tool, words_of}
use Rattle.pbtool_files.proofs.KnownLemmas.{keeps_same}
use Rattle.pbtool_cli.specs.Misuse.{report_of}
use Rattle.pbtool_cli.proofs.Matches.{subcommand_named}
use Rattle.pbtool_cli.proofs.Shown.{named_done, reported_at}
use Rattle.pbtool_cli.proofs.Refusals.{no_kind, not_true, whatever}
use Rattle.pbtool_cli.proofs.command_line.run_then.Goals as goal

pub returns-in-Ok-try_get_matches_from-clause-taken : goal.returns-in-Ok-try_get_matches_from-clause-taken
returns-in-Ok-try_get_matches_from-clause-taken g c = λ taken.
    let words = words_of c.args.args.now in
    let app = c.in-Ok.ensures.app in
    let matched : subcommand_rows_of c.in-Ok-try_get_matches_from.matches ≡ subcommand_of tool words =
    (c.in-Ok-try_get_matches_from.ensures.matches (ap is_simple app)).1 ∙ ap (λ (a : App). subcommand_of a words) app in
    named_done _ _ _ _ _ _ _ _ _ _ matched c.answer.ensures.done

pub returns-in-Ok-try_get_matches_from-clause-misused : goal.returns-in-Ok-try_get_matches_from-clause-misused
returns-in-Ok-try_get_matches_from-clause-misused g c = λ taken.
    let words = words_of c.args.args.now in
    let app = c.in-Ok.ensures.app in
    let matched : subcommand_rows_of c.in-Ok-try_get_matches_from.matches ≡ subcommand_of tool words =
    (c.in-Ok-try_get_matches_from.ensures.matches (ap is_simple app)).1 ∙ ap (λ (a : App). subcommand_of a words) app in
    reported_at _ _ _ matched c.answer.ensures.misused

pub returns-in-Ok-try_get_matches_from-clause-usage : goal.returns-in-Ok-try_get_matches_from-clause-usage
returns-in-Ok-try_get_matches_from-clause-usage g c = λ two.
    let words = words_of c.args.args.now in
    let app = c.in-Ok.ensures.app in
    let matched : subcommand_rows_of c.in-Ok-try_get_matches_from.matches ≡ subcommand_of tool words =
    (c.in-Ok-try_get_matches_from.ensures.matches (ap is_simple app)).1 ∙ ap (λ (a : App). subcommand_of a words) app in
    inr (subst (λ (m : Option (Text × List Row)). IsSome (report_of m)) matched (c.answer.ensures.usage two))

pub returns-in-Err-clause-taken : goal.returns-in-Err-clause-taken
returns-in-Err-clause-taken g c = λ taken unreported.
    let words = words_of c.args.args.now in
    let app = c.in-Ok.ensures.app in
    let has = c.in-Err.ensures.kinds (ap is_simple_and_free app) in
    let three = c.usage.ensures.out_of_memory (no_kind c.in-Err.error _ (ap (λ (a : App). fault_of a words) app ∙ taken) has) in
    inl (three, (refl, Appends-nil (g.O.Output.written c.args.out.now)), c.usage.ensures.memory three, keeps_same (g.F.Files.contents c.args.files.now))

pub returns-in-Err-clause-usage : goal.returns-in-Err-clause-usage
returns-in-Err-clause-usage g c = λ two.
    let words = words_of c.args.args.now in
    let app = c.in-Ok.ensures.app in
    let ample : kind_of c.in-Err.error ≡ OutOfMemory → ⊥ = λ memory. let three = c.usage.ensures.out_of_memory memory in absurd (omega arith) in
    let has = c.in-Err.ensures.kinds (ap is_simple_and_free app) in inl (
      λ taken. ample (no_kind c.in-Err.error _ (ap (λ (a : App). fault_of a words) app ∙ taken) has),
      not_true (takes tool words) (λ taken. ample (c.in-Err.ensures.passes (ap (λ (a : App). takes a words) app ∙ taken))),
    )

pub returns-in-Err-clause-misused : goal.returns-in-Err-clause-misused
returns-in-Err-clause-misused g c = λ taken.
    let words = words_of c.args.args.now in
    let app = c.in-Ok.ensures.app in
    let has = c.in-Err.ensures.kinds (ap is_simple_and_free app) in
    let three = c.usage.ensures.out_of_memory (no_kind c.in-Err.error _ (ap (λ (a : App). fault_of a words) app ∙ taken) has) in
    whatever _
    (λ line. inr (three, (refl, Appends-nil (g.O.Output.written c.args.out.now)), c.usage.ensures.memory three, keeps_same (g.F.Files.contents c.args.files.now)))

pub returns-in_default-clause-misused : goal.returns-in_default-clause-misused
returns-in_default-clause-misused g c = λ taken.
    whatever _
    (λ line. inr (c.out_of_memory.ensures.status, (refl, Appends-nil (g.O.Output.written c.args.out.now)), c.out_of_memory.ensures.line, keeps_same (g.F.Files.contents c.args.files.now)))

pub returns-in_default-clause-taken : goal.returns-in_default-clause-taken
returns-in_default-clause-taken g c = λ taken unreported.
    inl
    (c.out_of_memory.ensures.status, (refl, Appends-nil (g.O.Output.written c.args.out.now)), c.out_of_memory.ensures.line, keeps_same (g.F.Files.contents c.args.files.now))

pub returns-in-Ok-try_get_matches_from-clause-refused : goal.returns-in-Ok-try_get_matches_from-clause-refused
returns-in-Ok-try_get_matches_from-clause-refused g c = λ refused.
    let words = words_of c.args.args.now in
    let app = c.in-Ok.ensures.app in
    absurd (refused (sym (ap (λ (a : App). fault_of a words) app) ∙ c.in-Ok-try_get_matches_from.ensures.kinds (ap is_simple_and_free app)))

pub answer-requires : goal.answer-requires
answer-requires g c =
    let words = words_of c.args.args.now in
    let app = c.in-Ok.ensures.app in
    let e = c.in-Ok-try_get_matches_from.ensures in
    let built_tool = e.parsed.from in
    let there = (e.parsed.parsed (built_tool.globals ∙ c.in-Ok.ensures.local)).checked.subcommand (built_tool.needs_subcommand ∙ ap (λ (a : App). a.top.subcommand_required) app) in
    subcommand_named _ words there ((e.matches (ap is_simple app)).1 ∙ ap (λ (a : App). subcommand_of a words) app)

pub returns-in-Ok-try_get_matches_from-clause-simple : goal.returns-in-Ok-try_get_matches_from-clause-simple
returns-in-Ok-try_get_matches_from-clause-simple g c = refl

pub returns-in-Err-clause-simple : goal.returns-in-Err-clause-simple
returns-in-Err-clause-simple g c = refl

pub returns-in_default-clause-simple : goal.returns-in_default-clause-simple
returns-in_default-clause-simple g c = refl

pub returns-in-Ok-try_get_matches_from-clause-failed : goal.returns-in-Ok-try_get_matches_from-clause-failed
returns-in-Ok-try_get_matches_from-clause-failed g c = λ unexplained.
    let app = c.in-Ok.ensures.app in
    let matched =
    (c.in-Ok-try_get_matches_from.ensures.matches (ap is_simple app)).1 ∙ ap (λ (a : App). subcommand_of a (words_of c.args.args.now)) app in
    c.answer.ensures.failed (ap is_explained matched ∙ unexplained)

pub returns-in-Ok-try_get_matches_from-clause-kept : goal.returns-in-Ok-try_get_matches_from-clause-kept
returns-in-Ok-try_get_matches_from-clause-kept g c = λ unexplained.
    let app = c.in-Ok.ensures.app in
    let matched =
    (c.in-Ok-try_get_matches_from.ensures.matches (ap is_simple app)).1 ∙ ap (λ (a : App). subcommand_of a (words_of c.args.args.now)) app in
    c.answer.ensures.kept (ap is_explained matched ∙ unexplained)

pub returns-in-Err-clause-failed : goal.returns-in-Err-clause-failed
returns-in-Err-clause-failed g c = λ unexplained failed. absurd (failed refl)

pub returns-in_default-clause-failed : goal.returns-in_default-clause-failed
returns-in_default-clause-failed g c = λ unexplained failed. absurd (failed refl)

pub returns-in-Ok-try_get_matches_from-clause-unfailing : goal.returns-in-Ok-try_get_matches_from-clause-unfailing
returns-in-Ok-try_get_matches_from-clause-unfailing g c = λ unexplained.
    let app = c.in-Ok.ensures.app in
    let matched =
    (c.in-Ok-try_get_matches_from.ensures.matches (ap is_simple app)).1 ∙ ap (λ (a : App). subcommand_of a (words_of c.args.args.now)) app in
    c.answer.ensures.unfailing (ap is_explained matched ∙ unexplained)
