use Rattle.std.proofs.Common.{[], inl}
use Rattle.pbtool_command.specs.Answers.{Answers, AnyAnswers, AnyBegins, Begins}
use Rattle.pbtool_cli.specs.Explained.{WithMore}
use Rattle.pbtool_files.specs.FileMap.{IsSaved, IsUnsaved}
use Rattle.pbtool_hints.specs.Lines.AreLines.{none}
use Rattle.pb_output.specs.Sending.{Cut, Sent, SentOrCut}
use Rattle.pbtool_command.specs.Steps.{BegunOf, RightOf}
use Rattle.pbtool_command.proofs.Coming.{comes_map}
use Rattle.pbtool_command.proofs.Endings.{device_told, ends_from, kept_but_at_three, never_two}
use Rattle.pbtool_cli.proofs.ExplainedSteps.{quiet_at_zero}
use Rattle.pbtool_command.proofs.Honest.{begun_of_any, begun_of_map, right_of_any, right_of_map}
use Rattle.pbtool_cli.proofs.explaining.execute_explained.Goals as goal

pub returns-clause-done : goal.returns-clause-done
returns-clause-done g c =
    let out = Sent g.O.Output.written g.O.Output.failures c.args.out.now c.perform-outcome.new.out in
    let cut = Cut g.O.Output.written g.O.Output.failures c.args.out.now c.perform-outcome.new.out in
    let told = WithMore (SentOrCut g.E.Output.written g.E.Output.failures c.args.err.now c.conclude.new.err) in
    let quiet = Sent g.E.Output.written g.E.Output.failures c.args.err.now c.conclude.new.err [] in
    let saved = IsSaved g.F.Files.contents c.args.files.now c.perform-outcome.new.files in
    let unsaved = IsUnsaved g.F.Files.contents g.F.Files.failures c.args.files.now c.perform-outcome.new.files in (
      c.perform-outcome.new.files,
      (
        (λ map honest.
            ends_from out cut told saved unsaved c.conclude.result (Answers map c.args.command.now) (Begins map c.args.command.now) quiet
            c.perform-outcome.result (λ sent. ([], none, inl sent))
            (comes_map out out cut cut saved saved unsaved unsaved (RightOf g.F.Files.contents g.F.Files.is_steady c.args.files.now c.args.command.now)
            (Answers map c.args.command.now) (BegunOf g.F.Files.contents g.F.Files.is_steady c.args.files.now c.args.command.now)
            (Begins map c.args.command.now) c.perform-outcome.result (λ text h. h) (λ text h. h) (λ s h. h) (λ path h. h)
            (right_of_map g.F.Files.contents g.F.Files.is_steady c.args.files.now map honest c.args.command.now)
            (begun_of_map g.F.Files.contents g.F.Files.is_steady c.args.files.now map honest c.args.command.now) c.perform-outcome.ensures.comes)
            c.conclude.ensures),
        ends_from out cut told saved unsaved c.conclude.result (AnyAnswers c.args.command.now) (AnyBegins c.args.command.now) quiet
            c.perform-outcome.result (λ sent. ([], none, inl sent))
            (comes_map out out cut cut saved saved unsaved unsaved (RightOf g.F.Files.contents g.F.Files.is_steady c.args.files.now c.args.command.now)
            (AnyAnswers c.args.command.now) (BegunOf g.F.Files.contents g.F.Files.is_steady c.args.files.now c.args.command.now)
            (AnyBegins c.args.command.now) c.perform-outcome.result (λ text h. h) (λ text h. h) (λ s h. h) (λ path h. h)
            (right_of_any g.F.Files.contents g.F.Files.is_steady c.args.files.now c.args.command.now)
            (begun_of_any g.F.Files.contents g.F.Files.is_steady c.args.files.now c.args.command.now) c.perform-outcome.ensures.comes)
            c.conclude.ensures,
      ),
      (λ other. kept_but_at_three _ _ c.perform-outcome.result c.conclude.result _ c.conclude.ensures c.perform-outcome.ensures.kept other),
      (λ failed. device_told _ told c.perform-outcome.result c.conclude.result _ c.conclude.ensures c.perform-outcome.ensures.kept failed),
    )

pub returns-clause-status : goal.returns-clause-status
returns-clause-status g c = never_two _ _ c.perform-outcome.result c.conclude.result c.conclude.ensures

pub returns-clause-quiet : goal.returns-clause-quiet
returns-clause-quiet g c = quiet_at_zero _ _ c.perform-outcome.result c.conclude.result c.conclude.ensures
