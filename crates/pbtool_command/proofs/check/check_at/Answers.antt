use Rattle.std.proofs.Common.{◌≡◌, refl}
use Rattle.std.proofs.KnownBytes.{Appends-nil}
use Rattle.std.proofs.lemmas.Result.{err_from_is_err_and}
use Rattle.std.specs.Prelude.{codes}
use Rattle.pb_output.specs.Sending.{Cut, Sent}
use Rattle.pbtool_files.specs.Answer.{done}
use Rattle.pbtool_files.specs.FileMap.{IsSaved, IsUnsaved}
use Rattle.pbtool_files.proofs.RefusalLemmas.{refuses_map}
use Rattle.pbtool_command.specs.Steps.{IsNothing, MessageAt, NoFile}
use Rattle.pbtool_command.specs.declared.form.Form.TheVariants.{Check}
use Rattle.pbtool_command.proofs.CheckSteps.{judged_of}
use Rattle.pbtool_command.proofs.Coming.{comes_map, no_file_kept, refused_comes}
use Rattle.pbtool_command.proofs.MessageSteps.{not_read}
use Rattle.pbtool_command.proofs.check.check_at.Goals as goal

pub returns-in_err-judge_file-clause-comes : goal.returns-in_err-judge_file-clause-comes
returns-in_err-judge_file-clause-comes g c =
    let p = err_from_is_err_and c.from_residual.result c.from_residual.ensures.1 in
    let contents = g.F.Files.contents in
    let is_steady = g.F.Files.is_steady in
    let before = c.args.files.now in
    let path = c.args.path.now in
    rw (p.1, p.2)
    (refused_comes (Sent g.O.Output.written g.O.Output.failures c.args.out.now c.args.out.now) (Cut g.O.Output.written g.O.Output.failures c.args.out.now c.args.out.now)
    (IsSaved contents before c.judge_file.new.files) (IsUnsaved contents g.F.Files.failures before c.judge_file.new.files)
    (MessageAt contents is_steady before Check c.args.pool.now c.args.message_type.0 path) IsNothing c.in_err-judge_file.field-0.0
    (refl, Appends-nil (g.O.Output.written c.args.out.now)) c.in_err-judge_file.ensures.files refl
    (refuses_map _ _ c.in_err-judge_file.field-0.0 (not_read contents is_steady before Check c.args.pool.now c.args.message_type.0 path)
    c.in_err-judge_file.ensures.refused))

pub returns-clause-comes : goal.returns-clause-comes
returns-clause-comes g c =
    let contents = g.F.Files.contents in
    let is_steady = g.F.Files.is_steady in
    let before = c.args.files.now in
    let mid = c.judge_file.new.files in
    let pool = c.args.pool.now in
    let kind = c.args.message_type.0 in
    let path = c.args.path.now in
    let judged = c.in_ok-judge_file.ensures in
    let out = Sent g.O.Output.written g.O.Output.failures c.args.out.now c.print_ok.new.out in
    let cut = Cut g.O.Output.written g.O.Output.failures c.args.out.now c.print_ok.new.out in
    comes_map out out cut cut NoFile (IsSaved contents before mid) (λ _. ⊥) (IsUnsaved contents g.F.Files.failures before mid)
    (λ a. a ≡ done (codes "ok\n")) (MessageAt contents is_steady before Check pool kind path) IsNothing IsNothing c.print_ok.result (λ text h. h)
    (λ text h. h) (no_file_kept contents before mid judged.files) (λ device h. absurd h)
    (λ a is. judged_of contents is_steady before pool kind path judged.valid.0 a judged.valid.1 judged.valid.2 is) (λ text h. h) c.print_ok.ensures
