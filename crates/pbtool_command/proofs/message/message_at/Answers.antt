use Rattle.std.proofs.Common.{refl}
use Rattle.std.proofs.KnownBytes.{Appends-nil}
use Rattle.std.proofs.lemmas.Result.{err_from_is_err_and}
use Rattle.pbtool_files.specs.FileMap.{IsSaved, IsUnsaved}
use Rattle.pbtool_command.specs.MessageAnswer.{FormAnswer}
use Rattle.pb_output.specs.Sending.{Cut, Sent}
use Rattle.pbtool_command.specs.Steps.{IsNothing, MessageAt}
use Rattle.pbtool_files.proofs.RefusalLemmas.{refuses_map}
use Rattle.pbtool_command.proofs.Coming.{refused_comes}
use Rattle.pbtool_command.proofs.FileSteps.{later_comes}
use Rattle.pbtool_command.proofs.MessageSteps.{made_of, not_read}
use Rattle.pbtool_command.proofs.message.message_at.Goals as goal

pub returns-in_err-message-clause-comes : goal.returns-in_err-message-clause-comes
returns-in_err-message-clause-comes g c =
    let p = err_from_is_err_and c.from_residual.result c.from_residual.ensures.1 in
    let contents = g.F.Files.contents in
    let is_steady = g.F.Files.is_steady in
    let before = c.args.files.now in
    let path = c.args.path.now in
    rw (p.1, p.2)
    (refused_comes (Sent g.O.Output.written g.O.Output.failures c.args.out.now c.args.out.now) (Cut g.O.Output.written g.O.Output.failures c.args.out.now c.args.out.now)
    (IsSaved contents before c.read_message.new.files) (IsUnsaved contents g.F.Files.failures before c.read_message.new.files)
    (MessageAt contents is_steady before c.args.form c.args.of.pool.now c.args.of.message_type.0 path) IsNothing c.in_err-message.field-0.0
    (refl, Appends-nil (g.O.Output.written c.args.out.now)) c.in_err-message.ensures.files refl
    (refuses_map _ _ c.in_err-message.field-0.0 (not_read contents is_steady before c.args.form c.args.of.pool.now c.args.of.message_type.0 path)
    c.in_err-message.ensures.refused))

pub returns-clause-comes : goal.returns-clause-comes
returns-clause-comes g c =
    let contents = g.F.Files.contents in
    let is_steady = g.F.Files.is_steady in
    let before = c.args.files.now in
    let mid = c.read_message.new.files in
    let message = c.in_ok-message.message in
    let read = c.in_ok-message.ensures in
    later_comes contents g.F.Files.failures before mid c.make-answer.new.files
    (Sent g.O.Output.written g.O.Output.failures c.args.out.now c.make-answer.new.out) (Cut g.O.Output.written g.O.Output.failures c.args.out.now c.make-answer.new.out)
    (FormAnswer c.args.form message) (MessageAt contents is_steady before c.args.form c.args.of.pool.now c.args.of.message_type.0 c.args.path.now)
    IsNothing IsNothing c.make-answer.result read.files read.kept
    (λ a made. made_of contents is_steady before c.args.form c.args.of.pool.now c.args.of.message_type.0 c.args.path.now message a read.of_type.0 read.of_type.1 read.read made)
    (λ text nothing. nothing) c.make-answer.ensures.comes
