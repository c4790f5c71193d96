use Rattle.std.proofs.Common.{◌+◌, ℕ, List, Option, refl}
use Rattle.std.proofs.KnownBytes.{Appends-nil}
use Rattle.std.proofs.lemmas.Result.{err_from_is_err_and}
use Rattle.pb_output.specs.Sending.{Cut, Sent}
use Rattle.pb_wire.specs.Limits.{full}
use Rattle.pbtool_files.specs.FileMap.{IsSaved, IsUnsaved}
use Rattle.pbtool_files.specs.Known.{IsReadOf}
use Rattle.pbtool_files.specs.SetFile.{NoType}
use Rattle.pbtool_files.proofs.RefusalLemmas.{refuses_map}
use Rattle.pbtool_command.specs.Steps.{IsNothing, MessageAt, MessageOf}
use Rattle.pbtool_command.specs.TypeAnswer.{no_type}
use Rattle.pbtool_command.specs.declared.form.Form.TheVariants.{Check}
use Rattle.pbtool_command.proofs.Coming.{refused_comes}
use Rattle.pbtool_command.proofs.FileSteps.{later_comes}
use Rattle.pbtool_command.proofs.MessageSteps.{message_of}
use Rattle.pbtool_command.proofs.check.check.Goals as goal

pub returns-in_err-pool-clause-comes : goal.returns-in_err-pool-clause-comes
returns-in_err-pool-clause-comes g c =
    let p = err_from_is_err_and c.from_residual.result c.from_residual.ensures.1 in
    let contents = g.F.Files.contents in
    let is_steady = g.F.Files.is_steady in
    let before = c.args.files.now in
    let source = c.args.source.now in
    let right = MessageOf contents is_steady before Check source in
    rw (p.1, p.2)
    (refused_comes (Sent g.O.Output.written g.O.Output.failures c.args.out.now c.args.out.now) (Cut g.O.Output.written g.O.Output.failures c.args.out.now c.args.out.now)
    (IsSaved contents before c.find_type.new.files) (IsUnsaved contents g.F.Files.failures before c.find_type.new.files) right IsNothing
    c.in_err-pool.field-0.0 (refl, Appends-nil (g.O.Output.written c.args.out.now)) c.in_err-pool.ensures.files refl
    (refuses_map (λ a. (content : Option (List ℕ)) × IsReadOf contents is_steady before (full.bytes + 1) source.set.now content
    × NoType source.reading source.type_name.now source.set.now content a) right c.in_err-pool.field-0.0 (λ a h. no_type h.1 h.2) c.in_err-pool.ensures.refused))

pub returns-clause-comes : goal.returns-clause-comes
returns-clause-comes g c =
    let contents = g.F.Files.contents in
    let is_steady = g.F.Files.is_steady in
    let before = c.args.files.now in
    let mid = c.find_type.new.files in
    let source = c.args.source.now in
    let pool = c.in_ok-pool.pool in
    let kind = c.in_ok-pool.message_type.0 in
    let type = c.in_ok-pool.ensures in
    later_comes contents g.F.Files.failures before mid c.check_at-answer.new.files
    (Sent g.O.Output.written g.O.Output.failures c.args.out.now c.check_at-answer.new.out) (Cut g.O.Output.written g.O.Output.failures c.args.out.now c.check_at-answer.new.out)
    (MessageAt contents is_steady mid Check pool kind source.file.now) (MessageOf contents is_steady before Check source) IsNothing IsNothing
    c.check_at-answer.result type.files type.kept
    (message_of contents is_steady before mid Check source type.found.0 pool kind type.found.1 type.found.2 type.files type.steady)
    (λ text nothing. nothing) c.check_at-answer.ensures.comes
