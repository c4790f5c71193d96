use Rattle.std.proofs.Common.{◌+◌, ℕ, List, Option, Ok, Err, refl, arith}
use Rattle.std.proofs.KnownBytes.{Appends-nil}
use Rattle.std.proofs.lemmas.Result.{err_from_is_err_and}
use Rattle.pbtool_files.specs.FileMap.{IsSaved, IsUnsaved}
use Rattle.pb_output.specs.Sending.{Cut, Sent}
use Rattle.pbtool_files.specs.Known.{IsReadOf}
use Rattle.pbtool_command.specs.Steps.{IsNothing}
use Rattle.pbtool_command.specs.RawAnswer.{RawAnswer}
use Rattle.pb_listing.proofs.Borrowing.{text_in_full}
use Rattle.pbtool_command.proofs.Coming.{refused_comes}
use Rattle.pbtool_command.proofs.RawSteps.{shown_comes}
use Rattle.pbtool_command.proofs.raw.raw.Goals as goal

pub returns-in_err-text-clause-comes : goal.returns-in_err-text-clause-comes
returns-in_err-text-clause-comes g c =
    let p = err_from_is_err_and c.from_residual.result c.from_residual.ensures.1 in
    rw (p.1, p.2)
    (refused_comes (Sent g.O.Output.written g.O.Output.failures c.args.out.now c.args.out.now) (Cut g.O.Output.written g.O.Output.failures c.args.out.now c.args.out.now)
    (IsSaved g.F.Files.contents c.args.files.now c.read_judged.new.files) (IsUnsaved g.F.Files.contents g.F.Files.failures c.args.files.now c.read_judged.new.files)
    (λ a. (content : Option (List ℕ)) × IsReadOf g.F.Files.contents g.F.Files.is_steady c.args.files.now (c.args.limits.bytes + 1) c.args.path.now content
    × RawAnswer c.args.limits c.args.form c.args.path.now content a) IsNothing c.in_err-text.field-0.0
    (refl, Appends-nil (g.O.Output.written c.args.out.now)) c.in_err-text.ensures.files refl (c.in_err-text.ensures.judged c.args.form))

pub returns-in_err-show-clause-comes : goal.returns-in_err-show-clause-comes
returns-in_err-show-clause-comes g c =
    let p = err_from_is_err_and c.from_residual-in_err-show.result c.from_residual-in_err-show.ensures.1 in
    let judged = c.in_ok-text.ensures.judged in
    let whole = text_in_full (omega (arith, c.requires.bytes)) c.requires.depth judged.1.1 in
    rw (p.1, p.2)
    (shown_comes (Sent g.O.Output.written g.O.Output.failures c.args.out.now c.show.new.out) (Cut g.O.Output.written g.O.Output.failures c.args.out.now c.show.new.out)
    (IsSaved g.F.Files.contents c.args.files.now c.read_judged.new.files) (IsUnsaved g.F.Files.contents g.F.Files.failures c.args.files.now c.read_judged.new.files)
    c.args.limits c.args.form c.args.path.now
    (IsReadOf g.F.Files.contents g.F.Files.is_steady c.args.files.now (c.args.limits.bytes + 1) c.args.path.now)
    c.in_ok-text.text.items judged.1.0 (Err c.in_err-show.field-0.0) judged.0 judged.1.1 c.in_ok-text.ensures.files
    (c.in_err-show.ensures judged.1.0 (rw c.as_slice.ensures.value whole)))

pub returns-clause-comes : goal.returns-clause-comes
returns-clause-comes g c =
    let judged = c.in_ok-text.ensures.judged in
    let whole = text_in_full (omega (arith, c.requires.bytes)) c.requires.depth judged.1.1 in
    shown_comes (Sent g.O.Output.written g.O.Output.failures c.args.out.now c.show.new.out) (Cut g.O.Output.written g.O.Output.failures c.args.out.now c.show.new.out)
    (IsSaved g.F.Files.contents c.args.files.now c.read_judged.new.files) (IsUnsaved g.F.Files.contents g.F.Files.failures c.args.files.now c.read_judged.new.files)
    c.args.limits c.args.form c.args.path.now
    (IsReadOf g.F.Files.contents g.F.Files.is_steady c.args.files.now (c.args.limits.bytes + 1) c.args.path.now)
    c.in_ok-text.text.items judged.1.0 (Ok tt) judged.0 judged.1.1 c.in_ok-text.ensures.files
    (c.in_ok-show.ensures judged.1.0 (rw c.as_slice.ensures.value whole))
