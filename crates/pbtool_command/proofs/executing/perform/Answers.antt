use Rattle.pbtool_files.specs.FileMap.{IsSaved, IsUnsaved}
use Rattle.pbtool_command.specs.Steps.{IsNothing, RightOf}
use Rattle.pbtool_command.specs.declared.command.Command.TheVariants.{Compile, FromJson}
use Rattle.pbtool_command.proofs.CompileSteps.{nothing_out}
use Rattle.pbtool_command.proofs.executing.perform.Goals as goal

pub returns-in-Raw-clause-comes : goal.returns-in-Raw-clause-comes
returns-in-Raw-clause-comes g c = rw c.in-Raw.is c.raw.ensures.comes

pub returns-in-Check-clause-comes : goal.returns-in-Check-clause-comes
returns-in-Check-clause-comes g c = rw c.in-Check.is c.check.ensures.comes

pub returns-in-Show-clause-comes : goal.returns-in-Show-clause-comes
returns-in-Show-clause-comes g c = rw c.in-Show.is c.message.ensures.comes

pub returns-in-Canon-clause-comes : goal.returns-in-Canon-clause-comes
returns-in-Canon-clause-comes g c = rw c.in-Canon.is (rw c.form_of.ensures at c.message-in-Canon.ensures.comes)

pub returns-in-Json-clause-comes : goal.returns-in-Json-clause-comes
returns-in-Json-clause-comes g c = rw c.in-Json.is c.json.ensures.comes

pub returns-in-Text-clause-comes : goal.returns-in-Text-clause-comes
returns-in-Text-clause-comes g c = rw c.in-Text.is c.message-in-Text.ensures.comes

pub returns-in-Frames-clause-comes : goal.returns-in-Frames-clause-comes
returns-in-Frames-clause-comes g c = rw c.in-Frames.is c.frames.ensures.comes

pub returns-in-AllFrames-clause-comes : goal.returns-in-AllFrames-clause-comes
returns-in-AllFrames-clause-comes g c = rw c.in-AllFrames.is c.all_frames.ensures.comes

pub returns-in-Compile-clause-comes : goal.returns-in-Compile-clause-comes
returns-in-Compile-clause-comes g c =
    rw c.in-Compile.is
    (nothing_out g.O.Output.written g.O.Output.failures c.args.out.now (IsSaved g.F.Files.contents c.args.files.now c.compile.new.files)
    (IsUnsaved g.F.Files.contents g.F.Files.failures c.args.files.now c.compile.new.files)
    (RightOf g.F.Files.contents g.F.Files.is_steady c.args.files.now (Compile c.in-Compile.roots c.in-Compile.to c.in-Compile.names)) IsNothing
    c.compile.result c.compile.ensures.comes)

pub returns-in-FromJson-clause-comes : goal.returns-in-FromJson-clause-comes
returns-in-FromJson-clause-comes g c =
    rw c.in-FromJson.is
    (nothing_out g.O.Output.written g.O.Output.failures c.args.out.now (IsSaved g.F.Files.contents c.args.files.now c.from_json.new.files)
    (IsUnsaved g.F.Files.contents g.F.Files.failures c.args.files.now c.from_json.new.files)
    (RightOf g.F.Files.contents g.F.Files.is_steady c.args.files.now (FromJson c.in-FromJson.rules c.in-FromJson.to c.in-FromJson.source)) IsNothing
    c.from_json.result c.from_json.ensures.comes)

pub returns-in-Types-clause-comes : goal.returns-in-Types-clause-comes
returns-in-Types-clause-comes g c = rw c.in-Types.is c.types.ensures.comes

pub returns-in-Compat-clause-comes : goal.returns-in-Compat-clause-comes
returns-in-Compat-clause-comes g c = rw c.in-Compat.is c.compat.ensures.comes
