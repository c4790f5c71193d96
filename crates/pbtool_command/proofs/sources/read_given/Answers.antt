use Rattle.pbtool_command.specs.CompileAnswer.{texts_of}
use Rattle.pbtool_command.proofs.SourceSteps.{missing_refuses}
use Rattle.pbtool_command.proofs.sources.read_given.Goals as goal

pub returns-in-Ok-None-clause-refused : goal.returns-in-Ok-None-clause-refused
returns-in-Ok-None-clause-refused g c =
    let absent = rw c.in-Ok-None.field-0-is at c.in-Ok-None.ensures.read in
    missing_refuses g.F.Files.contents g.F.Files.is_steady c.args.files.now c.args.roots.reading c.args.roots.root.now (texts_of c.args.roots.others.now) c.args.name.now
    c.missing.result absent c.missing.ensures
