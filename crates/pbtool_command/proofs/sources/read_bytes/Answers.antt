use Rattle.pbtool_command.proofs.SourceSteps.{none_at, opened_at, read_at}
use Rattle.pbtool_command.proofs.sources.read_bytes.Goals as goal

pub returns-in-Ok-clause-read : goal.returns-in-Ok-clause-read
returns-in-Ok-clause-read g c =
    let opens = rw c.in-Ok-Some.field-0-is at c.in-Ok-Some.ensures.map in
    let steady = rw c.in-Ok-Some.field-0-is at c.in-Ok-Some.ensures.steady_input in
    read_at g.F.Files.contents g.F.Files.is_steady c.args.files.now c.args.path.now g.F.In.Input.left g.F.In.Input.is_steady c.in-Ok-Some.input c.in-Ok.bytes.items
    (opened_at g.F.Files.contents g.F.Files.is_steady c.args.files.now c.args.path.now g.F.In.Input.left g.F.In.Input.is_steady c.in-Ok-Some.input opens.1 steady)
    (rw c.max_bytes.ensures.same at c.in-Ok.ensures.bytes)

pub returns-in-Ok-None-clause-read : goal.returns-in-Ok-None-clause-read
returns-in-Ok-None-clause-read g c =
    let opens = rw c.in-Ok-None.field-0-is at c.in-Ok-None.ensures.map in
    none_at g.F.Files.contents g.F.Files.is_steady c.args.files.now c.args.path.now g.F.In.Input.left opens.1
