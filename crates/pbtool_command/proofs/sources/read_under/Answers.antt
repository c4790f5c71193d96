use Rattle.std.proofs.Common.{ℕ, List, refl, subst}
use Rattle.pb_declarations.specs.View.{file_view}
use Rattle.pbtool_command.specs.Steps.{Fails}
use Rattle.pbtool_command.proofs.SourceSteps.{absent_read, declared_read, faulty_read, unread_told}
use Rattle.pbtool_command.proofs.sources.read_under.Goals as goal

pub returns-in-Ok-clause-read : goal.returns-in-Ok-clause-read
returns-in-Ok-clause-read g c =
    let there = rw (c.in-Ok-Some.field-0-is, c.as_str.ensures.value) at c.in-Ok-Some.ensures.read in
    let source = rw c.deref.ensures.value at c.in-Ok.ensures.source in
    declared_read g.F.Files.contents g.F.Files.is_steady c.args.files.now c.args.reading c.args.root.now c.args.name.now _ c.in_ok-path.ensures c.in-Ok-Some.bytes.items
    (file_view c.in-Ok.file) there source

pub returns-in-Ok-Some-clause-refused : goal.returns-in-Ok-Some-clause-refused
returns-in-Ok-Some-clause-refused g c =
    let there = rw (c.in-Ok-Some.field-0-is, c.as_str.ensures.value) at c.in-Ok-Some.ensures.read in
    let told = rw c.deref.ensures.value at c.in-Err.ensures.refused in
    faulty_read g.F.Files.contents g.F.Files.is_steady c.args.files.now c.args.reading c.args.root.now c.args.name.now _ c.in_ok-path.ensures c.in-Ok-Some.bytes.items
    c.in-Err.refusal there told

pub returns-in-Ok-None-clause-read : goal.returns-in-Ok-None-clause-read
returns-in-Ok-None-clause-read g c =
    let there = rw (c.in-Ok-None.field-0-is, c.as_str.ensures.value) at c.in-Ok-None.ensures.read in
    absent_read g.F.Files.contents g.F.Files.is_steady c.args.files.now c.args.reading c.args.root.now c.args.name.now _ c.in_ok-path.ensures there

pub returns-in-Err-Device-clause-refused : goal.returns-in-Err-Device-clause-refused
returns-in-Err-Device-clause-refused g c =
    let fails = rw c.in-Err-Device.field-0-is at c.in-Err-Device.ensures.failed in
    unread_told g.F.Files.contents g.F.Files.is_steady c.args.files.now c.args.reading c.args.root.now c.args.name.now _ c.in_ok-path.ensures
    (subst (λ (path : List ℕ). Fails g.F.Files.contents g.F.Files.is_steady c.args.files.now path) c.as_str.ensures.value (fails refl))
