use Rattle.std.proofs.Common.{refl, inl}
use Rattle.std.proofs.lemmas.Result.{err_from_is_err_and}
use Rattle.pbtool_command.specs.CompileAnswer.{texts_of}
use Rattle.pbtool_command.specs.Gathering.{path_under}
use Rattle.pbtool_command.proofs.RootSteps.{first_refuses, found_behind, refused_behind}
use Rattle.pbtool_command.proofs.sources.read_source.Goals as goal

pub returns-in_err-file-clause-refused : goal.returns-in_err-file-clause-refused
returns-in_err-file-clause-refused g c =
    let p = err_from_is_err_and c.from_residual.result c.from_residual.ensures.1 in
    rw (p.1, p.2)
    (first_refuses g.F.Files.contents g.F.Files.is_steady c.args.files.now c.args.roots.reading c.args.name.now c.args.roots.root.now (texts_of c.args.roots.others.now)
    c.in_err-file.field-0.0 c.in_err-file.ensures.refused)

pub returns-in-Some-clause-read : goal.returns-in-Some-clause-read
returns-in-Some-clause-read g c =
    let declares = rw c.in-Some.is at c.in_ok-file.ensures.read in (path_under c.args.roots.root.now c.args.name.now, inl refl, declares)

pub returns-in-None-clause-read : goal.returns-in-None-clause-read
returns-in-None-clause-read g c =
    let none = rw c.in-None.is at c.in_ok-file.ensures.read in
    found_behind g.F.Files.contents g.F.Files.is_steady c.args.files.now c.read_under.new.files c.in_ok-file.ensures.files c.in_ok-file.ensures.steady
    c.args.roots.reading c.args.name.now c.args.roots.root.now (texts_of c.args.roots.others.now) none c.read_first.result c.read_first.ensures.read

pub returns-in-None-clause-refused : goal.returns-in-None-clause-refused
returns-in-None-clause-refused g c =
    let none = rw c.in-None.is at c.in_ok-file.ensures.read in
    refused_behind g.F.Files.contents g.F.Files.is_steady c.args.files.now c.read_under.new.files c.in_ok-file.ensures.files c.in_ok-file.ensures.steady
    c.args.roots.reading c.args.name.now c.args.roots.root.now (texts_of c.args.roots.others.now) none c.read_first.result c.read_first.ensures.refused
