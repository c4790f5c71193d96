use Rattle.std.proofs.Common.{◌∙◌}
use Rattle.std.proofs.lemmas.Result.{err_from_is_err_and}
use Rattle.pb_declarations.specs.View.{file_view}
use Rattle.pbtool_files.proofs.KnownLemmas.{keeps_then}
use Rattle.pbtool_command.proofs.RootSteps.{root_declares, root_passed, root_refuses}
use Rattle.pbtool_command.proofs.sources.read_first.Goals as goal

pub loop-root-preserved : goal.loop-root-preserved
loop-root-preserved g c =
    let inv = c.loop-root.invariant in
    let done = c.in_ok-file.ensures in
    let none = rw c.in_default.is at done.read in record {
      passed = root_passed g.F.Files.contents g.F.Files.is_steady c.args.files.now c.loop-root.files inv.files inv.steady c.args.reading c.args.name.now c.args.roots.now
          c.loop-root.root-index _ c.loop-root-test.true inv.passed none;
      kept = done.kept ∙ inv.kept;
      steady = λ s. done.steady (inv.steady s);
      takes_writes = λ s. done.takes_writes (inv.takes_writes s);
      files = keeps_then (g.F.Files.contents c.args.files.now) (g.F.Files.contents c.loop-root.files) (g.F.Files.contents c.read_under.new.files) inv.files
          done.files;
    }

pub returns-in-Some-clause-read : goal.returns-in-Some-clause-read
returns-in-Some-clause-read g c =
    let inv = c.loop-root.invariant in
    let declares = rw c.in-Some.is at c.in_ok-file.ensures.read in
    root_declares g.F.Files.contents g.F.Files.is_steady c.args.files.now c.loop-root.files inv.files inv.steady c.args.reading c.args.name.now c.args.roots.now
    c.loop-root.root-index _ c.loop-root-test.true inv.passed (file_view c.in-Some.file) declares

pub returns-in_err-file-clause-refused : goal.returns-in_err-file-clause-refused
returns-in_err-file-clause-refused g c =
    let p = err_from_is_err_and c.from_residual.result c.from_residual.ensures.1 in
    let inv = c.loop-root.invariant in
    rw (p.1, p.2)
    (root_refuses g.F.Files.contents g.F.Files.is_steady c.args.files.now c.loop-root.files inv.files inv.steady c.args.reading c.args.name.now c.args.roots.now
    c.loop-root.root-index _ c.loop-root-test.true inv.passed c.in_err-file.field-0.0 c.in_err-file.ensures.refused)
