use Rattle.std.proofs.lemmas.Result.{err_from_is_err_and}
use Rattle.pbtool_files.proofs.SetFileSteps.{set_strictly}
use Rattle.pbtool_files.proofs.set_file.read_strictly.Goals as goal

pub returns-in_err-files-clause-refused : goal.returns-in_err-files-clause-refused
returns-in_err-files-clause-refused c =
    let p = err_from_is_err_and c.from_residual.result c.from_residual.ensures.1 in
    rw (p.1, p.2) c.in_err-files.ensures.refused

pub returns-clause-declared : goal.returns-clause-declared
returns-clause-declared c = rw c.new.ensures.items (set_strictly c.args.set.now _ c.in_ok-files.ensures.declared)
