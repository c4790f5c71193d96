use Rattle.std.proofs.lemmas.Result.{err_from_is_err_and}
use Rattle.pbtool_files.proofs.SetFileSteps.{set_leniently}
use Rattle.pbtool_files.proofs.set_file.read_leniently.Goals as goal

pub returns-in_err-read-clause-refused : goal.returns-in_err-read-clause-refused
returns-in_err-read-clause-refused c =
    let p = err_from_is_err_and c.from_residual.result c.from_residual.ensures.1 in
    rw (p.1, p.2) c.in_err-read.ensures.refused

pub returns-clause-declared : goal.returns-clause-declared
returns-clause-declared c = set_leniently c.args.set.now _ _ c.in_ok-read.ensures.declared
