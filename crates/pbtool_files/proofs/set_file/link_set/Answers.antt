use Rattle.std.proofs.lemmas.Result.{err_from_is_err_and}
use Rattle.pbtool_files.proofs.SetFileSteps.{told_of_link, told_of_set}
use Rattle.pbtool_files.proofs.set_file.link_set.Goals as goal

pub returns-in_err-files-clause-refused : goal.returns-in_err-files-clause-refused
returns-in_err-files-clause-refused c = λ path.
    let p = err_from_is_err_and c.from_residual.result c.from_residual.ensures.1 in
    rw p.1 (told_of_set c.args.reading path c.args.set.now c.in_err-files.field-0.0 p.0 p.2 c.in_err-files.ensures.refused)

pub returns-in_err-pool-clause-refused : goal.returns-in_err-pool-clause-refused
returns-in_err-pool-clause-refused c = λ path.
    let p = err_from_is_err_and c.from_residual-in_err-pool.result c.from_residual-in_err-pool.ensures.1 in
    rw p.1
    (told_of_link c.args.reading path c.args.set.now _ _ c.in_err-pool.field-0.0 p.0 p.2 c.in_ok-files.ensures.declared
    (rw c.deref.ensures.value at c.in_err-pool.ensures.refused))

pub returns-clause-made : goal.returns-clause-made
returns-clause-made c = record { files = _; is_set = c.in_ok-files.ensures.declared; links = rw c.deref.ensures.value at c.in_ok-pool.ensures.made }
