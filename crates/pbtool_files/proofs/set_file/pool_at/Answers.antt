use Rattle.std.proofs.Common.{◌+◌, ℕ, List, Option, Some}
use Rattle.std.proofs.lemmas.Result.{err_from_is_err_and}
use Rattle.pb_wire.specs.Limits.{full}
use Rattle.pbtool_files.specs.Known.{IsReadOf}
use Rattle.pbtool_files.specs.SetFile.{NoPool}
use Rattle.pbtool_files.proofs.RefusalLemmas.{refuses_map}
use Rattle.pbtool_files.proofs.set_file.pool_at.Goals as goal

pub returns-in_err-set-clause-refused : goal.returns-in_err-set-clause-refused
returns-in_err-set-clause-refused g c =
    let p = err_from_is_err_and c.from_residual.result c.from_residual.ensures.1 in
    rw (p.1, p.2) (c.in_err-set.ensures.refused c.args.reading)

pub returns-in_err-linked-clause-refused : goal.returns-in_err-linked-clause-refused
returns-in_err-linked-clause-refused g c =
    let p = err_from_is_err_and c.from_residual-in_err-linked.result c.from_residual-in_err-linked.ensures.1 in
    let path = c.args.path.now in
    let why = rw c.deref.ensures.value at (c.in_err-linked.ensures.refused path) in
    rw (p.1, p.2)
    (refuses_map (NoPool c.args.reading path (Some c.in_ok-set.set.items))
    (λ a. (content : Option (List ℕ)) × IsReadOf g.F.Files.contents g.F.Files.is_steady c.args.files.now (full.bytes + 1) path content × NoPool c.args.reading path content a)
    c.in_err-linked.field-0.0 (λ a no. (Some c.in_ok-set.set.items, c.in_ok-set.ensures.read, no)) why)

pub returns-clause-made : goal.returns-clause-made
returns-clause-made g c = (c.in_ok-set.set.items, c.in_ok-set.ensures.read, rw c.deref.ensures.value at c.in_ok-linked.ensures.made)
