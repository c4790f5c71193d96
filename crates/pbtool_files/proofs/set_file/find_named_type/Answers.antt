use Rattle.std.proofs.Common.{◌+◌, ℕ, List, Option, Some, sym, refl}
use Rattle.std.proofs.lemmas.Result.{err_from_is_err_and}
use Rattle.pb_wire.specs.Limits.{full}
use Rattle.pbtool_files.specs.Known.{IsReadOf}
use Rattle.pbtool_files.specs.SetFile.{NoPool, NoType, no_name, no_pool}
use Rattle.pbtool_files.proofs.RefusalLemmas.{refuses_map}
use Rattle.pbtool_files.proofs.set_file.find_named_type.Goals as goal

pub returns-in_err-set-clause-refused : goal.returns-in_err-set-clause-refused
returns-in_err-set-clause-refused g c =
    let p = err_from_is_err_and c.from_residual.result c.from_residual.ensures.1 in
    let path = c.args.path.now in
    let name = c.args.type_name.now in
    let IsRead : Option (List ℕ) → Type 0 = IsReadOf g.F.Files.contents g.F.Files.is_steady c.args.files.now (full.bytes + 1) path in
    rw (p.1, p.2)
    (refuses_map (λ a. (content : Option (List ℕ)) × IsRead content × NoPool c.args.reading path content a)
    (λ a. (content : Option (List ℕ)) × IsRead content × NoType c.args.reading name path content a) c.in_err-set.field-0.0
    (λ a h. (h.0, h.1, no_pool h.2)) (c.in_err-set.ensures.refused c.args.reading))

pub returns-in_err-linked-clause-refused : goal.returns-in_err-linked-clause-refused
returns-in_err-linked-clause-refused g c =
    let p = err_from_is_err_and c.from_residual-in_err-linked.result c.from_residual-in_err-linked.ensures.1 in
    let path = c.args.path.now in
    let name = c.args.type_name.now in
    let IsRead : Option (List ℕ) → Type 0 = IsReadOf g.F.Files.contents g.F.Files.is_steady c.args.files.now (full.bytes + 1) path in
    let why = rw c.deref.ensures.value at (c.in_err-linked.ensures.refused path) in
    rw (p.1, p.2)
    (refuses_map (NoPool c.args.reading path (Some c.in_ok-set.set.items))
    (λ a. (content : Option (List ℕ)) × IsRead content × NoType c.args.reading name path content a) c.in_err-linked.field-0.0
    (λ a no. (Some c.in_ok-set.set.items, c.in_ok-set.ensures.read, no_pool no)) why)

pub returns-in-Some-clause-found : goal.returns-in-Some-clause-found
returns-in-Some-clause-found g c =
    let made = rw c.deref.ensures.value at c.in_ok-linked.ensures.made in
    let given = rw c.deref-in-Some.ensures.value at c.in_ok-names-in-Some.ensures in
    (c.in_ok-set.set.items, c.in_ok-set.ensures.read, record { omitted = _; makes = made; named = sym c.in-Some.ensures.found }, given)

pub returns-clause-refused : goal.returns-clause-refused
returns-clause-refused g c =
    let made = rw c.deref.ensures.value at c.in_ok-linked.ensures.made in
    (Some c.in_ok-set.set.items, c.in_ok-set.ensures.read, no_name refl made (sym c.in-None.ensures.found) refl)
