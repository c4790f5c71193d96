use Rattle.std.proofs.Common.{◌+◌, ℕ, List, Option, Some, sym, refl}
use Rattle.std.proofs.lemmas.Result.{err_from_is_err_and}
use Rattle.pb_wire.specs.Limits.{full}
use Rattle.pbtool_files.specs.Known.{IsReadOf}
use Rattle.pbtool_files.specs.SetFile.{NoPool, NoType, no_name, no_pool}
use Rattle.pbtool_files.proofs.RefusalLemmas.{refuses_map}
use Rattle.pbtool_files.proofs.set_file.find_type.Goals as goal

pub returns-in_err-set-clause-refused : goal.returns-in_err-set-clause-refused
returns-in_err-set-clause-refused g c =
    let p = err_from_is_err_and c.from_residual.result c.from_residual.ensures.1 in
    let path = c.args.path.now in
    let name = c.args.type_name.now in
    let IsRead : Option (List ℕ) → Type 0 = IsReadOf g.F.Files.contents g.F.Files.is_steady c.args.files.now (full.bytes + 1) path in
    rw (p.1, p.2)
    (refuses_map (λ a. (content : Option (List ℕ)) × IsRead content × NoPool c.args.reading path content a)
    (λ a. (content : Option (List ℕ)) × IsRead content × NoType c.args.reading name path content a) c.in_err-set.field-0.0
    (λ a h. (h.0, h.1, no_pool h.2)) c.in_err-set.ensures.refused)

pub returns-in-Some-clause-found : goal.returns-in-Some-clause-found
returns-in-Some-clause-found g c =
    let made = c.in_ok-set.ensures.made in
    (made.0, made.1, record { omitted = _; makes = made.2; named = sym c.in-Some.ensures.found })

pub returns-clause-refused : goal.returns-clause-refused
returns-clause-refused g c =
    let made = c.in_ok-set.ensures.made in
    (Some made.0, made.1, no_name refl made.2 (sym c.in-None.ensures.found) refl)
