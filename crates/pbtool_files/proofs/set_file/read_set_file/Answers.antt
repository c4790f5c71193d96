use Rattle.std.proofs.Common.{◌≡◌, ◌+◌, ℕ, List, Option, None, Some, take, refl}
use Rattle.std.specs.Prelude.{option_map}
use Rattle.std.proofs.lemmas.Result.{err_from_is_err_and}
use Rattle.pb_wire.specs.Limits.{full}
use Rattle.pbtool_files.specs.Answer.{device_failed}
use Rattle.pbtool_files.specs.Known.{IsReadFrom, IsReadOf, OfFiles}
use Rattle.pbtool_files.specs.SetFile.{NoPool, no_file}
use Rattle.pbtool_files.proofs.RefusalLemmas.{refuses_map}
use Rattle.pbtool_files.proofs.KnownLemmas.{nothing_read, opened_of}
use Rattle.pbtool_files.proofs.set_file.read_set_file.Goals as goal

pub returns-in_err-input-clause-refused : goal.returns-in_err-input-clause-refused
returns-in_err-input-clause-refused g c =
    let p = err_from_is_err_and c.from_residual.result c.from_residual.ensures.1 in
    let contents = g.F.Files.contents in
    let is_steady = g.F.Files.is_steady in
    let files = c.args.files.now in
    let path = c.args.path.now in
    let limit : ℕ = full.bytes + 1 in
    rw (p.1, p.2) (λ reading.
    refuses_map (λ a. OfFiles contents is_steady files path (λ content. content ≡ None) × (a ≡ device_failed path))
    (λ a. (content : Option (List ℕ)) × IsReadOf contents is_steady files limit path content × NoPool reading path content a)
    c.in_err-input.field-0.0 (λ a h. (None, nothing_read contents is_steady files path limit h.0, no_file refl h.1)) c.in_err-input.ensures.refused)

pub returns-in_err-set-clause-refused : goal.returns-in_err-set-clause-refused
returns-in_err-set-clause-refused g c =
    let p = err_from_is_err_and c.from_residual-in_err-set.result c.from_residual-in_err-set.ensures.1 in
    let contents = g.F.Files.contents in
    let is_steady = g.F.Files.is_steady in
    let files = c.args.files.now in
    let path = c.args.path.now in
    let left = g.F.In.Input.left in
    let stays = g.F.In.Input.is_steady in
    let input = c.in_ok-input.input in
    let limit : ℕ = full.bytes + 1 in
    rw (p.1, p.2) (λ reading.
    refuses_map (λ a. (content : Option (List ℕ)) × IsReadFrom left stays input limit content × NoPool reading path content a)
    (λ a. (content : Option (List ℕ)) × IsReadOf contents is_steady files limit path content × NoPool reading path content a) c.in_err-set.field-0.0
    (λ a h. (
      h.0,
      opened_of contents is_steady files path left stays input (λ (content : Option (List ℕ)). h.0 ≡ option_map (take limit) content) c.in_ok-input.ensures.opened
          h.1,
      h.2,
    )) (c.in_err-set.ensures.refused reading))

pub returns-clause-read : goal.returns-clause-read
returns-clause-read g c =
    opened_of g.F.Files.contents g.F.Files.is_steady c.args.files.now c.args.path.now g.F.In.Input.left g.F.In.Input.is_steady c.in_ok-input.input
    (λ (content : Option (List ℕ)). Some c.in_ok-set.set.items ≡ option_map (take (full.bytes + 1)) content) c.in_ok-input.ensures.opened
    c.in_ok-set.ensures.read
