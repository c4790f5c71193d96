use Rattle.std.proofs.Common.{◌≡◌, ◌+◌, List, ℕ, Option, None, Some, take}
use Rattle.std.specs.Prelude.{option_map}
use Rattle.std.proofs.lemmas.Result.{err_from_is_err_and}
use Rattle.pbtool_files.specs.Answer.{device_failed}
use Rattle.pbtool_files.specs.Known.{IsReadFrom, IsReadOf, OfFiles}
use Rattle.pbtool_files.proofs.RefusalLemmas.{refuses_map}
use Rattle.pbtool_files.proofs.KnownLemmas.{nothing_read, opened_of}
use Rattle.pbtool_files.proofs.reading.read_file.Goals as goal

pub returns-in_err-input-clause-refused : goal.returns-in_err-input-clause-refused
returns-in_err-input-clause-refused g c =
    let p = err_from_is_err_and c.from_residual.result c.from_residual.ensures.1 in
    let path = c.args.path.now in
    let limit = c.args.limits.bytes + 1 in
    rw (p.1, p.2)
    (refuses_map (λ a. OfFiles g.F.Files.contents g.F.Files.is_steady c.args.files.now path (λ content. content ≡ None) × (a ≡ device_failed path))
    (λ a. IsReadOf g.F.Files.contents g.F.Files.is_steady c.args.files.now limit path None × (a ≡ device_failed path)) c.in_err-input.field-0.0
    (λ a h. (nothing_read g.F.Files.contents g.F.Files.is_steady c.args.files.now path limit h.0, h.1)) c.in_err-input.ensures.refused)

pub returns-in_err-text-clause-refused : goal.returns-in_err-text-clause-refused
returns-in_err-text-clause-refused g c =
    let p = err_from_is_err_and c.from_residual-in_err-text.result c.from_residual-in_err-text.ensures.1 in
    let path = c.args.path.now in
    let limit = c.args.limits.bytes + 1 in
    rw (p.1, p.2)
    (refuses_map (λ a. IsReadFrom g.F.In.Input.left g.F.In.Input.is_steady c.in_ok-input.input limit None × (a ≡ device_failed path))
    (λ a. IsReadOf g.F.Files.contents g.F.Files.is_steady c.args.files.now limit path None × (a ≡ device_failed path)) c.in_err-text.field-0.0
    (λ a h. (
      opened_of g.F.Files.contents g.F.Files.is_steady c.args.files.now path g.F.In.Input.left g.F.In.Input.is_steady c.in_ok-input.input
          (λ (content : Option (List ℕ)). None ≡ option_map (take limit) content) c.in_ok-input.ensures.opened h.0,
      h.1,
    )) c.in_err-text.ensures.refused)

pub returns-clause-read : goal.returns-clause-read
returns-clause-read g c =
    opened_of g.F.Files.contents g.F.Files.is_steady c.args.files.now c.args.path.now g.F.In.Input.left g.F.In.Input.is_steady c.in_ok-input.input
    (λ (content : Option (List ℕ)). Some c.in_ok-text.text.items ≡ option_map (take (c.args.limits.bytes + 1)) content) c.in_ok-input.ensures.opened
    c.in_ok-text.ensures.read
