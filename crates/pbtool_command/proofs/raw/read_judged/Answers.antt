use Rattle.std.proofs.Common.{◌≡◌, ◌+◌, ℕ, List, Option, None, refl, take}
use Rattle.std.specs.Prelude.{option_map}
use Rattle.std.proofs.lemmas.Result.{err_from_is_err_and}
use Rattle.pbtool_files.specs.Answer.{device_failed}
use Rattle.pbtool_files.specs.Known.{IsReadFrom, IsReadOf, OfFiles}
use Rattle.pbtool_files.proofs.KnownLemmas.{nothing_read, opened_of}
use Rattle.pbtool_files.proofs.RefusalLemmas.{refuses_map}
use Rattle.pbtool_command.specs.RawAnswer.{RawAnswer, missing}
use Rattle.pbtool_command.proofs.EarlySteps.{judges_of}
use Rattle.pbtool_command.proofs.raw.read_judged.Goals as goal

pub returns-in_err-input-clause-judged : goal.returns-in_err-input-clause-judged
returns-in_err-input-clause-judged g c =
    let p = err_from_is_err_and c.from_residual.result c.from_residual.ensures.1 in
    let contents = g.F.Files.contents in
    let is_steady = g.F.Files.is_steady in
    let files = c.args.files.now in
    let path = c.args.path.now in
    let limit : ℕ = c.args.limits.bytes + 1 in
    rw (p.1, p.2) (λ form.
    refuses_map (λ a. OfFiles contents is_steady files path (λ content. content ≡ None) × (a ≡ device_failed path))
    (λ a. (content : Option (List ℕ)) × IsReadOf contents is_steady files limit path content × RawAnswer c.args.limits form path content a)
    c.in_err-input.field-0.0 (λ a h. (None, nothing_read contents is_steady files path limit h.0, missing refl h.1)) c.in_err-input.ensures.refused)

pub returns-clause-judged : goal.returns-clause-judged
returns-clause-judged g c =
    let contents = g.F.Files.contents in
    let is_steady = g.F.Files.is_steady in
    let files = c.args.files.now in
    let path = c.args.path.now in
    let limit : ℕ = c.args.limits.bytes + 1 in
    judges_of c.args.limits path (IsReadFrom g.F.In.Input.left g.F.In.Input.is_steady c.in_ok-input.input limit)
    (IsReadOf contents is_steady files limit path) c.read_records.result
    (λ read.
    opened_of contents is_steady files path g.F.In.Input.left g.F.In.Input.is_steady c.in_ok-input.input
    (λ (content : Option (List ℕ)). read ≡ option_map (take limit) content) c.in_ok-input.ensures.opened) c.read_records.ensures.judged
