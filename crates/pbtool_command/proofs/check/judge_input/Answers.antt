use Rattle.std.proofs.Common.{◌≡◌, ◌+◌, ◌⊎◌, ℕ, List, Option, None, Some}
use Rattle.std.proofs.lemmas.Result.{err_from_is_err_and}
use Rattle.pb_wire.specs.Fault.{Fault}
use Rattle.pb_wire.specs.Limits.{full}
use Rattle.pbtool_files.specs.Answer.{device_failed, refused}
use Rattle.pbtool_files.specs.Known.{IsReadFrom, OfInput}
use Rattle.pbtool_files.specs.Report.{fault_line}
use Rattle.pbtool_files.proofs.RefusalLemmas.{refuses_map}
use Rattle.pbtool_command.specs.Answers.{FaultAt}
use Rattle.pbtool_command.specs.Steps.{IsNoMessage, IsUnfit}
use Rattle.pbtool_command.proofs.CheckSteps.{unfit_of, valid_of}
use Rattle.pbtool_command.proofs.check.judge_input.Goals as goal

pub returns-in_err-bytes-clause-refused : goal.returns-in_err-bytes-clause-refused
returns-in_err-bytes-clause-refused g c =
    let p = err_from_is_err_and c.from_residual.result c.from_residual.ensures.1 in
    let left = g.I.Input.left in
    let stays = g.I.Input.is_steady in
    let input = c.args.input.now in
    let pool = c.args.pool.now in
    let kind = c.args.message_type.0 in
    let path = c.args.path.now in
    rw (p.1, p.2)
    (refuses_map (λ a. (content : Option (List ℕ)) × IsReadFrom left stays input (full.bytes + 1) content × IsUnfit pool kind path content a)
    (λ a. (OfInput left stays input (λ content. content ≡ None) × (a ≡ device_failed path))
    ⊎ ((f : Fault) × OfInput left stays input (λ content. FaultAt content pool kind f) × (a ≡ refused (fault_line f)))) c.in_err-bytes.field-0.0
    (λ a h. unfit_of left stays input pool kind path h.0 a h.1 h.2) c.in_err-bytes.ensures.refused)

pub returns-in_err-judge-clause-refused : goal.returns-in_err-judge-clause-refused
returns-in_err-judge-clause-refused g c =
    let p = err_from_is_err_and c.from_residual-in_err-judge.result c.from_residual-in_err-judge.ensures.1 in
    let left = g.I.Input.left in
    let stays = g.I.Input.is_steady in
    let input = c.args.input.now in
    let pool = c.args.pool.now in
    let kind = c.args.message_type.0 in
    let path = c.args.path.now in
    let text = c.in_ok-bytes.bytes.items in
    rw (p.1, p.2)
    (refuses_map (IsNoMessage pool kind text)
    (λ a. (OfInput left stays input (λ content. content ≡ None) × (a ≡ device_failed path))
    ⊎ ((f : Fault) × OfInput left stays input (λ content. FaultAt content pool kind f) × (a ≡ refused (fault_line f)))) c.in_err-judge.field-0.0
    (λ a h. unfit_of left stays input pool kind path (Some text) a c.in_ok-bytes.ensures.read h)
    (rw c.as_slice.ensures.value at c.in_err-judge.ensures.refused))

pub returns-clause-valid : goal.returns-clause-valid
returns-clause-valid g c =
    let valid = rw c.as_slice.ensures.value at c.in_ok-judge.ensures.valid in (
      valid.0,
      valid.1,
      valid_of g.I.Input.left g.I.Input.is_steady c.args.input.now c.args.pool.now c.args.message_type.0 c.in_ok-bytes.bytes.items valid.0
          c.in_ok-bytes.ensures.read valid.2,
    )
