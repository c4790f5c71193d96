use Rattle.std.proofs.Common.{◌≡◌, ◌⊎◌, ℕ, List, Option, None, inl}
use Rattle.std.proofs.lemmas.Result.{err_from_is_err_and}
use Rattle.pb_wire.specs.Fault.{Fault}
use Rattle.pbtool_files.specs.Answer.{device_failed, refused}
use Rattle.pbtool_files.specs.Known.{OfFiles, OfInput}
use Rattle.pbtool_files.specs.Report.{fault_line}
use Rattle.pbtool_files.proofs.KnownLemmas.{opened_of}
use Rattle.pbtool_files.proofs.RefusalLemmas.{refuses_map}
use Rattle.pbtool_command.specs.Answers.{FaultAt, TextAt}
use Rattle.pbtool_command.proofs.MessageSteps.{refused_of}
use Rattle.pbtool_command.proofs.check.judge_file.Goals as goal

pub returns-in_err-input-clause-refused : goal.returns-in_err-input-clause-refused
returns-in_err-input-clause-refused g c =
    let p = err_from_is_err_and c.from_residual.result c.from_residual.ensures.1 in
    let path = c.args.path.now in
    let Of : (Option (List ℕ) → Type 0) → Type 0 = OfFiles g.F.Files.contents g.F.Files.is_steady c.args.files.now path in
    rw (p.1, p.2)
    (refuses_map (λ a. Of (λ content. content ≡ None) × (a ≡ device_failed path))
    (λ a. (Of (λ content. content ≡ None) × (a ≡ device_failed path))
    ⊎ ((f : Fault) × Of (λ content. FaultAt content c.args.pool.now c.args.message_type.0 f) × (a ≡ refused (fault_line f)))) c.in_err-input.field-0.0
    (λ a h. inl h) c.in_err-input.ensures.refused)

pub returns-in_err-judge_input-clause-refused : goal.returns-in_err-judge_input-clause-refused
returns-in_err-judge_input-clause-refused g c =
    let p = err_from_is_err_and c.from_residual-in_err-judge_input.result c.from_residual-in_err-judge_input.ensures.1 in
    let path = c.args.path.now in
    let Of : (Option (List ℕ) → Type 0) → Type 0 = OfFiles g.F.Files.contents g.F.Files.is_steady c.args.files.now path in
    let From : (Option (List ℕ) → Type 0) → Type 0 = OfInput g.F.In.Input.left g.F.In.Input.is_steady c.in_ok-input.input in
    rw (p.1, p.2)
    (refuses_map
    (λ a. (From (λ content. content ≡ None) × (a ≡ device_failed path))
    ⊎ ((f : Fault) × From (λ content. FaultAt content c.args.pool.now c.args.message_type.0 f) × (a ≡ refused (fault_line f))))
    (λ a. (Of (λ content. content ≡ None) × (a ≡ device_failed path))
    ⊎ ((f : Fault) × Of (λ content. FaultAt content c.args.pool.now c.args.message_type.0 f) × (a ≡ refused (fault_line f)))) c.in_err-judge_input.field-0.0
    (λ a h.
    refused_of g.F.Files.contents g.F.Files.is_steady c.args.files.now path g.F.In.Input.left g.F.In.Input.is_steady c.in_ok-input.input c.args.pool.now
    c.args.message_type.0 a c.in_ok-input.ensures.opened h) c.in_err-judge_input.ensures.refused)

pub returns-clause-valid : goal.returns-clause-valid
returns-clause-valid g c =
    let valid = c.in_ok-judge_input.ensures.valid in (
      valid.0,
      valid.1,
      opened_of g.F.Files.contents g.F.Files.is_steady c.args.files.now c.args.path.now g.F.In.Input.left g.F.In.Input.is_steady c.in_ok-input.input
          (λ (content : Option (List ℕ)). TextAt content c.args.pool.now c.args.message_type.0 valid.0) c.in_ok-input.ensures.opened valid.2,
    )
