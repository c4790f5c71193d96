use Rattle.std.proofs.Common.{◌≡◌, [], ◌∙◌, sym, ap, subst}
use Rattle.std.proofs.lemmas.Result.{err_from_is_err_and}
use Rattle.pb_value.specs.Data.{Message}
use Rattle.pb_descr_message.specs.Reading.{files_in}
use Rattle.pb_descr_message.specs.Causes.{set_causes}
use Rattle.pb_descr_message.specs.Sets.{IsRefusedSet}
use Rattle.pb_descr_message.proofs.ReadLemmas.{refused_silent, refused_told, silent_or_told}
use Rattle.pb_descr.proofs.reading.read_whole.Goals as goal

pub returns-in_err-set-clause-accepted : goal.returns-in_err-set-clause-accepted
returns-in_err-set-clause-accepted c =
    let p = err_from_is_err_and c.from_residual.result c.from_residual.ensures.1 in
    λ files h. rw (p.1, p.2) (c.in_err-set.ensures.accepted h.set h.text)

pub returns-in_err-set-clause-fault : goal.returns-in_err-set-clause-fault
returns-in_err-set-clause-fault c =
    let p = err_from_is_err_and c.from_residual.result c.from_residual.ensures.1 in
    λ f h. rw (p.1, p.2) (c.in_err-set.ensures.refused f h)

pub returns-in_err-set-clause-cause : goal.returns-in_err-set-clause-cause
returns-in_err-set-clause-cause c =
    let p = err_from_is_err_and c.from_residual.result c.from_residual.ensures.1 in
    λ set i cause text told. rw (p.1, p.2, c.in_err-set.ensures.accepted set text) tt

pub returns-in_err-files-clause-accepted : goal.returns-in_err-files-clause-accepted
returns-in_err-files-clause-accepted c =
    let p = err_from_is_err_and c.from_residual-in_err-files.result c.from_residual-in_err-files.ensures.1 in
    λ files h.
    let refused = subst (λ (set : Message). IsRefusedSet set c.in_err-files.field-0.0) (c.in_ok-set.ensures.accepted h.set h.text) c.in_err-files.ensures.refused in
    rw (p.1, p.2) (refused_silent h.set c.in_err-files.field-0.0 h.silent refused)

pub returns-in_err-files-clause-cause : goal.returns-in_err-files-clause-cause
returns-in_err-files-clause-cause c =
    let p = err_from_is_err_and c.from_residual-in_err-files.result c.from_residual-in_err-files.ensures.1 in
    λ set i cause text told.
    let refused = subst (λ (s : Message). IsRefusedSet s c.in_err-files.field-0.0) (c.in_ok-set.ensures.accepted set text) c.in_err-files.ensures.refused in
    rw (p.1, p.2) (refused_told set c.in_err-files.field-0.0 i cause told refused)

pub returns-clause-accepted : goal.returns-clause-accepted
returns-clause-accepted c = λ files h. c.in_ok-files.ensures.declared ∙ ap files_in (c.in_ok-set.ensures.accepted h.set h.text) ∙ sym h.declared

pub returns-clause-cause : goal.returns-clause-cause
returns-clause-cause c =
    λ set i cause text told. silent_or_told set i cause (subst (λ (s : Message). set_causes s ≡ []) (c.in_ok-set.ensures.accepted set text) c.in_ok-files.ensures.silent) told
