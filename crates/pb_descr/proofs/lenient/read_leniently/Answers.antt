use Rattle.std.proofs.Common.{◌≡◌, [], ◌∙◌, sym, ap, subst}
use Rattle.std.proofs.lemmas.Result.{err_from_is_err_and}
use Rattle.pb_value.specs.Data.{Message}
use Rattle.pb_descr_message.specs.Reading.{files_in}
use Rattle.pb_descr_message.specs.Causes.{set_causes}
use Rattle.pb_descr_message.specs.Sets.{IsRefusedSet}
use Rattle.pb_descr_message.specs.Without.{without_parts}
use Rattle.pb_descr_message.specs.Omitted.{omitted_in}
use Rattle.pb_descr_message.proofs.ReadLemmas.{refused_silent, refused_told, silent_or_told}
use Rattle.pb_descr.proofs.LenientLemmas.{unread}
use Rattle.pb_descr.proofs.lenient.read_leniently.Goals as goal

pub returns-in_err-set-clause-refused : goal.returns-in_err-set-clause-refused
returns-in_err-set-clause-refused c =
    let p = err_from_is_err_and c.from_residual.result c.from_residual.ensures.1 in
    rw (p.1, p.2) (unread c.args.bytes.now c.in_err-set.field-0.0 c.in_err-set.ensures.fault c.in_err-set.ensures.accepted)

pub returns-in_err-set-clause-accepted : goal.returns-in_err-set-clause-accepted
returns-in_err-set-clause-accepted c =
    let p = err_from_is_err_and c.from_residual.result c.from_residual.ensures.1 in
    λ files omitted h. rw (p.1, p.2) (c.in_err-set.ensures.accepted h.set h.text)

pub returns-in_err-set-clause-fault : goal.returns-in_err-set-clause-fault
returns-in_err-set-clause-fault c =
    let p = err_from_is_err_and c.from_residual.result c.from_residual.ensures.1 in
    λ f h. rw (p.1, p.2) (c.in_err-set.ensures.refused f h)

pub returns-in_err-set-clause-cause : goal.returns-in_err-set-clause-cause
returns-in_err-set-clause-cause c =
    let p = err_from_is_err_and c.from_residual.result c.from_residual.ensures.1 in
    λ set i cause text told. rw (p.1, p.2, c.in_err-set.ensures.accepted set text) tt

pub returns-in_err-read-clause-accepted : goal.returns-in_err-read-clause-accepted
returns-in_err-read-clause-accepted c =
    let p = err_from_is_err_and c.from_residual-in_err-read.result c.from_residual-in_err-read.ensures.1 in
    λ files omitted h.
    let refused = subst (λ (set : Message). IsRefusedSet (without_parts set) c.in_err-read.field-0.0) (c.in_ok-set.ensures.accepted h.set h.text) c.in_err-read.ensures.refused in
    rw (p.1, p.2) (refused_silent (without_parts h.set) c.in_err-read.field-0.0 h.silent refused)

pub returns-in_err-read-clause-cause : goal.returns-in_err-read-clause-cause
returns-in_err-read-clause-cause c =
    let p = err_from_is_err_and c.from_residual-in_err-read.result c.from_residual-in_err-read.ensures.1 in
    λ set i cause text told.
    let refused = subst (λ (s : Message). IsRefusedSet (without_parts s) c.in_err-read.field-0.0) (c.in_ok-set.ensures.accepted set text) c.in_err-read.ensures.refused in
    rw (p.1, p.2) (refused_told (without_parts set) c.in_err-read.field-0.0 i cause told refused)

pub returns-clause-accepted : goal.returns-clause-accepted
returns-clause-accepted c = λ files omitted h. (
  c.in_ok-read.ensures.declared ∙ ap (λ (s : Message). files_in (without_parts s)) (c.in_ok-set.ensures.accepted h.set h.text) ∙ sym h.declared,
  c.in_ok-read.ensures.left_out ∙ ap omitted_in (c.in_ok-set.ensures.accepted h.set h.text) ∙ sym h.left_out,
)

pub returns-clause-cause : goal.returns-clause-cause
returns-clause-cause c =
    λ set i cause text told. silent_or_told (without_parts set) i cause (subst (λ (s : Message). set_causes (without_parts s) ≡ []) (c.in_ok-set.ensures.accepted set text) c.in_ok-read.ensures.silent) told
