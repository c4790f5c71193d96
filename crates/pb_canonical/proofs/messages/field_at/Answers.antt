use Rattle.std.proofs.Common.{ℕ, sym, ap, ◌∙◌, Option}
use Rattle.std.specs.Prelude.{Bool, not, ◌&&◌}
use Rattle.pb_schema.specs.View.{field_view}
use Rattle.pb_schema.specs.Types.{message_fields}
use Rattle.pb_schema.specs.Fits.{fits_type}
use Rattle.pb_schema.specs.Closed.{is_undeclared, closed_shaped}
use Rattle.pb_value.specs.Canon.{record_of}
use Rattle.pb_value.proofs.Numbers.{found_number}
use Rattle.pb_canonical.proofs.UnknownLemmas.{absent_counts, unfit_counts, counts_found, undeclared_counts}
use Rattle.pb_canonical.proofs.FieldNext.{goes_together, closed_same}
use Rattle.pb_canonical.proofs.messages.field_at.Goals as goal

pub returns-clause-number : goal.returns-clause-number
returns-clause-number c =
    let rules = c.in_ok-field.ensures.rules in
    (found_number c.args.tag.number (message_fields c.args.pool.now c.args.message_type.0) (field_view c.in_ok-field.field.now) (sym c.in_ok-field.ensures.found), rules.number.1)

pub returns-clause-rules : goal.returns-clause-rules
returns-clause-rules c = goes_together c.args.pool.now c.args.message_type.0 (field_view c.in_ok-field.field.now) c.in_ok-field.ensures.rules

pub returns-clause-of_type : goal.returns-clause-of_type
returns-clause-of_type c = sym c.fits.ensures ∙ c.if-not-fits.false

pub returns-in_err-field-clause-is_counted : goal.returns-in_err-field-clause-is_counted
returns-in_err-field-clause-is_counted c =
    rw c.from_residual.ensures
    (λ p s at. absent_counts c.args.pool.now c.args.message_type.0 (record_of c.args.tag.number p) c.field_by_number.ensures.pool (sym c.in_err-field.ensures.found))

pub returns-then-not-fits-clause-is_counted : goal.returns-then-not-fits-clause-is_counted
returns-then-not-fits-clause-is_counted c = λ p s at.
    let f = field_view c.in_ok-field.field.now in
    unfit_counts c.args.pool.now c.args.message_type.0 f (record_of c.args.tag.number p) c.field_by_number.ensures.pool (sym c.in_ok-field.ensures.found)
    (ap (fits_type f) at.type ∙ sym c.fits.ensures ∙ c.if-not-fits.true)

pub returns-then-is_undeclared_first-clause-is_counted : goal.returns-then-is_undeclared_first-clause-is_counted
returns-then-is_undeclared_first-clause-is_counted c = λ p s at.
    let f = field_view c.in_ok-field.field.now in
    let rules = c.in_ok-field.ensures.rules in
    counts_found c.args.pool.now c.args.message_type.0 f (record_of c.args.tag.number p) c.field_by_number.ensures.pool (sym c.in_ok-field.ensures.found)
    ∙ undeclared_counts (fits_type f _) (is_undeclared c.args.pool.now (closed_shaped f.shape f.kind) p)
    (ap (λ (o : Option ℕ). is_undeclared c.args.pool.now o p) (closed_same f.shape f.kind rules.value) ∙ sym (c.is_undeclared_first.ensures p s at) ∙ c.if-is_undeclared_first.true)

pub returns-clause-is_counted : goal.returns-clause-is_counted
returns-clause-is_counted c = λ p s at.
    let f = field_view c.in_ok-field.field.now in
    let rules = c.in_ok-field.ensures.rules in
    counts_found c.args.pool.now c.args.message_type.0 f (record_of c.args.tag.number p) c.field_by_number.ensures.pool (sym c.in_ok-field.ensures.found)
    ∙ ap (λ (x : Bool). x && not (is_undeclared c.args.pool.now (closed_shaped f.shape f.kind) p)) (ap (fits_type f) at.type ∙ sym c.fits.ensures ∙ c.if-not-fits.false)
    ∙ ap not (ap (λ (o : Option ℕ). is_undeclared c.args.pool.now o p) (closed_same f.shape f.kind rules.value) ∙ sym (c.is_undeclared_first.ensures p s at) ∙ c.if-is_undeclared_first.false)
