use Rattle.std.proofs.Common.{ap, sym, ◌∙◌}
use Rattle.pb_schema.specs.View.{field_view}
use Rattle.pb_schema.specs.Fits.{fits_type}
use Rattle.pb_value.specs.Canon.{record_of}
use Rattle.pb_canonical.proofs.UnknownLemmas.{fit_counts, absent_counts}
use Rattle.pb_canonical.proofs.unknown.fits_at.Goals as goal

pub returns-in-Some : goal.returns-in-Some
returns-in-Some c = λ p t plain.
    fit_counts c.args.pool.now c.args.message_type.0 (field_view c.in-Some.field.now) (record_of c.args.tag.number p) c.fits.result c.field_by_number.ensures.pool (sym c.in-Some.ensures.found)
    (ap (fits_type (field_view c.in-Some.field.now)) t ∙ sym c.fits.ensures) plain

pub returns-in-None : goal.returns-in-None
returns-in-None c = λ p t plain. absent_counts c.args.pool.now c.args.message_type.0 (record_of c.args.tag.number p) c.field_by_number.ensures.pool (sym c.in-None.ensures.found)
