use Rattle.std.proofs.Common.{ap, sym, ◌∙◌}
use Rattle.pb_wire.specs.Record.{varint}
use Rattle.pb_schema.specs.View.{field_view}
use Rattle.pb_value.specs.Canon.{record_of}
use Rattle.pb_canonical.proofs.UnknownLemmas.{unfit_counts, absent_counts, varint_counts, closed_plain}
use Rattle.pb_schema.specs.Closed.{is_undeclared}
use Rattle.pb_canonical.proofs.unknown.counts_at.Goals as goal

pub returns-then-not-fits : goal.returns-then-not-fits
returns-then-not-fits c =
    unfit_counts c.args.pool.now c.args.message_type.0 (field_view c.in-Some.field.now) (record_of c.args.field (varint c.args.number)) c.field_by_number.ensures.pool (sym c.in-Some.ensures.found)
    (sym c.fits.ensures ∙ c.if-not-fits.true)

pub returns-in-None : goal.returns-in-None
returns-in-None c = absent_counts c.args.pool.now c.args.message_type.0 (record_of c.args.field (varint c.args.number)) c.field_by_number.ensures.pool (sym c.in-None.ensures.found)

pub returns-in_default : goal.returns-in_default
returns-in_default c =
    let f = field_view c.in-Some.field.now in
    varint_counts c.args.pool.now c.args.message_type.0 f c.args.field c.args.number c.is_undeclared.result c.field_by_number.ensures.pool (sym c.in-Some.ensures.found)
    (sym c.fits.ensures ∙ c.if-not-fits.false)
    (ap (λ o. is_undeclared c.args.pool.now o (varint c.args.number)) (closed_plain f.shape f.kind c.in_default.not-Map) ∙ sym c.is_undeclared.ensures)
