use Rattle.std.proofs.Common.{◌∙◌, [], refl, sym, ap, subst}
use Rattle.pb_value.specs.Data.{Datum}
use Rattle.pb_value.specs.View.{value_view}
use Rattle.pb_value.proofs.Views.{value_view-Message}
use Rattle.pb_output.proofs.SinkLemmas.{puts_none}
use Rattle.pb_listing.specs.FloatText.{IsDatumText}
use Rattle.pb_listing.specs.Listing.{names_of_kind}
use Rattle.pb_listing.proofs.ListingLemmas.{value_view-F32, value_view-F64}
use Rattle.pb_listing.proofs.values.put_scalar.Goals as goal

pub returns-in-F32 : goal.returns-in-F32
returns-in-F32 g c =
    let context = c.args.context.now in
    let names = names_of_kind context.pool.now c.args.kind in
    let put = c.put_float.ensures names in
    let is = ap value_view c.in-F32.is ∙ value_view-F32 c.in-F32.bits in
    (put.0, subst (λ (d : Datum). IsDatumText context.floats names d put.0) (sym is) put.1, put.2)

pub returns-in-F64 : goal.returns-in-F64
returns-in-F64 g c =
    let context = c.args.context.now in
    let names = names_of_kind context.pool.now c.args.kind in
    let put = c.put_double.ensures names in
    let is = ap value_view c.in-F64.is ∙ value_view-F64 c.in-F64.bits in
    (put.0, subst (λ (d : Datum). IsDatumText context.floats names d put.0) (sym is) put.1, put.2)

pub returns-in-Message : goal.returns-in-Message
returns-in-Message g c =
    let context = c.args.context.now in
    let names = names_of_kind context.pool.now c.args.kind in
    let is = ap value_view c.in-Message.is ∙ value_view-Message c.in-Message.field-0 in
    ([], subst (λ (d : Datum). IsDatumText context.floats names d []) (sym is) refl, puts_none)
