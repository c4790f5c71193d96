use Rattle.std.proofs.Common.{◌∙◌, [], refl, sym, ap, subst}
use Rattle.pb_value.specs.Data.{Datum}
use Rattle.pb_value.specs.View.{value_view}
use Rattle.pb_value.proofs.Views.{value_view-Message}
use Rattle.pb_output.proofs.SinkLemmas.{puts_none}
use Rattle.pb_listing.specs.Listing.{names_of_kind}
use Rattle.pb_text.specs.Values.{IsDatumText}
use Rattle.pb_text.proofs.values.put_scalar.Goals as goal

pub returns-in-Message : goal.returns-in-Message
returns-in-Message g c =
    let context = c.args.context.now in
    let names = names_of_kind context.pool.now c.args.kind in
    let is = ap value_view c.in-Message.is ∙ value_view-Message c.in-Message.field-0 in
    ([], subst (λ (d : Datum). IsDatumText context.form.characters names d []) (sym is) refl, puts_none)
