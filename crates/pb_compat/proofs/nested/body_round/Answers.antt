use Rattle.std.proofs.Common.{Option, sym, ◌∙◌, ap, subst}
use Rattle.std.specs.Prelude.{is_some, option_map}
use Rattle.pb_schema.specs.View.{field_view}
use Rattle.pb_value.specs.Data.{Datum, message}
use Rattle.pb_value.specs.View.{body_view, content_view, key_view}
use Rattle.pb_value.specs.declared.body.Body.{Body}
use Rattle.pb_value.proofs.Views.{value_view-Message}
use Rattle.pb_compat.specs.Nested.{round}
use Rattle.pb_compat.specs.Witness.{IsMadeOf}
use Rattle.pb_compat.proofs.BuiltLemmas.{content_made}
use Rattle.pb_compat.proofs.nested.body_round.Goals as goal

pub returns : goal.returns
returns c =
    let f = field_view c.in-Some-field_by_number.field.now in
    let h = content_view c.in_ok-content.content in
    round f h (sym c.in-Some-field_by_number.ensures.found) (sym c.in_ok-body.ensures.exact ∙ ap (λ (o : Option Body). is_some o) c.in_default.is)
    (content_made c.args.old.now f.shape (option_map key_view c.in_ok-key.key) (message (body_view c.args.inner)) h c.in_ok-key.ensures c.in_ok-content.ensures.shaped
    (subst (λ (d : Datum). IsMadeOf (option_map key_view c.in_ok-key.key) d h) (value_view-Message c.args.inner) c.in_ok-content.ensures.made))
    c.in_ok-content.ensures.shaped c.in_ok-body_of.ensures
