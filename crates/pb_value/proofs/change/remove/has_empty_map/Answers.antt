use Rattle.std.proofs.Common.{sym, ap, ◌∙◌, option_map}
use Rattle.pb_value.specs.declared.body.Body.{out-Body}
use Rattle.pb_value.specs.Data.{Message, fields_of, get_field}
use Rattle.pb_value.specs.View.{content_view}
use Rattle.pb_value.proofs.Views.{body_view-out}
use Rattle.pb_value.proofs.FieldViews.{get_field-found}
use Rattle.pb_value.specs.Change.{holds_empty_map}
use Rattle.pb_value.proofs.change.remove.has_empty_map.Goals as goal

pub returns-in-Some : goal.returns-in-Some
returns-in-Some c =
    let n = c.args.number in
    let fs = (out-Body c.args.body.now).fields.entries in
    let here = sym (get_field-found c.get.result n fs c.get.ensures.value) ∙ ap (option_map (λ x. content_view x.now)) c.in-Some.is in
    c.is_empty_map.ensures ∙ sym (ap holds_empty_map (ap (λ (v : Message). get_field n (fields_of v)) (body_view-out c.args.body.now) ∙ here))

pub returns-in-None : goal.returns-in-None
returns-in-None c =
    let n = c.args.number in
    let fs = (out-Body c.args.body.now).fields.entries in
    let here = sym (get_field-found c.get.result n fs c.get.ensures.value) ∙ ap (option_map (λ x. content_view x.now)) c.in-None.is in
    sym (ap holds_empty_map (ap (λ (v : Message). get_field n (fields_of v)) (body_view-out c.args.body.now) ∙ here))
