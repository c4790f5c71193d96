use Rattle.pb_value.specs.declared.body.Body.{out-Body}
use Rattle.pb_value.proofs.Views.{value_view-Message, body_view-out}
use Rattle.pb_value.proofs.FieldViews.{get_field-found}
use Rattle.pb_descr_message.proofs.held.content_at.Goals as goal

pub returns-in-Message : goal.returns-in-Message
returns-in-Message c =
    let found = get_field-found c.get.result c.args.number (out-Body c.in-Message.body).fields.entries c.get.ensures.value in
    rw (c.in-Message.is, value_view-Message c.in-Message.body, body_view-out c.in-Message.body) found
