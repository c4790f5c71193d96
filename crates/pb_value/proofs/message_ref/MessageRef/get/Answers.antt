use Rattle.pb_value.specs.declared.body.Body.{out-Body}
use Rattle.pb_value.proofs.Views.{body_view-out}
use Rattle.pb_value.proofs.FieldViews.{get_field-found}
use Rattle.pb_value.proofs.message_ref.MessageRef.get.Goals as goal

pub returns : goal.returns
returns c =
    rw (← c.self.view_is, body_view-out) (get_field-found c.get.result c.args.number (out-Body c.self.inside.body.now).fields.entries c.get.ensures.value)
