use Rattle.pb_value.specs.declared.body.Body.{out-Body}
use Rattle.pb_value.proofs.Views.{body_view-out}
use Rattle.pb_value.proofs.FieldViews.{get_field-found}
use Rattle.pb_descr_message.proofs.held.content_in.Goals as goal

pub returns : goal.returns
returns c = rw (body_view-out c.args.body.now) (get_field-found c.get.result c.args.number (out-Body c.args.body.now).fields.entries c.get.ensures.value)
