use Rattle.std.proofs.Common.{◌∙◌}
use Rattle.pb_value.specs.declared.body.Body.{out-Body}
use Rattle.pb_value.proofs.Views.{body_view-out}
use Rattle.pb_value.proofs.FieldViews.{get_field-some}
use Rattle.pb_value.proofs.message_ref.MessageRef.has.Goals as goal

pub returns : goal.returns
returns c =
    rw (← c.self.view_is, body_view-out) (c.contains_key.ensures ∙ get_field-some c.args.number (out-Body c.self.inside.body.now).fields.entries)
