use Rattle.std.proofs.Common.{sym, ap, ◌∙◌}
use Rattle.pb_value.specs.Data.{fields_of, get_field}
use Rattle.pb_value.specs.Dynamic.{Dynamic}
use Rattle.pb_value.specs.View.{value_view, content_view, body_view, key_view}
use Rattle.pb_value.proofs.InnerLemmas.{under_part, field_part}
use Rattle.pb_value.proofs.message_ref.MessageRef.message_of.Goals as goal

pub as_message-requires-clause-part : goal.as_message-requires-clause-part
as_message-requires-clause-part c =
    let pool = c.self.inside.pool.now in
    let held = content_view c.in_ok-get.field-0.now in
    let found = value_view c.in_ok-value.value.now in
    field_part pool c.self.inside.kind.0 c.args.number (body_view c.self.inside.body.now) held found (λ s k w l. under_part pool s k (key_view c.args.key.now) held found w l (sym c.in_ok-value.ensures)) c.self.invariant.1
    (ap (λ (v : Dynamic). get_field c.args.number (fields_of v.body)) c.self.view_is ∙ sym c.in_ok-get.ensures)
