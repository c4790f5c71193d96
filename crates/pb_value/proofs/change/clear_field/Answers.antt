use Rattle.pb_value.proofs.Views.{body_view-roll, body_view-out}
use Rattle.pb_value.proofs.FieldViews.{fields_view-remove_entry}
use Rattle.pb_value.proofs.change.clear_field.Goals as goal

pub returns : goal.returns
returns c = rw (body_view-roll, body_view-out, c.remove.ensures.entries, fields_view-remove_entry)
