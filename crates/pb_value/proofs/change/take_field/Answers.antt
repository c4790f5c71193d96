use Rattle.std.proofs.Common.{sym}
use Rattle.pb_value.proofs.Views.{body_view-roll, body_view-out}
use Rattle.pb_value.proofs.FieldViews.{fields_view-remove_entry, get_field-at}
use Rattle.pb_value.proofs.change.take_field.Goals as goal

pub returns-clause-left : goal.returns-clause-left
returns-clause-left c = rw (body_view-roll, body_view-out, c.remove.ensures.entries, fields_view-remove_entry)

pub returns-clause-taken : goal.returns-clause-taken
returns-clause-taken c = rw body_view-out (sym (get_field-at c.args.number c.remove.result c.args.message.now.fields.entries (sym c.remove.ensures.value)))
