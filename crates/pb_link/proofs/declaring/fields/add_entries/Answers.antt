use Rattle.std.proofs.Common.{map}
use Rattle.pb_schema.specs.View.{field_view}
use Rattle.pb_declarations.specs.View.{message_view}
use Rattle.pb_link.proofs.DeclarableLemmas.{field_at}
use Rattle.pb_link.proofs.DeclaredLemmas.{entries_more}
use Rattle.pb_link.proofs.declaring.fields.add_entries.Goals as goal

pub add_entry-requires-clause-field : goal.add_entry-requires-clause-field
add_entry-requires-clause-field c = field_at c.args.pool.now field_view c.args.fields.now c.loop-field.field-index c.field-item.result c.loop-field-test.true c.field-item.is c.requires.fields

pub loop-field-preserved : goal.loop-field-preserved
loop-field-preserved c =
    entries_more c.args.pool.now field_view c.args.fields.now c.loop-field.field-index c.field-item.result (map message_view c.args.messages.now.items) (map message_view c.loop-field.messages.items) (map message_view c.add_entry.new.messages.items) c.loop-field-test.true c.field-item.is c.loop-field.invariant c.in_ok-add_entry.ensures
