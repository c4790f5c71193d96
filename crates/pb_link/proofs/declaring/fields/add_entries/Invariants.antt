use Rattle.std.proofs.Common.{◌≡◌, ◌++◌, map, take}
use Rattle.std.specs.Prelude.{filter_map}
use Rattle.pb_schema.specs.View.{field_view}
use Rattle.pb_declarations.specs.View.{message_view}
use Rattle.pb_link.specs.ToDecls.{entry_of_field}
use Rattle.pb_link.proofs.declaring.fields.add_entries.Given as goal

abbrev pub invariant-loop-field : goal.invariant-loop-field
invariant-loop-field l = map message_view l.messages.items ≡ map message_view l.initial.messages.items ++ filter_map (entry_of_field l.pool) (map field_view (take l.field-index l.fields))
