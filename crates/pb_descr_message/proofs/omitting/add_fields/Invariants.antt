use Rattle.std.proofs.Common.{◌≡◌, ◌++◌, flat_map, map, take}
use Rattle.pb_value.specs.View.{value_view}
use Rattle.pb_descr_message.specs.Omitted.{omitted_view, field_parts}
use Rattle.pb_descr_message.proofs.omitting.add_fields.Given as goal

abbrev pub invariant-loop-field : goal.invariant-loop-field
invariant-loop-field l =
    map omitted_view l.omitted.items ≡ map omitted_view l.initial.omitted.items ++ flat_map (field_parts l.file l.scope) (map value_view (take l.field-index l.fields))
