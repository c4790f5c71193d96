use Rattle.std.proofs.Common.{flat_map, map, take}
use Rattle.pb_value.specs.View.{value_view}
use Rattle.pb_json_names.specs.Adding.{Adds}
use Rattle.pb_json_names.specs.Names.{field_named}
use Rattle.pb_json_names.proofs.set.add_fields_of.Given as goal

abbrev pub invariant-loop-field : goal.invariant-loop-field
invariant-loop-field l = Adds (flat_map (field_named l.message.0) (map value_view (take l.field-index l.fields))) l.initial.names l.names
