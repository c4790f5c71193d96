use Rattle.std.proofs.Common.{◌≡◌, map, drop}
use Rattle.pb_schema.specs.View.{field_view}
use Rattle.pb_json_read.specs.Names.{field_given}
use Rattle.pb_json_read.proofs.names.find_given.Given as goal

abbrev pub invariant-loop-field : goal.invariant-loop-field
invariant-loop-field l =
    field_given l.names l.message.0 (map field_view l.fields) l.name ≡ field_given l.names l.message.0 (map field_view (drop l.field-index l.fields)) l.name
