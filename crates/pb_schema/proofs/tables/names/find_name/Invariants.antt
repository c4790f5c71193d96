use Rattle.std.proofs.Common.{◌≡◌, map, drop}
use Rattle.pb_schema.specs.View.{field_view}
use Rattle.pb_schema.specs.Tables.{field_named}
use Rattle.pb_schema.proofs.tables.names.find_name.Given as goal

abbrev pub invariant-loop-field : goal.invariant-loop-field
invariant-loop-field l =
    field_named l.name (map field_view l.fields) ≡ field_named l.name (map field_view (drop l.field-index l.fields))
