use Rattle.std.proofs.Common.{◌≡◌, ◌≤◌, ◌+◌, ◌++◌, map, drop}
use Rattle.pb_schema.specs.View.{field_view as view_of_field}
use Rattle.pb_declarations.specs.View.{field_view}
use Rattle.pb_link.specs.ToDecls.{declared_fields}
use Rattle.pb_link.proofs.declaring.fields.field_decls.Given as goal

abbrev pub invariant-loop-field : goal.invariant-loop-field
invariant-loop-field l = record {
  few : l.synthetic ≤ l.oneofs + l.field-index;
  so_far : map field_view l.decls.items ++ declared_fields l.proto2 l.pool l.scope l.synthetic (map view_of_field (drop l.field-index l.fields)) ≡ declared_fields l.proto2 l.pool l.scope l.oneofs (map view_of_field l.fields);
}
