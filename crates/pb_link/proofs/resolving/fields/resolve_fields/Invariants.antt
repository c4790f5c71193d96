use Rattle.std.proofs.Common.{◌≡◌, ◌++◌, map, drop}
use Rattle.pb_declarations.specs.View.{field_view}
use Rattle.pb_link_names.specs.View.{declaration_view}
use Rattle.pb_link.specs.Resolving.{coming, fields_read, each_behind, behind_one}
use Rattle.pb_link.proofs.resolving.fields.resolve_fields.Given as goal

abbrev pub invariant-loop-field : goal.invariant-loop-field
invariant-loop-field l = record {
  read : map field_view l.resolved.items ++ fields_read (map declaration_view l.row) (coming l.names) (map field_view (drop l.field-index l.fields)) ≡ fields_read (map declaration_view l.row) (coming l.initial.names) (map field_view l.fields);
  behind : each_behind behind_one (map field_view (drop l.field-index l.fields)) (coming l.names) ≡ each_behind behind_one (map field_view l.fields) (coming l.initial.names);
}
