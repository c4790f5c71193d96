use Rattle.std.proofs.Common.{map, take}
use Rattle.pb_schema.specs.Types.{FieldView}
use Rattle.pb_schema.specs.View.{field_view}
use Rattle.pb_schema.specs.Names.Set.{IsSetOf}
use Rattle.pb_schema.proofs.tables.names.simple_names.Given as goal

abbrev pub invariant-loop-field : goal.invariant-loop-field
invariant-loop-field l = IsSetOf (map (λ (f : FieldView). f.name) (map field_view (take l.field-index l.fields))) l.names
