use Rattle.std.proofs.Common.{take}
use Rattle.std.specs.List.{flat_map}
use Rattle.pb_schema.specs.View.{field_view}
use Rattle.pb_schema.specs.Names.{names_of_field}
use Rattle.pb_schema.specs.Names.Declared.{Adds}
use Rattle.pb_schema.proofs.names.declared.Declarations.add_fields.Given as goal

abbrev pub invariant-loop-field : goal.invariant-loop-field
invariant-loop-field l = Adds l.scope (flat_map (λ f. names_of_field (field_view f)) (take l.field-index l.fields)) l.fn.self l.self
