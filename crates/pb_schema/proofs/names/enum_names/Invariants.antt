use Rattle.std.proofs.Common.{◌≡◌, map, take}
use Rattle.pb_schema.specs.Types.{EnumView}
use Rattle.pb_schema.specs.View.{file_view, enum_view, bytes_of}
use Rattle.pb_schema.specs.Names.{in_scope, scope_by_names}
use Rattle.pb_schema.proofs.names.enum_names.Given as goal

abbrev pub invariant-loop-entry : goal.invariant-loop-entry
invariant-loop-entry l =
    bytes_of l.enum_names.items ≡ map (λ (e : EnumView). in_scope (scope_by_names (map file_view l.files) (bytes_of l.names) e.file e.parent) e.name) (map enum_view (take l.entry-index l.enums))
