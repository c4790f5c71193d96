use Rattle.std.proofs.Common.{◌≡◌, ◌++◌, map, take}
use Rattle.pb_declarations.specs.View.{enum_view, numbered_view}
use Rattle.pb_link_names.specs.Declarations.{values_of}
use Rattle.pb_link_names.specs.View.{declaration_view}
use Rattle.pb_link_names.proofs.declared.add_values.Given as goal

abbrev pub invariant-loop-index : goal.invariant-loop-index
invariant-loop-index l = map declaration_view l.row.items ≡ map declaration_view l.initial.row.items ++ values_of l.parent.file l.parent.index l.parent.scope.now (enum_view l.entry) (map numbered_view (take l.index l.values))
