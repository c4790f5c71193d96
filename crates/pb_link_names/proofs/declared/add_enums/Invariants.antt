use Rattle.std.proofs.Common.{◌≡◌, ◌++◌, map, take, length}
use Rattle.pb_declarations.specs.View.{enum_view}
use Rattle.pb_link_names.specs.Declarations.{enums_declared}
use Rattle.pb_link_names.specs.View.{declaration_view}
use Rattle.pb_link_names.proofs.declared.add_enums.Given as goal

abbrev pub invariant-loop-entry : goal.invariant-loop-entry
invariant-loop-entry l = map declaration_view l.row.items ≡ map declaration_view l.initial.row.items ++ enums_declared l.parent.file l.parent.index l.parent.scope.now (length l.initial.row.items) (map enum_view (take l.entry-index l.enums))
