use Rattle.std.proofs.Common.{◌≡◌, ◌++◌, map, take}
use Rattle.pb_declarations.specs.View.{method_view}
use Rattle.pb_link_names.specs.Declarations.{methods_of}
use Rattle.pb_link_names.specs.View.{declaration_view}
use Rattle.pb_link_names.proofs.declared.add_methods.Given as goal

abbrev pub invariant-loop-method : goal.invariant-loop-method
invariant-loop-method l = map declaration_view l.row.items ≡ map declaration_view l.initial.row.items ++ methods_of l.parent.file l.parent.index l.parent.scope.now (map method_view (take l.method-index l.methods))
