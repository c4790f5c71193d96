use Rattle.std.proofs.Common.{◌≡◌, ◌++◌, map, drop}
use Rattle.pb_declarations.specs.View.{method_view}
use Rattle.pb_link_names.specs.View.{declaration_view}
use Rattle.pb_link.specs.Resolving.{coming, methods_read, each_behind, behind_one}
use Rattle.pb_link.proofs.resolving.services.resolve_methods.Given as goal

abbrev pub invariant-loop-method : goal.invariant-loop-method
invariant-loop-method l = record {
  read : map method_view l.resolved.items ++ methods_read (map declaration_view l.row) (coming l.names) (map method_view (drop l.method-index l.methods)) ≡ methods_read (map declaration_view l.row) (coming l.initial.names) (map method_view l.methods);
  behind : each_behind behind_one (map method_view (drop l.method-index l.methods)) (coming l.names) ≡ each_behind behind_one (map method_view l.methods) (coming l.initial.names);
}
