use Rattle.std.proofs.Common.{◌≡◌, ◌++◌, map, take, length}
use Rattle.pb_declarations.specs.View.{service_view}
use Rattle.pb_link_names.specs.Declarations.{services_declared}
use Rattle.pb_link_names.specs.View.{declaration_view}
use Rattle.pb_link_names.proofs.declared.add_services.Given as goal

abbrev pub invariant-loop-service : goal.invariant-loop-service
invariant-loop-service l = map declaration_view l.row.items ≡ map declaration_view l.initial.row.items ++ services_declared l.parent.file l.parent.index l.parent.scope.now (length l.initial.row.items) (map service_view (take l.service-index l.services))
