use Rattle.std.proofs.Common.{◌≡◌, ◌++◌, map, drop}
use Rattle.pb_declarations.specs.View.{service_view}
use Rattle.pb_link_names.specs.View.{declaration_view}
use Rattle.pb_link.specs.Resolving.{coming, services_read, each_behind, behind_service}
use Rattle.pb_link.proofs.resolving.services.resolve_services.Given as goal

abbrev pub invariant-loop-service : goal.invariant-loop-service
invariant-loop-service l = record {
  read : map service_view l.resolved.items ++ services_read (map declaration_view l.row) (coming l.names) (map service_view (drop l.service-index l.services)) ≡ services_read (map declaration_view l.row) (coming l.initial.names) (map service_view l.services);
  behind : each_behind behind_service (map service_view (drop l.service-index l.services)) (coming l.names) ≡ each_behind behind_service (map service_view l.services) (coming l.initial.names);
}
