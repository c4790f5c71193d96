use Rattle.std.proofs.Common.{map}
use Rattle.pb_declarations.specs.View.{service_view}
use Rattle.pb_link_names.specs.View.{declaration_view}
use Rattle.pb_link.specs.Resolving.{coming, service_read, behind_service}
use Rattle.pb_link.proofs.ResolvingLemmas.{read_more, read_end, behind_more, behind_end}
use Rattle.pb_link.proofs.resolving.services.resolve_services.Goals as goal

pub loop-service-preserved : goal.loop-service-preserved
loop-service-preserved c =
    let ds = map declaration_view c.args.row.now in
    record {
      read = read_more (service_read ds) behind_service service_view service_view c.args.services.now c.loop-service.service-index c.service-item.result c.loop-service.resolved.items c.push.new.self.items c.in_ok-made.made (coming c.loop-service.names) (coming c.resolve_service.new.names) _ c.loop-service-test.true c.service-item.is c.in_ok-push.ensures.items (c.in_ok-made.ensures.service) c.in_ok-made.ensures.behind c.loop-service.invariant.read;
      behind = behind_more behind_service service_view c.args.services.now c.loop-service.service-index c.service-item.result (coming c.loop-service.names) (coming c.resolve_service.new.names) _ c.loop-service-test.true c.service-item.is c.in_ok-made.ensures.behind c.loop-service.invariant.behind;
    }

pub returns-clause-services : goal.returns-clause-services
returns-clause-services c =
    let ds = map declaration_view c.args.row.now in
    read_end (service_read ds) behind_service service_view service_view c.args.services.now c.loop-service.service-index c.loop-service.resolved.items (coming c.loop-service.names) _ c.loop-service-test.false c.loop-service.invariant.read

pub returns-clause-behind : goal.returns-clause-behind
returns-clause-behind c = behind_end behind_service service_view c.args.services.now c.loop-service.service-index (coming c.loop-service.names) _ c.loop-service-test.false c.loop-service.invariant.behind
