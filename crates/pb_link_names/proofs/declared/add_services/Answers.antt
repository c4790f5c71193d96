use Rattle.std.proofs.Common.{map, length, ◌++◌, ap, sym, ◌∙◌}
use Rattle.std.proofs.lemmas.List.{length-map}
use Rattle.pb_declarations.specs.View.{service_view}
use Rattle.pb_link_names.specs.Declarations.{service_declared}
use Rattle.pb_link_names.specs.View.{declaration_view}
use Rattle.pb_link_names.proofs.RowLemmas.{services_grown}
use Rattle.pb_link_names.proofs.declared.add_services.Goals as goal

pub loop-service-preserved : goal.loop-service-preserved
loop-service-preserved c =
    services_grown service_view c.args.parent.file c.args.parent.index c.args.parent.scope.now (length c.args.row.now.items) c.args.services.now c.loop-service.service-index c.service-item.result (map declaration_view c.args.row.now.items) (map declaration_view c.loop-service.row.items) (map declaration_view c.add_service.new.row.items) c.loop-service-test.true c.service-item.is (length-map c.args.row.now.items declaration_view) c.loop-service.invariant (c.in_ok-add_service.ensures ∙ ap (λ k. map declaration_view c.loop-service.row.items ++ service_declared c.args.parent.file c.args.parent.index c.args.parent.scope.now k (service_view c.service-item.result)) (sym (length-map c.loop-service.row.items declaration_view)))
