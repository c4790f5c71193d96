use Rattle.std.proofs.Common.{map, ap, ◌∙◌}
use Rattle.pb_declarations.specs.View.{method_view}
use Rattle.pb_link_names.specs.View.{declaration_view}
use Rattle.pb_link.specs.Resolving.{coming, first_type, second_type, method_read, behind_one}
use Rattle.pb_link.specs.Resolved.{method_of_types}
use Rattle.pb_link.proofs.ResolvingLemmas.{read_more, read_end, behind_more, behind_end}
use Rattle.pb_link.proofs.resolving.services.resolve_methods.Goals as goal

pub loop-method-preserved : goal.loop-method-preserved
loop-method-preserved c =
    let ds = map declaration_view c.args.row.now in
    record {
      read = read_more (method_read ds) behind_one method_view method_view c.args.methods.now c.loop-method.method-index c.method-item.result c.loop-method.resolved.items c.push.new.self.items c.in_ok-made.made (coming c.loop-method.names) (coming c.next-came_to.new.self) _ c.loop-method-test.true c.method-item.is c.in_ok-push.ensures.items (c.in_ok-made.ensures ∙ ap (λ l. method_of_types (method_view c.method-item.result) (first_type ds l) (second_type ds l)) c.next-came_to.ensures.names) c.next-came_to.ensures.rest c.loop-method.invariant.read;
      behind = behind_more behind_one method_view c.args.methods.now c.loop-method.method-index c.method-item.result (coming c.loop-method.names) (coming c.next-came_to.new.self) _ c.loop-method-test.true c.method-item.is c.next-came_to.ensures.rest c.loop-method.invariant.behind;
    }

pub returns-clause-methods : goal.returns-clause-methods
returns-clause-methods c =
    let ds = map declaration_view c.args.row.now in
    read_end (method_read ds) behind_one method_view method_view c.args.methods.now c.loop-method.method-index c.loop-method.resolved.items (coming c.loop-method.names) _ c.loop-method-test.false c.loop-method.invariant.read

pub returns-clause-behind : goal.returns-clause-behind
returns-clause-behind c = behind_end behind_one method_view c.args.methods.now c.loop-method.method-index (coming c.loop-method.names) _ c.loop-method-test.false c.loop-method.invariant.behind
