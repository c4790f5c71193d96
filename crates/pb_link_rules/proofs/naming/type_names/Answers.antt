use Rattle.std.proofs.Common.{◌∙◌, map, ap}
use Rattle.std.proofs.lemmas.List.{take_all}
use Rattle.pb_link_rules.specs.Rules.{lookups}
use Rattle.pb_link_names.specs.View.{declaration_view, type_names_view}
use Rattle.pb_link_rules.proofs.NamesLemmas.{names_more}
use Rattle.pb_link_rules.proofs.naming.type_names.Goals as goal

pub loop-declaration-preserved : goal.loop-declaration-preserved
loop-declaration-preserved c = (
  c.in_ok-names.ensures.ready,
  λ w is. names_more type_names_view (lookups w) declaration_view c.args.row.now c.loop-declaration.declaration-index c.declaration-item.result c.loop-declaration.found.items c.push.new.self.items c.in_ok-names.names c.loop-declaration-test.true c.declaration-item.is (c.loop-declaration.invariant.1 w is) (c.in_ok-names.ensures.found w is) c.in_ok-push.ensures.items,
)

pub returns : goal.returns
returns c w is =
    c.loop-declaration.invariant.1 w is ∙ ap (λ l. map (lookups w) (map declaration_view l)) (take_all c.loop-declaration.declaration-index c.args.row.now c.loop-declaration-test.false)
