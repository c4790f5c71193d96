use Rattle.pb_link_names.specs.View.{declaration_view}
use Rattle.pb_link_rules.specs.Flags.{are_imports_there}
use Rattle.pb_link_rules.proofs.NamesLemmas.{flags_more}
use Rattle.pb_link_rules.proofs.flags.right_imports.Goals as goal

pub loop-declaration-preserved : goal.loop-declaration-preserved
loop-declaration-preserved c =
    flags_more (are_imports_there c.args.imports.now) declaration_view c.args.row.now c.loop-declaration.declaration-index c.declaration-item.result c.loop-declaration.flags.items c.push.new.self.items c.has_right_imports.result c.loop-declaration-test.true c.declaration-item.is c.loop-declaration.invariant c.has_right_imports.ensures c.in_ok-push.ensures.items
