use Rattle.std.proofs.Common.{map, length, ◌++◌, ap, sym, ◌∙◌}
use Rattle.std.proofs.lemmas.List.{length-map}
use Rattle.pb_declarations.specs.View.{enum_view}
use Rattle.pb_link_names.specs.Declarations.{enum_declared}
use Rattle.pb_link_names.specs.View.{declaration_view}
use Rattle.pb_link_names.proofs.RowLemmas.{enums_grown}
use Rattle.pb_link_names.proofs.declared.add_enums.Goals as goal

pub loop-entry-preserved : goal.loop-entry-preserved
loop-entry-preserved c =
    enums_grown enum_view c.args.parent.file c.args.parent.index c.args.parent.scope.now (length c.args.row.now.items) c.args.enums.now c.loop-entry.entry-index c.entry-item.result (map declaration_view c.args.row.now.items) (map declaration_view c.loop-entry.row.items) (map declaration_view c.add_enum.new.row.items) c.loop-entry-test.true c.entry-item.is (length-map c.args.row.now.items declaration_view) c.loop-entry.invariant (c.in_ok-add_enum.ensures ∙ ap (λ k. map declaration_view c.loop-entry.row.items ++ enum_declared c.args.parent.file c.args.parent.index c.args.parent.scope.now k (enum_view c.entry-item.result)) (sym (length-map c.loop-entry.row.items declaration_view)))
