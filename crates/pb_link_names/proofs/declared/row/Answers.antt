use Rattle.std.proofs.Common.{map, ◌++◌, ap, sym, ◌∙◌}
use Rattle.std.proofs.lemmas.List.{length-map}
use Rattle.pb_declarations.specs.View.{file_view}
use Rattle.pb_link_names.specs.Declarations.{file_declared}
use Rattle.pb_link_names.specs.View.{declaration_view}
use Rattle.pb_link_names.proofs.RowLemmas.{files_grown}
use Rattle.pb_link_names.proofs.declared.row.Goals as goal

pub loop-index-preserved : goal.loop-index-preserved
loop-index-preserved c =
    files_grown file_view c.args.files.now c.loop-index.index c.index-files-index.result (map declaration_view c.loop-index.row.items) (map declaration_view c.add_file.new.row.items) c.loop-index-test.true c.index-files-index.is c.loop-index.invariant (c.in_ok-add_file.ensures ∙ ap (λ k. map declaration_view c.loop-index.row.items ++ file_declared c.loop-index.index k (file_view c.index-files-index.result)) (sym (length-map c.loop-index.row.items declaration_view)))
