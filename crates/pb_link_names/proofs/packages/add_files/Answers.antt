use Rattle.std.proofs.Common.{List, ℕ, map, subst}
use Rattle.std.proofs.lemmas.List.{take_all}
use Rattle.pb_declarations.specs.View.{file_view}
use Rattle.pb_link_names.specs.NameSets.{AddsPackages}
use Rattle.pb_link_names.proofs.NameSetsLemmas.{packages_first, packages_next}
use Rattle.pb_link_names.proofs.packages.add_files.Goals as goal

pub loop-index-init : goal.loop-index-init
loop-index-init c = (c.requires, packages_first (map file_view c.args.files.now) c.args.packages.now)

pub loop-index-preserved : goal.loop-index-preserved
loop-index-preserved c =
    (c.in_ok-add_file.ensures.set, packages_next (map file_view c.args.files.now) c.args.indexes.now c.loop-index.index-index c.args.packages.now c.loop-index.packages c.add_file.new.packages c.loop-index-test.true c.loop-index.invariant.1 c.in_ok-add_file.ensures)

pub returns-clause-added : goal.returns-clause-added
returns-clause-added c =
    subst (λ (l : List ℕ). AddsPackages (map file_view c.args.files.now) l c.args.packages.now c.loop-index.packages) (take_all c.loop-index.index-index c.args.indexes.now c.loop-index-test.false) c.loop-index.invariant.1
