use Rattle.std.proofs.Common.{◌++◌, List, ℕ, map, subst}
use Rattle.pb_declarations.specs.View.{file_view}
use Rattle.pb_link_names.specs.NameSets.{own_index, ArePackagesAt}
use Rattle.pb_link_names.proofs.NameSetsLemmas.{seen_exact}
use Rattle.pb_link_names.proofs.packages.seen_packages.Goals as goal

pub returns : goal.returns
returns c =
    let F = map file_view c.args.files.now in
    let s = c.args.sight.now in
    seen_exact F s c.add_files.new.packages c.requires
    (subst (λ (l : List ℕ). ArePackagesAt F (own_index s.file ++ l) c.add_files.new.packages) c.deref.ensures.value (c.in_ok-add_files.ensures.added (own_index s.file) c.in_ok-packages.ensures))
