use Rattle.std.proofs.Common.{[], Option, ℕ, map, subst, sym}
use Rattle.pb_declarations.specs.View.{file_view}
use Rattle.pb_link_names.specs.NameSets.{own_index, ArePackagesAt}
use Rattle.pb_link_names.proofs.NameSetsLemmas.{packages_none, packages_more}
use Rattle.pb_link_names.proofs.packages.own_packages.Goals as goal

pub returns : goal.returns
returns c =
    let F = map file_view c.args.files.now in
    subst (λ (o : Option ℕ). ArePackagesAt F (own_index o) c.add_file.new.packages) (sym c.in-Some.is)
    (packages_more F [] c.in-Some.file c.in_ok-packages.packages c.add_file.new.packages (packages_none F c.in_ok-packages.packages c.in_ok-packages.ensures.set c.in_ok-packages.ensures.empty) c.in_ok-add_file.ensures)
