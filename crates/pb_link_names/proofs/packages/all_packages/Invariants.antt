use Rattle.std.proofs.Common.{map}
use Rattle.pb_declarations.specs.View.{file_view}
use Rattle.pb_link_names.specs.NameSets.{ArePackagesAt}
use Rattle.pb_link_names.proofs.NameSetsLemmas.{below}
use Rattle.pb_link_names.proofs.packages.all_packages.Given as goal

abbrev pub invariant-loop-file : goal.invariant-loop-file
invariant-loop-file l = ArePackagesAt (map file_view l.files) (below l.file) l.packages
