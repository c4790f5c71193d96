use Rattle.std.proofs.Common.{map, take}
use Rattle.pb_declarations.specs.View.{file_view}
use Rattle.pb_link_names.specs.PackageSets.{IsPackageSet}
use Rattle.pb_link_names.specs.NameSets.{AddsPackages}
use Rattle.pb_link_names.proofs.packages.add_files.Given as goal

abbrev pub invariant-loop-index : goal.invariant-loop-index
invariant-loop-index l = IsPackageSet l.packages × AddsPackages (map file_view l.files) (take l.index-index l.indexes) l.initial.packages l.packages
