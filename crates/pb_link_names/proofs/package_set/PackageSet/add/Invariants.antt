use Rattle.std.proofs.Common.{◌≡◌, [], Some, take}
use Rattle.pb_schema.specs.Names.{fronts_from}
use Rattle.pb_tries.specs.Tries.{node_of}
use Rattle.pb_link_names.specs.PackageSets.{AddsNames}
use Rattle.pb_link_names.proofs.package_set.PackageSet.add.Given as goal

abbrev pub invariant-loop-index : goal.invariant-loop-index
invariant-loop-index l = AddsNames (fronts_from [] (take l.index l.name)) l.initial.self l.self × (node_of l.self.names (take l.index l.name) ≡ Some l.node)
