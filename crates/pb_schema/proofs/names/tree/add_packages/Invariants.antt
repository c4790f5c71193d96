use Rattle.std.proofs.Common.{map, take}
use Rattle.pb_schema.specs.View.{file_view}
use Rattle.pb_schema.specs.Names.Tree.{IsTree, PackagesAdded}
use Rattle.pb_schema.specs.Rules.{PackagesAreWords}
use Rattle.pb_schema.proofs.names.tree.add_packages.Given as goal

abbrev pub invariant-loop-file : goal.invariant-loop-file
invariant-loop-file l =
    IsTree l.fn.tree → PackagesAreWords (map file_view l.files) → PackagesAdded l.fn.tree l.tree (map file_view (take l.file-index l.files)) l.scopes.items
