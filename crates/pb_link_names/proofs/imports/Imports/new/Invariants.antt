use Rattle.std.proofs.Common.{map, take}
use Rattle.pb_link_names.proofs.GraphLemmas.{HasLists, imports_in, public_in}
use Rattle.pb_link_names.proofs.imports.Imports.new.Given as goal

abbrev pub invariant-loop-file : goal.invariant-loop-file
invariant-loop-file l =
    HasLists (map (imports_in l.files) (take l.file-index l.files)) l.all × HasLists (map (public_in l.files) (take l.file-index l.files)) l.public
