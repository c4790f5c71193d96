use Rattle.std.proofs.Common.{◌≡◌, map, take}
use Rattle.pb_declarations.specs.View.{file_view}
use Rattle.pb_link_names.specs.Graphs.{joined_names}
use Rattle.pb_link_names.proofs.imports.joined_names.Given as goal

abbrev pub invariant-loop-file : goal.invariant-loop-file
invariant-loop-file l = l.names.items ≡ joined_names (map file_view (take l.file-index l.files))
