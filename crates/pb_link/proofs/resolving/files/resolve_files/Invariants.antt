use Rattle.std.proofs.Common.{◌≡◌, ◌++◌, map, drop}
use Rattle.pb_declarations.specs.View.{file_view}
use Rattle.pb_link_names.specs.View.{declaration_view, type_names_view}
use Rattle.pb_link.specs.Resolving.{coming, files_read}
use Rattle.pb_link.proofs.resolving.files.resolve_files.Given as goal

abbrev pub invariant-loop-file : goal.invariant-loop-file
invariant-loop-file l = map file_view l.resolved.items ++ files_read (map declaration_view l.row) (coming l.names) (map file_view (drop l.file-index l.files)) ≡ files_read (map declaration_view l.row) (map type_names_view l.found) (map file_view l.files)
