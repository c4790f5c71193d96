use Rattle.std.proofs.Common.{◌↔◌, map, drop}
use Rattle.pb_schema.specs.View.{file_view}
use Rattle.pb_schema.specs.Rules.{FilesAreNamed}
use Rattle.pb_schema.proofs.rules.files.files_are_named.Given as goal

abbrev pub invariant-loop-file : goal.invariant-loop-file
invariant-loop-file l =
    FilesAreNamed (map file_view l.files) ↔ FilesAreNamed (map file_view (drop l.file-index l.files))
