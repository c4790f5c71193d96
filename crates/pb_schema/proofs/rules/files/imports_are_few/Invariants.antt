use Rattle.std.proofs.Common.{◌↔◌, map, drop}
use Rattle.pb_schema.specs.View.{file_view}
use Rattle.pb_schema.specs.Rules.{ImportsAreFew}
use Rattle.pb_schema.proofs.rules.files.imports_are_few.Given as goal

abbrev pub invariant-loop-file : goal.invariant-loop-file
invariant-loop-file l =
    ImportsAreFew (map file_view l.files) ↔ ImportsAreFew (map file_view (drop l.file-index l.files))
