use Rattle.std.proofs.Common.{◌↔◌, map, drop}
use Rattle.pb_schema.specs.View.{file_view}
use Rattle.pb_schema.specs.Rules.{PackagesAreWords}
use Rattle.pb_schema.proofs.rules.files.packages_are_words.Given as goal

abbrev pub invariant-loop-file : goal.invariant-loop-file
invariant-loop-file l =
    PackagesAreWords (map file_view l.files) ↔ PackagesAreWords (map file_view (drop l.file-index l.files))
