use Rattle.std.proofs.Common.{◌↔◌, ◌<◌, map, drop}
use Rattle.std.specs.List.{AllByRecursion}
use Rattle.pb_schema.specs.View.{file_view}
use Rattle.pb_schema.proofs.rules.files.all_imports_are_below.Given as goal

abbrev pub invariant-loop-file : goal.invariant-loop-file
invariant-loop-file l =
    AllByRecursion (λ f. AllByRecursion (λ j. j < l.count) f.imports) (map file_view l.files) ↔ AllByRecursion (λ f. AllByRecursion (λ j. j < l.count) f.imports) (map file_view (drop l.file-index l.files))
