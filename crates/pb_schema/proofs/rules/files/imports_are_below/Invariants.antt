use Rattle.std.proofs.Common.{◌↔◌, ◌<◌, drop}
use Rattle.std.specs.List.{AllByRecursion}
use Rattle.pb_schema.proofs.rules.files.imports_are_below.Given as goal

abbrev pub invariant-loop-index : goal.invariant-loop-index
invariant-loop-index l =
    AllByRecursion (λ j. j < l.count) l.file.imports.items ↔ AllByRecursion (λ j. j < l.count) (drop l.index-index l.index-items)
