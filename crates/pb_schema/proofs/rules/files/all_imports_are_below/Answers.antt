use Rattle.std.proofs.Common.{◌<◌, arith}
use Rattle.std.specs.List.{AllByRecursion}
use Rattle.pb_schema.specs.View.{file_view}
use Rattle.pb_schema.proofs.Loops.{stops, goes_on}
use Rattle.pb_schema.proofs.rules.files.all_imports_are_below.Goals as goal

pub returns-then-not-imports_are_below : goal.returns-then-not-imports_are_below
returns-then-not-imports_are_below c =
    stops (λ f. AllByRecursion (λ j. j < c.args.count) f.imports) file_view _ c.args.files.now c.loop-file.file-index c.file-item.result c.imports_are_below.result c.imports_are_below.ensures c.loop-file.invariant (omega arith) c.file-item.is c.if-not-imports_are_below.true

pub loop-file-preserved : goal.loop-file-preserved
loop-file-preserved c =
    goes_on (λ f. AllByRecursion (λ j. j < c.args.count) f.imports) file_view _ c.args.files.now c.loop-file.file-index c.file-item.result c.imports_are_below.result c.imports_are_below.ensures c.loop-file.invariant (omega arith) c.file-item.is c.if-not-imports_are_below.false
