use Rattle.std.proofs.Common.{◌≤◌, map, drop}
use Rattle.std.specs.List.{AllByRecursion}
use Rattle.pb_declarations.specs.Nests.{all_nest}
use Rattle.pb_declarations.specs.View.{file_view}
use Rattle.pb_descr_message.specs.Ranges.{IsFileInRange}
use Rattle.pb_descr_message.proofs.ranges.read_files.Given as goal

abbrev pub invariant-loop-file : goal.invariant-loop-file
invariant-loop-file l =
    AllByRecursion (λ f. all_nest f.messages ≤ 100 → IsFileInRange f) (map file_view (drop l.file-index l.files)) → AllByRecursion (λ f. all_nest f.messages ≤ 100 → IsFileInRange f) (map file_view l.files)
