use Rattle.std.proofs.Common.{◌≡◌, ◌≤◌, map, take}
use Rattle.std.specs.List.{AllByRecursion}
use Rattle.pb_value.specs.View.{value_view}
use Rattle.pb_declarations.specs.Nests.{all_nest}
use Rattle.pb_declarations.specs.View.{file_view}
use Rattle.pb_descr_message.specs.Writing.{file_body}
use Rattle.pb_descr_message.proofs.messages.file_values.Given as goal

abbrev pub invariant-loop-file : goal.invariant-loop-file
invariant-loop-file l = record {
  written : map value_view l.values.items ≡ map file_body (map file_view (take l.file-index l.files));
  within : AllByRecursion (λ f. all_nest f.messages ≤ 99) (map file_view (take l.file-index l.files));
}
