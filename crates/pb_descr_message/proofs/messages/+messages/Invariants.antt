use Rattle.std.proofs.Common.{◌≡◌, ◌≤◌, map, take}
use Rattle.std.specs.List.{AllByRecursion}
use Rattle.pb_value.specs.View.{value_view}
use Rattle.pb_declarations.specs.View.{message_view}
use Rattle.pb_declarations.specs.Nests.{nests}
use Rattle.pb_descr_message.specs.Writing.{message_body}
use Rattle.pb_descr_message.proofs.messages.+messages.Given as goal

abbrev pub invariant-message_values-loop-declared : goal.invariant-message_values-loop-declared
invariant-message_values-loop-declared l = record {
  written : map value_view l.values.items ≡ map message_body (map message_view (take l.declared-index l.messages.items));
  within : AllByRecursion (λ m. nests m ≤ l.depth_left) (map message_view (take l.declared-index l.messages.items));
}
