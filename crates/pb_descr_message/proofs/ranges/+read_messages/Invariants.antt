use Rattle.std.proofs.Common.{◌≤◌, map, drop}
use Rattle.std.specs.List.{AllByRecursion}
use Rattle.pb_declarations.specs.Nests.{nests}
use Rattle.pb_declarations.specs.View.{message_view}
use Rattle.pb_descr_message.specs.Ranges.{IsMessageInRange}
use Rattle.pb_descr_message.proofs.ranges.+read_messages.Given as goal

abbrev pub invariant-read_messages-loop-message : goal.invariant-read_messages-loop-message
invariant-read_messages-loop-message l =
    AllByRecursion (λ m. nests m ≤ l.levels → IsMessageInRange m) (map message_view (drop l.message-index l.messages.items)) → AllByRecursion (λ m. nests m ≤ l.levels → IsMessageInRange m) (map message_view l.messages.items)
