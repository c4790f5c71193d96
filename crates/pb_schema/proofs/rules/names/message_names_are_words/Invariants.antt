use Rattle.std.proofs.Common.{◌↔◌, map, drop}
use Rattle.pb_schema.specs.View.{message_view}
use Rattle.pb_schema.specs.Rules.{MessageNamesAreWords}
use Rattle.pb_schema.proofs.rules.names.message_names_are_words.Given as goal

abbrev pub invariant-loop-message : goal.invariant-loop-message
invariant-loop-message l =
    MessageNamesAreWords (map message_view l.messages) ↔ MessageNamesAreWords (map message_view (drop l.message-index l.messages))
