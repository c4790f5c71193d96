use Rattle.std.proofs.Common.{◌↔◌, map, drop}
use Rattle.pb_schema.specs.View.{message_view}
use Rattle.pb_schema.specs.Rules.{NumbersDiffer}
use Rattle.pb_schema.proofs.rules.fields.numbers_differ.Given as goal

abbrev pub invariant-loop-message : goal.invariant-loop-message
invariant-loop-message l =
    NumbersDiffer (map message_view l.messages) ↔ NumbersDiffer (map message_view (drop l.message-index l.messages))
