use Rattle.std.proofs.Common.{◌↔◌, map, drop}
use Rattle.pb_schema.specs.View.{file_view, message_view}
use Rattle.pb_schema.specs.Rules.{MessagesHaveFiles}
use Rattle.pb_schema.proofs.rules.indexes.messages_have_files.Given as goal

abbrev pub invariant-loop-message : goal.invariant-loop-message
invariant-loop-message l =
    MessagesHaveFiles (map file_view l.files) (map message_view l.messages) ↔ MessagesHaveFiles (map file_view l.files) (map message_view (drop l.message-index l.messages))
