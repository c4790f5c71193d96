use Rattle.std.proofs.Common.{◌≡◌, ◌++◌, map, drop}
use Rattle.pb_declarations.specs.View.{message_view}
use Rattle.pb_link_names.specs.View.{declaration_view}
use Rattle.pb_link.specs.Resolving.{coming, message_read, each_read, each_behind, behind_message}
use Rattle.pb_link.proofs.resolving.messages.+resolve_message.Given as goal

abbrev pub invariant-resolve_messages-loop-message : goal.invariant-resolve_messages-loop-message
invariant-resolve_messages-loop-message l = record {
  read : map message_view l.resolved.items ++ each_read (message_read (map declaration_view l.row)) behind_message (coming l.names) (map message_view (drop l.message-index l.messages)) ≡ each_read (message_read (map declaration_view l.row)) behind_message (coming l.initial.names) (map message_view l.messages);
  behind : each_behind behind_message (map message_view (drop l.message-index l.messages)) (coming l.names) ≡ each_behind behind_message (map message_view l.messages) (coming l.initial.names);
}
