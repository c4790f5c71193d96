use Rattle.std.proofs.Common.{◌≡◌, ◌++◌, length, map, take}
use Rattle.pb_declarations.specs.Decls.{messages_of}
use Rattle.pb_declarations.specs.View.{message_view}
use Rattle.pb_link_names.specs.Declarations.{messages_declared}
use Rattle.pb_link_names.specs.View.{declaration_view}
use Rattle.pb_link_names.proofs.declared.+add_message.Given as goal

abbrev pub invariant-add_messages-loop-message : goal.invariant-add_messages-loop-message
invariant-add_messages-loop-message l = map declaration_view l.row.items ≡ map declaration_view l.initial.row.items ++ messages_declared l.parent.file l.parent.index l.parent.scope.now (length l.initial.row.items) (messages_of (map message_view (take l.message-index l.messages)))
