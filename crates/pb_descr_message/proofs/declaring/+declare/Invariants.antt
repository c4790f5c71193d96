use Rattle.std.proofs.Common.{◌≡◌, ◌+◌, ◌*◌, map, take}
use Rattle.pb_value.specs.Data.{levels_of}
use Rattle.pb_value.specs.View.{value_view}
use Rattle.pb_declarations.specs.View.{message_view}
use Rattle.pb_descr_message.specs.Reading.{message_in}
use Rattle.pb_descr_message.proofs.HeldLemmas.{weight}
use Rattle.pb_descr_message.proofs.declaring.+declare.Given as goal

-- the levels of what is read
abbrev pub decreases-message_decl : goal.decreases-message_decl
decreases-message_decl l = 2 * levels_of (value_view l.message.now) + 1

abbrev pub decreases-message_decls : goal.decreases-message_decls
decreases-message_decls l = weight (map value_view l.messages.now)

abbrev pub invariant-message_decls-loop-message : goal.invariant-message_decls-loop-message
invariant-message_decls-loop-message l = map message_view l.decls.items ≡ map message_in (map value_view (take l.message-index l.messages))
