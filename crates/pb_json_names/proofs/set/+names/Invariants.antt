use Rattle.std.proofs.Common.{◌+◌, ◌*◌, flat_map, map, take}
use Rattle.pb_value.specs.Data.{levels_of}
use Rattle.pb_value.specs.View.{value_view}
use Rattle.pb_descr_message.proofs.HeldLemmas.{weight}
use Rattle.pb_json_names.specs.Adding.{Adds}
use Rattle.pb_json_names.specs.Names.{message_named}
use Rattle.pb_json_names.proofs.set.+names.Given as goal

-- the levels of the messages
abbrev pub decreases-add_message : goal.decreases-add_message
decreases-add_message l = 2 * levels_of (value_view l.message.now) + 1

abbrev pub decreases-add_messages : goal.decreases-add_messages
decreases-add_messages l = weight (map value_view l.messages.now)

abbrev pub invariant-add_messages-loop-message : goal.invariant-add_messages-loop-message
invariant-add_messages-loop-message l =
    Adds (flat_map (message_named l.pool l.scope) (map value_view (take l.message-index l.messages))) l.fn.names l.names
