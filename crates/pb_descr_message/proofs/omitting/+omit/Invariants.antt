use Rattle.std.proofs.Common.{◌≡◌, ◌+◌, ◌*◌, ◌++◌, flat_map, map, take}
use Rattle.pb_value.specs.Data.{levels_of}
use Rattle.pb_value.specs.View.{value_view}
use Rattle.pb_descr_message.specs.Omitted.{omitted_view, message_parts}
use Rattle.pb_descr_message.proofs.HeldLemmas.{weight}
use Rattle.pb_descr_message.proofs.omitting.+omit.Given as goal

-- the levels of what is gone through
abbrev pub decreases-add_message : goal.decreases-add_message
decreases-add_message l = 2 * levels_of (value_view l.message.now) + 1

abbrev pub decreases-add_messages : goal.decreases-add_messages
decreases-add_messages l = weight (map value_view l.messages.now)

abbrev pub invariant-add_messages-loop-message : goal.invariant-add_messages-loop-message
invariant-add_messages-loop-message l =
    map omitted_view l.omitted.items ≡ map omitted_view l.initial.omitted.items ++ flat_map (message_parts l.file l.proto2 l.scope) (map value_view (take l.message-index l.messages))
