use Rattle.std.proofs.Common.{◌≡◌, ◌+◌, ◌*◌, flat_map, map}
use Rattle.pb_value.specs.Data.{levels_of}
use Rattle.pb_value.specs.View.{value_view}
use Rattle.pb_descr_message.specs.Causes.{message_causes}
use Rattle.pb_descr_message.proofs.HeldLemmas.{weight}
use Rattle.pb_descr_message.proofs.JudgeLemmas.{causes_of_rest}
use Rattle.pb_descr_message.proofs.checking.+check.Given as goal

-- the levels of what is judged
abbrev pub decreases-check_message : goal.decreases-check_message
decreases-check_message l = 2 * levels_of (value_view l.message.now) + 1

abbrev pub decreases-check_messages : goal.decreases-check_messages
decreases-check_messages l = weight (map value_view l.messages.now)

abbrev pub invariant-check_messages-loop-message : goal.invariant-check_messages-loop-message
invariant-check_messages-loop-message l = flat_map (message_causes l.proto2) (map value_view l.messages) ≡ causes_of_rest (message_causes l.proto2) value_view l.message-index l.messages
