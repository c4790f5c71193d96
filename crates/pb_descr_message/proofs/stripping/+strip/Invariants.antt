use Rattle.std.proofs.Common.{◌+◌, ◌*◌, map}
use Rattle.pb_value.specs.Data.{levels_of, datums_depth, holding_depth, message_depth}
use Rattle.pb_value.specs.View.{value_view, values_view, content_view, body_view}
use Rattle.pb_descr_message.specs.Without.{message_without}
use Rattle.pb_descr_message.proofs.WithoutLemmas.{Changed}
use Rattle.pb_descr_message.proofs.stripping.+strip.Given as goal

-- the levels below what is changed, and then the way down to its next message
abbrev pub decreases-strip_message : goal.decreases-strip_message
decreases-strip_message l = 4 * levels_of (value_view l.message.now)

abbrev pub decreases-strip_messages_in : goal.decreases-strip_messages_in
decreases-strip_messages_in l = 4 * message_depth (body_view l.message.now) + 3

abbrev pub decreases-strip_message_list : goal.decreases-strip_message_list
decreases-strip_message_list l = 4 * holding_depth (content_view l.content.now) + 2

abbrev pub decreases-strip_messages : goal.decreases-strip_messages
decreases-strip_messages l = 4 * datums_depth (values_view l.messages.now) + 1

abbrev pub invariant-strip_messages-loop-message : goal.invariant-strip_messages-loop-message
invariant-strip_messages-loop-message l = Changed value_view (message_without l.proto2) l.message-index (map value_view l.initial.messages) l.messages
