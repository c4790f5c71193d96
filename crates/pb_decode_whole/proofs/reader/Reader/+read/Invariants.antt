-- fewer bytes come next where a payload begins than where its record does
use Rattle.std.proofs.Common.{◌+◌, ◌*◌, ◌≤◌, ◌-◌, Some, map, length}
use Rattle.pb_decode_parts.specs.Open.PartView.{part_view}
use Rattle.pb_value.specs.View.{value_view}
use Rattle.pb_decode_parts.specs.declared.open.part.Slot.TheVariants.{List as ListSlot}
use Rattle.pb_decode_parts.specs.declared.open.target.Target.TheVariants.{Message}
use Rattle.pb_decode_whole.specs.Entries.{AreEntries}
use Rattle.pb_decode_whole.specs.Listed.{ReadsRun}
use Rattle.pb_decode_whole.specs.Reads.{ReadsTo}
use Rattle.pb_decode_whole.proofs.reader.Reader.+read.Given as goal

abbrev pub decreases-read_entry : goal.decreases-read_entry
decreases-read_entry l = 16 * length l.bytes.now + 10

abbrev pub decreases-read_in_entry : goal.decreases-read_in_entry
decreases-read_in_entry l = 16 * length l.at.bytes.now + 9

abbrev pub decreases-read_apart : goal.decreases-read_apart
decreases-read_apart l = 16 * length l.at.bytes.now + 8

abbrev pub decreases-read_records : goal.decreases-read_records
decreases-read_records l = 16 * length l.bytes.now + 8

abbrev pub decreases-read_to_end : goal.decreases-read_to_end
decreases-read_to_end l = 16 * length l.bytes.now + 8

abbrev pub decreases-read_tagged : goal.decreases-read_tagged
decreases-read_tagged l = 16 * length l.at.bytes.now + 7

abbrev pub decreases-read_length : goal.decreases-read_length
decreases-read_length l = 16 * length l.at.bytes.now + 6

abbrev pub decreases-read_group : goal.decreases-read_group
decreases-read_group l = 16 * length l.at.bytes.now + 6

abbrev pub decreases-read_entries : goal.decreases-read_entries
decreases-read_entries l = 16 * length l.at.bytes.now + 5

abbrev pub decreases-entries_from : goal.decreases-entries_from
decreases-entries_from l = 16 * length l.at.bytes.now + 4

abbrev pub decreases-entry_after : goal.decreases-entry_after
decreases-entry_after l = 16 * length l.at.bytes.now + 3

abbrev pub decreases-read_messages : goal.decreases-read_messages
decreases-read_messages l = 16 * length l.at.bytes.now + 5

abbrev pub decreases-messages_from : goal.decreases-messages_from
decreases-messages_from l = 16 * length l.at.bytes.now + 4

abbrev pub decreases-message_after : goal.decreases-message_after
decreases-message_after l = 16 * length l.at.bytes.now + 3

abbrev pub decreases-group_after : goal.decreases-group_after
decreases-group_after l = 16 * length l.at.bytes.now + 2

abbrev pub decreases-read_message : goal.decreases-read_message
decreases-read_message l = 16 * length l.at.bytes.now + 5

abbrev pub decreases-read_field_group : goal.decreases-read_field_group
decreases-read_field_group l = 16 * length l.at.bytes.now + 5

abbrev pub decreases-read_unknown_group : goal.decreases-read_unknown_group
decreases-read_unknown_group l = 16 * length l.at.bytes.now + 5

abbrev pub invariant-read_records-loop-here : goal.invariant-read_records-loop-here
invariant-read_records-loop-here l = record {
  within : l.here ≤ length l.bytes;
  read : ReadsTo l.self.pool.now (part_view l.initial.part) (part_view l.part) l.bytes l.left.remaining l.left.depth_left l.here;
}

abbrev pub decreases-read_records-loop-here : goal.decreases-read_records-loop-here
decreases-read_records-loop-here l = l.left.remaining - l.here

abbrev pub invariant-read_entry-loop-here : goal.invariant-read_entry-loop-here
invariant-read_entry-loop-here l = record {
  within : l.here ≤ length l.bytes;
  read : ReadsTo l.self.pool.now (part_view l.initial.entry) (part_view l.entry) l.bytes l.left.remaining l.left.depth_left l.here;
}

abbrev pub decreases-read_entry-loop-here : goal.decreases-read_entry-loop-here
decreases-read_entry-loop-here l = l.left.remaining - l.here

abbrev pub invariant-read_to_end-loop-at : goal.invariant-read_to_end-loop-at
invariant-read_to_end-loop-at l = record {
  within : l.here ≤ length l.bytes;
  read : ReadsTo l.self.pool.now (part_view l.initial.part) (part_view l.part) l.bytes l.left.remaining l.left.depth_left l.here;
}

abbrev pub decreases-read_to_end-loop-at : goal.decreases-read_to_end-loop-at
decreases-read_to_end-loop-at l = length l.bytes - l.here

abbrev pub invariant-messages_from-loop-next : goal.invariant-messages_from-loop-next
invariant-messages_from-loop-next l = record {
  within : l.here ≤ length l.at.bytes.now;
  put : ReadsRun l.self.pool.now l.at.tag.number l.at.tag.wire_type (Message l.of_type (ListSlot l.at.tag.number)) (map value_view l.messages.items) l.at.bytes.now l.at.left.remaining l.at.left.depth_left l.here;
}

abbrev pub decreases-messages_from-loop-next : goal.decreases-messages_from-loop-next
decreases-messages_from-loop-next l = length l.at.bytes.now - l.here

abbrev pub invariant-entries_from-loop-next : goal.invariant-entries_from-loop-next
invariant-entries_from-loop-next l = record {
  within : l.here ≤ length l.at.bytes.now;
  put : AreEntries l.self.pool.now l.at.tag.number l.key_kind l.value_kind l.at.bytes.now (Some l.at.left.remaining) l.at.left.depth_left l.entries.items l.here;
}

abbrev pub decreases-entries_from-loop-next : goal.decreases-entries_from-loop-next
decreases-entries_from-loop-next l = length l.at.bytes.now - l.here
