use Rattle.std.proofs.Common.{◌≤◌, ◌+◌, ◌-◌, ◌*◌, length}
use Rattle.pb_text_tree.specs.Grammar.{AnotherField, AnotherMessage, MessageAt, ends_at, ends_list}
use Rattle.pb_text_tree.specs.Seen.{text_of}
use Rattle.pb_text_tree.specs.View.{fields_view, messages_view}
use Rattle.pb_text_tree.proofs.StepLemmas.{Reaches}
use Rattle.pb_text_tree.proofs.source.Source.+parse.Given as goal

abbrev pub decreases-message : goal.decreases-message
decreases-message l = l.levels * 9

abbrev pub decreases-next_message : goal.decreases-next_message
decreases-next_message l = l.levels * 9 + 1

abbrev pub decreases-more_messages : goal.decreases-more_messages
decreases-more_messages l = l.levels * 9 + 2

abbrev pub decreases-messages : goal.decreases-messages
decreases-messages l = l.levels * 9 + 3

abbrev pub decreases-list : goal.decreases-list
decreases-list l = l.levels * 9 + 4

abbrev pub decreases-after_colon : goal.decreases-after_colon
decreases-after_colon l = l.levels * 9 + 5

abbrev pub decreases-value : goal.decreases-value
decreases-value l = l.levels * 9 + 6

abbrev pub decreases-field : goal.decreases-field
decreases-field l = l.levels * 9 + 7

abbrev pub decreases-fields : goal.decreases-fields
decreases-fields l = l.levels * 9 + 8

abbrev pub invariant-fields-each : goal.invariant-fields-each
invariant-fields-each l = record {
  passed : l.from ≤ l.at;
  within : l.at ≤ length l.self.tokens.now;
  read : Reaches (ends_at (text_of l.self) l.close) (AnotherField (text_of l.self) (MessageAt (text_of l.self) l.levels))
      (fields_view l.initial.fields.items) l.from (fields_view l.fields.items) l.at;
}

abbrev pub decreases-fields-each : goal.decreases-fields-each
decreases-fields-each l = length l.self.tokens.now - l.at

abbrev pub invariant-more_messages-items : goal.invariant-more_messages-items
invariant-more_messages-items l = record {
  passed : l.from ≤ l.at;
  read : Reaches (ends_list (text_of l.self)) (AnotherMessage (text_of l.self) (MessageAt (text_of l.self) l.levels))
      (messages_view l.fn.items.items) l.from (messages_view l.items.items) l.at;
}

abbrev pub decreases-more_messages-items : goal.decreases-more_messages-items
decreases-more_messages-items l = length l.self.tokens.now - l.at
