use Rattle.std.proofs.Common.{◌≡◌, ◌+◌, ◌*◌, ◌++◌, suc}
use Rattle.pb_value.specs.declared.body.Body.{out-Body}
use Rattle.pb_value.specs.Data.{holding_depth, message_depth}
use Rattle.pb_value.specs.View.{content_view, body_view}
use Rattle.pb_value.proofs.MergeInPlace.{Merged}
use Rattle.pb_value.proofs.merge.+merge.Given as goal

-- the levels below what is merged, and then the way down to its next message
abbrev pub decreases-merge_body : goal.decreases-merge_body
decreases-merge_body l = 5 * message_depth (body_view l.other) + 4

abbrev pub decreases-merge_field : goal.decreases-merge_field
decreases-merge_field l = 5 * holding_depth (content_view l.other) + 3

abbrev pub decreases-merge_at : goal.decreases-merge_at
decreases-merge_at l = 5 * holding_depth (content_view l.other) + 2

abbrev pub decreases-merge_content : goal.decreases-merge_content
decreases-merge_content l = 5 * holding_depth (content_view l.other) + 1

abbrev pub decreases-merge_message : goal.decreases-merge_message
decreases-merge_message l = 5 * suc (message_depth (body_view l.other))

abbrev pub invariant-merge_body-loop-number : goal.invariant-merge_body-loop-number
invariant-merge_body-loop-number l = record {
  split : l.yielded ++ l.number-iterator ≡ (out-Body l.fn.other).fields.entries;
  merged : Merged l.pool l.message_type.0 (body_view l.fn.message) (out-Body l.fn.other).fields.entries (body_view l.message) l.yielded;
}
