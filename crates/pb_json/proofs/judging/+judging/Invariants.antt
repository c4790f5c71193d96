use Rattle.std.proofs.Common.{◌≡◌, ◌+◌, ◌*◌, drop}
use Rattle.pb_schema.specs.Types.{message_fields}
use Rattle.pb_value.specs.View.{values_view, entries_view, fields_view}
use Rattle.pb_json.specs.Refusals.{datums_refused, entries_refused, fields_refused, message_refused}
use Rattle.pb_json.proofs.judging.+judging.Given as goal

abbrev pub decreases-judge_message : goal.decreases-judge_message
decreases-judge_message l = 8 * l.levels

abbrev pub decreases-judge_here : goal.decreases-judge_here
decreases-judge_here l = 8 * l.levels + 7

abbrev pub decreases-judge_any : goal.decreases-judge_any
decreases-judge_any l = 8 * l.levels + 6

abbrev pub decreases-judge_opened : goal.decreases-judge_opened
decreases-judge_opened l = 8 * l.levels + 5

abbrev pub decreases-judge_fields : goal.decreases-judge_fields
decreases-judge_fields l = 8 * l.levels + 6

abbrev pub decreases-judge_content : goal.decreases-judge_content
decreases-judge_content l = 8 * l.levels + 5

abbrev pub decreases-judge_values : goal.decreases-judge_values
decreases-judge_values l = 8 * l.levels + 4

abbrev pub decreases-judge_entries : goal.decreases-judge_entries
decreases-judge_entries l = 8 * l.levels + 4

abbrev pub decreases-judge_value : goal.decreases-judge_value
decreases-judge_value l = 8 * l.levels + 3

abbrev pub invariant-judge_fields-loop-number : goal.invariant-judge_fields-loop-number
invariant-judge_fields-loop-number l =
    fields_refused l.pool (message_refused l.pool l.levels) (message_fields l.pool l.id.0) (fields_view l.fields.entries)
    ≡ fields_refused l.pool (message_refused l.pool l.levels) (message_fields l.pool l.id.0) (fields_view l.number-iterator)

abbrev pub invariant-judge_values-loop-value : goal.invariant-judge_values-loop-value
invariant-judge_values-loop-value l =
    datums_refused l.pool (message_refused l.pool l.levels) l.kind (values_view l.values.items)
    ≡ datums_refused l.pool (message_refused l.pool l.levels) l.kind (values_view (drop l.value-index l.values.items))

abbrev pub invariant-judge_entries-loop-key : goal.invariant-judge_entries-loop-key
invariant-judge_entries-loop-key l =
    entries_refused l.pool (message_refused l.pool l.levels) l.kind (entries_view l.entries.entries)
    ≡ entries_refused l.pool (message_refused l.pool l.levels) l.kind (entries_view l._key-iterator)
