use Rattle.std.proofs.Common.{◌↔◌, ◌≤◌, drop}
use Rattle.pb_value.specs.Data.{fields_depth, datums_depth, entries_depth}
use Rattle.pb_value.specs.View.{fields_view, values_view, entries_view}
use Rattle.pb_value.proofs.judge.depth.+within.Given as goal

abbrev pub invariant-message_within-loop-content : goal.invariant-message_within-loop-content
invariant-message_within-loop-content l =
    (fields_depth (fields_view l.message.fields.entries) ≤ l.limit) ↔ (fields_depth (fields_view l.content-iterator) ≤ l.limit)

abbrev pub invariant-values_within-loop-value : goal.invariant-values_within-loop-value
invariant-values_within-loop-value l =
    (datums_depth (values_view l.values.items) ≤ l.limit) ↔ (datums_depth (values_view (drop l.value-index l.values.items)) ≤ l.limit)

abbrev pub invariant-entries_within-loop-value : goal.invariant-entries_within-loop-value
invariant-entries_within-loop-value l =
    (entries_depth (entries_view l.entries.entries) ≤ l.limit) ↔ (entries_depth (entries_view l.value-iterator) ≤ l.limit)
