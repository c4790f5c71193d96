use Rattle.std.proofs.Common.{◌+◌, ◌*◌, ◌≤◌, drop}
use Rattle.pb_schema.specs.Types.{message_fields}
use Rattle.pb_value.specs.Data.{datums_depth, entries_depth, fields_depth}
use Rattle.pb_value.specs.View.{values_view, entries_view, fields_view}
use Rattle.pb_text.specs.Text.{AreEachLines, AreEntriesLines, AreFieldsLines}
use Rattle.pb_text.proofs.PartLemmas.{IsBegun}
use Rattle.pb_text.proofs.messages.+lines.Given as goal

abbrev pub invariant-put_fields-loop-number : goal.invariant-put_fields-loop-number
invariant-put_fields-loop-number g l =
    l.level + 2 * fields_depth (fields_view l.fields.entries) ≤ 202
    → IsBegun g.O.Output.written g.O.Output.failures l.initial.out l.out l.initial.sink l.sink l.level (fields_depth (fields_view l.number-iterator))
    (AreFieldsLines l.context.form l.context.pool.now l.level (message_fields l.context.pool.now l.message_type.0) (fields_view l.number-iterator))
    (AreFieldsLines l.context.form l.context.pool.now l.level (message_fields l.context.pool.now l.message_type.0) (fields_view l.fields.entries))

abbrev pub invariant-put_values-loop-value : goal.invariant-put_values-loop-value
invariant-put_values-loop-value g l =
    l.level + 2 * datums_depth (values_view l.values.items) ≤ 202
    → IsBegun g.O.Output.written g.O.Output.failures l.initial.out l.out l.initial.sink l.sink l.level (datums_depth (values_view (drop l.value-index l.values.items)))
    (AreEachLines l.context.form l.context.pool.now l.level l.kind l.label (values_view (drop l.value-index l.values.items)))
    (AreEachLines l.context.form l.context.pool.now l.level l.kind l.label (values_view l.values.items))

abbrev pub invariant-put_entries-loop-key : goal.invariant-put_entries-loop-key
invariant-put_entries-loop-key g l =
    l.level + 2 * entries_depth (entries_view l.entries.entries) ≤ 202
    → IsBegun g.O.Output.written g.O.Output.failures l.initial.out l.out l.initial.sink l.sink l.level (entries_depth (entries_view l.key-iterator))
    (AreEntriesLines l.context.form l.context.pool.now l.level l.kind l.label (entries_view l.key-iterator))
    (AreEntriesLines l.context.form l.context.pool.now l.level l.kind l.label (entries_view l.entries.entries))
