use Rattle.std.proofs.Common.{drop}
use Rattle.pb_wire.specs.Spell.{shortest_records}
use Rattle.pb_schema.specs.Types.{message_fields}
use Rattle.pb_schema.specs.View.{field_view}
use Rattle.pb_value.specs.Canon.{canon_each, canon_entries, canon_fields}
use Rattle.pb_value.specs.View.{values_view, entries_view, fields_view}
use Rattle.pb_encode.specs.Sizes.{lengths_in_each, lengths_in_entries, lengths_in_fields}
use Rattle.pb_encode.proofs.WriteLemmas.{ToWrite}
use Rattle.pb_encode.proofs.writing.+write.Given as goal

abbrev pub invariant-write_fields-loop-number : goal.invariant-write_fields-loop-number
invariant-write_fields-loop-number g l =
    ToWrite g.O.Output.written g.O.Output.failures l.initial.out l.out l.initial.sink l.sink l.lengths l.next (shortest_records (canon_fields l.pool (message_fields l.pool l.message_type.0) (fields_view l.number-iterator)))
    (shortest_records (canon_fields l.pool (message_fields l.pool l.message_type.0) (fields_view l.fields.entries)))
    (lengths_in_fields l.pool (message_fields l.pool l.message_type.0) (fields_view l.number-iterator)) (lengths_in_fields l.pool (message_fields l.pool l.message_type.0) (fields_view l.fields.entries))

abbrev pub invariant-write_values-loop-value : goal.invariant-write_values-loop-value
invariant-write_values-loop-value g l =
    ToWrite g.O.Output.written g.O.Output.failures l.initial.out l.out l.initial.sink l.sink l.lengths l.next (shortest_records (canon_each l.pool (field_view l.field) (values_view (drop l.value-index l.values.items))))
    (shortest_records (canon_each l.pool (field_view l.field) (values_view l.values.items)))
    (lengths_in_each l.pool l.field.kind (values_view (drop l.value-index l.values.items))) (lengths_in_each l.pool l.field.kind (values_view l.values.items))

abbrev pub invariant-write_entries-loop-key : goal.invariant-write_entries-loop-key
invariant-write_entries-loop-key g l =
    ToWrite g.O.Output.written g.O.Output.failures l.initial.out l.out l.initial.sink l.sink l.lengths l.next (shortest_records (canon_entries l.pool (field_view l.field) (entries_view l.key-iterator)))
    (shortest_records (canon_entries l.pool (field_view l.field) (entries_view l.entries.entries)))
    (lengths_in_entries l.pool (field_view l.field) (entries_view l.key-iterator)) (lengths_in_entries l.pool (field_view l.field) (entries_view l.entries.entries))
