use Rattle.std.proofs.Common.{◌≡◌, drop, nat_cmp}
use Rattle.std.specs.Prelude.{false}
use Rattle.std.specs.BTreeSet.{contains}
use Rattle.pb_schema.specs.Types.{message_fields}
use Rattle.pb_value.specs.Cause.{datums_cause, entries_cause, fields_cause}
use Rattle.pb_value.specs.WellFormed.{AreDatums, AreEntries}
use Rattle.pb_value.specs.View.{values_view, entries_view, fields_view}
use Rattle.pb_value.proofs.JudgeLemmas.{GoodFrom}
use Rattle.pb_value.proofs.judge.check.+check.Given as goal

abbrev pub invariant-check_values-loop-value : goal.invariant-check_values-loop-value
invariant-check_values-loop-value l = record {
  cause : datums_cause l.pool l.kind (values_view l.values.items) ≡ datums_cause l.pool l.kind (values_view (drop l.value-index l.values.items));
  good : AreDatums l.pool l.kind (values_view (drop l.value-index l.values.items)) → AreDatums l.pool l.kind (values_view l.values.items);
}

abbrev pub invariant-check_entries-loop-key : goal.invariant-check_entries-loop-key
invariant-check_entries-loop-key l = record {
  cause : entries_cause l.pool l.key_kind l.kind (entries_view l.entries.entries) ≡ entries_cause l.pool l.key_kind l.kind (entries_view l.key-iterator);
  good : AreEntries l.pool l.key_kind l.kind (entries_view l.key-iterator) → AreEntries l.pool l.key_kind l.kind (entries_view l.entries.entries);
}

abbrev pub invariant-check_fields-loop-number : goal.invariant-check_fields-loop-number
invariant-check_fields-loop-number l = record {
  cause : fields_cause l.pool (message_fields l.pool l.message_type.0) (λ o. false) (fields_view l.fields.entries)
      ≡ fields_cause l.pool (message_fields l.pool l.message_type.0) (λ o. contains nat_cmp l.members o) (fields_view l.number-iterator);
  good : GoodFrom l.pool (message_fields l.pool l.message_type.0) (λ o. contains nat_cmp l.members o) (fields_view l.number-iterator)
      → GoodFrom l.pool (message_fields l.pool l.message_type.0) (λ o. false) (fields_view l.fields.entries);
}
