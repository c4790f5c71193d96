use Rattle.std.proofs.Common.{◌≡◌, ℕ, List, length, ◌+◌, ◌*◌, None}
use Rattle.pb_schema.specs.Kinds.{wire_type_of, closed_enum}
use Rattle.pb_schema.specs.PayloadView.{payload_view}
use Rattle.pb_schema.specs.View.{field_view}
use Rattle.pb_canonical.specs.Parts.{tagged, IsEnd, EndsAt, FieldsFirst, EachFirst, SomeEach, MoreFirst, SomeEntries}
use Rattle.pb_canonical.proofs.ValueNext.{AboveFirst}
use Rattle.pb_canonical.proofs.messages.+messages.Given as goal

abbrev pub decreases-message_first : goal.decreases-message_first
decreases-message_first l = 8 * l.levels + 7

abbrev pub decreases-fields_first : goal.decreases-fields_first
decreases-fields_first l = 8 * l.levels + 6

abbrev pub decreases-field_first : goal.decreases-field_first
decreases-field_first l = 8 * l.levels + 5

abbrev pub decreases-list_first : goal.decreases-list_first
decreases-list_first l = 8 * l.levels + 4

abbrev pub decreases-map_first : goal.decreases-map_first
decreases-map_first l = 8 * l.levels + 4

abbrev pub decreases-entry_first : goal.decreases-entry_first
decreases-entry_first l = 8 * l.levels + 3

abbrev pub decreases-value_first : goal.decreases-value_first
decreases-value_first l = 8 * l.levels + 2

abbrev pub decreases-inner_first : goal.decreases-inner_first
decreases-inner_first l = 8 * l.levels

abbrev pub decreases-group_first : goal.decreases-group_first
decreases-group_first l = 8 * l.levels

-- Fields of what is left, which may follow those read, make the whole with them, and the whole is these and those that are left.
abbrev pub invariant-fields_first-fields : goal.invariant-fields_first-fields
invariant-fields_first-fields l = record {
  whole : (end : List ℕ) → FieldsFirst l.pool l.message_type.0 l.met.next l.met.oneofs l.levels l.rest end → FieldsFirst l.pool l.message_type.0 0 0 l.levels l.bytes end;
  left : (s : List ℕ) → IsEnd l.pool l.message_type.0 s → FieldsFirst l.pool l.message_type.0 0 0 l.levels l.bytes s
      → FieldsFirst l.pool l.message_type.0 l.met.next l.met.oneofs l.levels l.rest s;
}

abbrev pub decreases-fields_first-fields : goal.decreases-fields_first-fields
decreases-fields_first-fields l = length l.rest

abbrev pub invariant-list_first-values : goal.invariant-list_first-values
invariant-list_first-values l = record {
  whole : (end : List ℕ) → EachFirst l.pool (field_view l.field) l.levels l.rest end → SomeEach l.pool (field_view l.field) l.levels (tagged l.tag.number l.tag.wire_type l.bytes) end;
  left : (s : List ℕ) → EndsAt l.pool (closed_enum l.field.kind) l.tag.number l.tag.wire_type s → SomeEach l.pool (field_view l.field) l.levels (tagged l.tag.number l.tag.wire_type l.bytes) s
      → EachFirst l.pool (field_view l.field) l.levels l.rest s;
  type : wire_type_of l.field.kind ≡ l.tag.wire_type;
}

abbrev pub decreases-list_first-values : goal.decreases-list_first-values
decreases-list_first-values l = length l.rest

abbrev pub invariant-map_first-entries : goal.invariant-map_first-entries
invariant-map_first-entries l = record {
  whole : (end : List ℕ) → MoreFirst l.pool (field_view l.field) l.levels (payload_view l.last) l.rest end
      → SomeEntries l.pool (field_view l.field) l.levels (tagged l.tag.number l.tag.wire_type l.bytes) end;
  left : (s : List ℕ) → EndsAt l.pool None l.tag.number l.tag.wire_type s → SomeEntries l.pool (field_view l.field) l.levels (tagged l.tag.number l.tag.wire_type l.bytes) s
      → AboveFirst l.pool (field_view l.field) l.key l.levels (payload_view l.last) l.rest s;
}

abbrev pub decreases-map_first-entries : goal.decreases-map_first-entries
decreases-map_first-entries l = length l.rest
