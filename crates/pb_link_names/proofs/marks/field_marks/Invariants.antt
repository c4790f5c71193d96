use Rattle.std.proofs.Common.{◌≡◌, ℤ, map, take}
use Rattle.std.specs.List.{list_any, enumerate_from}
use Rattle.std.specs.Ordering.{int_eq, int_cmp}
use Rattle.std.specs.BTreeSet.{contains}
use Rattle.pb_declarations.specs.View.{field_view, message_view}
use Rattle.pb_link_names.specs.Declarations.{a_field, head_of}
use Rattle.pb_link_names.specs.Marks.{marks_of}
use Rattle.pb_link_names.proofs.marks.field_marks.Given as goal

abbrev pub invariant-loop-field : goal.invariant-loop-field
invariant-loop-field l = record {
  marked : l.marks.items ≡ map (λ e. marks_of (a_field (head_of (message_view l.message)) e.0 e.1)) (enumerate_from 0 (map field_view (take l.field-index l.field-items)));
  numbered : (z : ℤ) → contains int_cmp l.numbers z ≡ list_any (λ g. int_eq z g.number) (take l.field-index (head_of (message_view l.message)).fields);
}
