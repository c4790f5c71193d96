use Rattle.std.proofs.Common.{◌≡◌, ℤ, map, take}
use Rattle.std.specs.List.{list_any, enumerate_from}
use Rattle.std.specs.Ordering.{int_eq, int_cmp}
use Rattle.std.specs.BTreeSet.{contains}
use Rattle.pb_declarations.specs.View.{numbered_view, enum_view}
use Rattle.pb_link_names.specs.Declarations.{a_value}
use Rattle.pb_link_names.specs.Marks.{marks_of}
use Rattle.pb_link_names.proofs.marks.value_marks.Given as goal

abbrev pub invariant-loop-value : goal.invariant-loop-value
invariant-loop-value l = record {
  marked : l.marks.items ≡ map (λ v. marks_of (a_value (enum_view l.entry) v.0 v.1)) (enumerate_from 0 (map numbered_view (take l.value-index l.value-items)));
  numbered : (z : ℤ) → contains int_cmp l.numbers z ≡ list_any (λ u. int_eq z u.1) (take l.value-index (enum_view l.entry).values);
}
