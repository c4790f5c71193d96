use Rattle.std.proofs.Common.{ℕ, ℤ, List, map, ◌++◌, ◌∷◌, [], not, ap, ◌∙◌}
use Rattle.std.specs.Ordering.{int_cmp}
use Rattle.std.specs.BTreeSet.{contains}
use Rattle.pb_declarations.specs.View.{numbered_view, enum_view}
use Rattle.pb_link_names.specs.Declarations.{a_value}
use Rattle.pb_link_names.specs.declared.marks.Marks.{Marks}
use Rattle.pb_link_names.specs.Marks.{marks_of}
use Rattle.pb_link_names.proofs.RowLemmas.{grown}
use Rattle.pb_link_names.proofs.MarkLemmas.{view_there, numbers_more}
use Rattle.pb_link_names.proofs.marks.value_marks.Goals as goal

pub loop-value-preserved : goal.loop-value-preserved
loop-value-preserved c =
    let f : ℕ × (List ℕ × ℤ) → Marks = λ v. marks_of (a_value (enum_view c.args.entry.now) v.0 v.1) in
    let number : List ℕ × ℤ → ℤ = λ u. u.1 in
    let items = c.deref-value-items.result.now in
    let i = c.loop-value.value-index in
    let item = c.value-item.result in
    let values = (enum_view c.args.entry.now).values in
    let at = view_there numbered_view items values i item (ap (map numbered_view) c.deref-value-items.ensures.value) c.loop-value-test.true c.value-item.is in
    record {
      marked = grown f numbered_view items i item [] c.loop-value.marks.items c.push.new.self.items c.loop-value-test.true c.value-item.is c.loop-value.invariant.marked (c.in_ok-push.ensures.items ∙ ap (λ m. c.loop-value.marks.items ++ m ∷ []) (c.value_mark.ensures i (c.in_ok-is_first.ensures.first ∙ ap not (c.loop-value.invariant.numbered item.1))));
      numbered = λ z. numbers_more number values i (numbered_view item) z (contains int_cmp c.loop-value.numbers z) (contains int_cmp c.add_number.new.numbers z) at (c.in_ok-is_first.ensures.seen z) (c.loop-value.invariant.numbered z);
    }
