use Rattle.std.proofs.Common.{ℕ, ℤ, map, ◌++◌, ◌∷◌, [], not, ap, ◌∙◌}
use Rattle.std.specs.Ordering.{int_cmp}
use Rattle.std.specs.BTreeSet.{contains}
use Rattle.pb_declarations.specs.Decls.{DeclaredField}
use Rattle.pb_declarations.specs.View.{field_view, message_view}
use Rattle.pb_link_names.specs.Declarations.{a_field, head_of}
use Rattle.pb_link_names.specs.declared.marks.Marks.{Marks}
use Rattle.pb_link_names.specs.Marks.{marks_of}
use Rattle.pb_link_names.proofs.RowLemmas.{grown}
use Rattle.pb_link_names.proofs.MarkLemmas.{view_there, numbers_more, all_marked}
use Rattle.pb_link_names.proofs.ViewLemmas.{fields_of-view}
use Rattle.pb_link_names.proofs.marks.field_marks.Goals as goal

pub loop-field-preserved : goal.loop-field-preserved
loop-field-preserved c =
    let head = head_of (message_view c.args.message.now) in
    let f : ℕ × DeclaredField → Marks = λ e. marks_of (a_field head e.0 e.1) in
    let number : DeclaredField → ℤ = λ g. g.number in
    let items = c.deref-field-items.result.now in
    let i = c.loop-field.field-index in
    let item = c.field-item.result in
    let at = view_there field_view items head.fields i item (ap (map field_view) c.deref-field-items.ensures.value ∙ fields_of-view c.args.message.now) c.loop-field-test.true c.field-item.is in
    record {
      marked = grown f field_view items i item [] c.loop-field.marks.items c.push.new.self.items c.loop-field-test.true c.field-item.is c.loop-field.invariant.marked (c.in_ok-push.ensures.items ∙ ap (λ m. c.loop-field.marks.items ++ m ∷ []) (c.field_mark.ensures head i c.requires c.in_ok-oneofs.ensures (c.in_ok-is_first.ensures.first ∙ ap not (c.loop-field.invariant.numbered item.number))));
      numbered = λ z. numbers_more number head.fields i (field_view item) z (contains int_cmp c.loop-field.numbers z) (contains int_cmp c.add_number.new.numbers z) at (c.in_ok-is_first.ensures.seen z) (c.loop-field.invariant.numbered z);
    }

pub returns : goal.returns
returns c =
    let head = head_of (message_view c.args.message.now) in
    let f : ℕ × DeclaredField → Marks = λ e. marks_of (a_field head e.0 e.1) in
    all_marked f field_view c.deref-field-items.result.now head.fields c.loop-field.field-index c.loop-field.marks.items c.loop-field.invariant.marked c.loop-field-test.false (ap (map field_view) c.deref-field-items.ensures.value ∙ fields_of-view c.args.message.now)
