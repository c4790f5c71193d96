use Rattle.std.proofs.Common.{ℕ, map}
use Rattle.pb_declarations.specs.Decls.{DeclaredField}
use Rattle.pb_declarations.specs.View.{field_view, message_view}
use Rattle.pb_link_names.specs.Declarations.{Declaration, a_field, head_of}
use Rattle.pb_link_names.specs.View.{declaration_view}
use Rattle.pb_link_names.proofs.RowLemmas.{grown}
use Rattle.pb_link_names.specs.declared.marks.Marks.{Marks}
use Rattle.pb_link_names.specs.Marks.{marks_of}
use Rattle.pb_link_names.proofs.MarkLemmas.{below_marks, marks_at}
use Rattle.pb_link_names.proofs.declared.add_fields.Goals as goal

pub loop-index-preserved : goal.loop-index-preserved
loop-index-preserved c =
    let f : ℕ × DeclaredField → Declaration = λ e. record { file = c.args.parent.file; parent = c.args.parent.index; scope = c.args.parent.scope.now; item = a_field (head_of (message_view c.args.message.now)) e.0 e.1 } in
    grown f field_view c.args.fields.now c.loop-index.index c.index-fields-index.result (map declaration_view c.args.row.now.items) (map declaration_view c.loop-index.row.items) (map declaration_view c.add.new.row.items) c.loop-index-test.true c.index-fields-index.is c.loop-index.invariant c.in_ok-add.ensures

pub bounds-marks-index : goal.bounds-marks-index
bounds-marks-index c =
    let f : ℕ × (DeclaredField) → Marks = λ e. marks_of (a_field (head_of (message_view c.args.message.now)) e.0 e.1) in
    below_marks f field_view c.args.fields.now c.args.marks.now c.loop-index.index c.requires c.loop-index-test.true

pub add-requires-clause-marked : goal.add-requires-clause-marked
add-requires-clause-marked c =
    let f : ℕ × (DeclaredField) → Marks = λ e. marks_of (a_field (head_of (message_view c.args.message.now)) e.0 e.1) in
    marks_at f field_view c.args.fields.now c.args.marks.now c.loop-index.index c.index-fields-index.result _ c.requires c.loop-index-test.true c.index-fields-index.is
