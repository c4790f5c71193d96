use Rattle.std.proofs.Common.{ℕ, ℤ, List, map}
use Rattle.pb_declarations.specs.View.{enum_view, numbered_view}
use Rattle.pb_link_names.specs.Declarations.{Declaration, a_value}
use Rattle.pb_link_names.specs.View.{declaration_view}
use Rattle.pb_link_names.proofs.RowLemmas.{grown}
use Rattle.pb_link_names.specs.declared.marks.Marks.{Marks}
use Rattle.pb_link_names.specs.Marks.{marks_of}
use Rattle.pb_link_names.proofs.MarkLemmas.{below_marks, marks_at}
use Rattle.pb_link_names.proofs.declared.add_values.Goals as goal

pub loop-index-preserved : goal.loop-index-preserved
loop-index-preserved c =
    let f : ℕ × (List ℕ × ℤ) → Declaration = λ e. record { file = c.args.parent.file; parent = c.args.parent.index; scope = c.args.parent.scope.now; item = a_value (enum_view c.args.entry.now) e.0 e.1 } in
    grown f numbered_view c.args.values.now c.loop-index.index c.index-values-index.result (map declaration_view c.args.row.now.items) (map declaration_view c.loop-index.row.items) (map declaration_view c.add.new.row.items) c.loop-index-test.true c.index-values-index.is c.loop-index.invariant c.in_ok-add.ensures

pub bounds-marks-index : goal.bounds-marks-index
bounds-marks-index c =
    let f : ℕ × (List ℕ × ℤ) → Marks = λ e. marks_of (a_value (enum_view c.args.entry.now) e.0 e.1) in
    below_marks f numbered_view c.args.values.now c.args.marks.now c.loop-index.index c.requires c.loop-index-test.true

pub add-requires-clause-marked : goal.add-requires-clause-marked
add-requires-clause-marked c =
    let f : ℕ × (List ℕ × ℤ) → Marks = λ e. marks_of (a_value (enum_view c.args.entry.now) e.0 e.1) in
    marks_at f numbered_view c.args.values.now c.args.marks.now c.loop-index.index c.index-values-index.result _ c.requires c.loop-index-test.true c.index-values-index.is
