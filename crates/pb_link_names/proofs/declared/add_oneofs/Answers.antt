use Rattle.std.proofs.Common.{ℕ, List, map, string_bytes}
use Rattle.pb_declarations.specs.View.{message_view}
use Rattle.pb_link_names.specs.Declarations.{Declaration, a_oneof, head_of}
use Rattle.pb_link_names.specs.View.{declaration_view}
use Rattle.pb_link_names.proofs.RowLemmas.{grown}
use Rattle.pb_link_names.specs.declared.marks.Marks.{Marks}
use Rattle.pb_link_names.specs.Marks.{marks_of}
use Rattle.pb_link_names.proofs.MarkLemmas.{below_marks, marks_at}
use Rattle.pb_link_names.proofs.declared.add_oneofs.Goals as goal

pub loop-index-preserved : goal.loop-index-preserved
loop-index-preserved c =
    let f : ℕ × List ℕ → Declaration = λ e. record { file = c.args.parent.file; parent = c.args.parent.index; scope = c.args.parent.scope.now; item = a_oneof (head_of (message_view c.args.message.now)) e.0 e.1 } in
    grown f string_bytes c.args.oneofs.now c.loop-index.index c.index-oneofs-index.result (map declaration_view c.args.row.now.items) (map declaration_view c.loop-index.row.items) (map declaration_view c.add.new.row.items) c.loop-index-test.true c.index-oneofs-index.is c.loop-index.invariant c.in_ok-add.ensures

pub bounds-marks-index : goal.bounds-marks-index
bounds-marks-index c =
    let f : ℕ × (List ℕ) → Marks = λ e. marks_of (a_oneof (head_of (message_view c.args.message.now)) e.0 e.1) in
    below_marks f string_bytes c.args.oneofs.now c.args.marks.now c.loop-index.index c.requires c.loop-index-test.true

pub add-requires-clause-marked : goal.add-requires-clause-marked
add-requires-clause-marked c =
    let f : ℕ × (List ℕ) → Marks = λ e. marks_of (a_oneof (head_of (message_view c.args.message.now)) e.0 e.1) in
    marks_at f string_bytes c.args.oneofs.now c.args.marks.now c.loop-index.index c.index-oneofs-index.result _ c.requires c.loop-index-test.true c.index-oneofs-index.is
