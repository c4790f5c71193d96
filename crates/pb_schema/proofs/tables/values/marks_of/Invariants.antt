use Rattle.std.proofs.Common.{◌≡◌, length}
use Rattle.pb_schema.specs.View.{values_view}
use Rattle.pb_schema.specs.Tables.{AreMarksOf}
use Rattle.pb_schema.proofs.tables.values.marks_of.Given as goal

abbrev pub invariant-loop-value : goal.invariant-loop-value
invariant-loop-value l = record {
  marks : AreMarksOf (values_view l.values) l.least l.marks.items;
  count : length l.marks.items ≡ l.count;
}
