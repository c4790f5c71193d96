use Rattle.std.proofs.Common.{◌≡◌, arith, length}
use Rattle.std.specs.Prelude.{◌==◌, true, false}
use Rattle.pb_value.proofs.PartViews.{values_view-push}
use Rattle.pb_test_types.proofs.contents.with_element.Goals.{then-not-is_empty+in_ok-value_of+in_ok-push, else-not-is_empty}
use Rattle.pb_test_types.proofs.contents.with_element.Goals as goal

pub returns-clause-value : goal.returns-clause-value
returns-clause-value c =
    elim c.if-not-is_empty.branch [
      | then-not-is_empty+in_ok-value_of+in_ok-push w ↦
          let some : (length c.args.word.now == 0) ≡ false = grind arith in
          rw (w.values-is, some, w.in_ok-value_of.ensures.value, w.in_ok-push.ensures.items, values_view-push)
      | else-not-is_empty w ↦
          let none : (length c.args.word.now == 0) ≡ true = grind arith in
          rw (w.values-is, none)
    ]
