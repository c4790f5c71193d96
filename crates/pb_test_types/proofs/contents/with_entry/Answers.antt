use Rattle.std.proofs.Common.{◌≡◌, arith, length}
use Rattle.std.specs.Prelude.{◌==◌, true, false}
use Rattle.pb_test_types.proofs.EntryLemmas.{put_under_view}
use Rattle.pb_test_types.proofs.contents.with_entry.Goals.{then-not-is_empty+in_ok-key+in_ok-key-2+in_ok-value_of+in_ok-insert, else-not-is_empty}
use Rattle.pb_test_types.proofs.contents.with_entry.Goals as goal

pub returns-clause-value : goal.returns-clause-value
returns-clause-value c =
    elim c.if-not-is_empty.branch [
      | then-not-is_empty+in_ok-key+in_ok-key-2+in_ok-value_of+in_ok-insert w ↦
          let some : (length c.args.word.now == 0) ≡ false = grind arith in
          rw (w.entries-is, some, w.in_ok-key.ensures.value, w.in_ok-key-2.ensures.value, w.in_ok-value_of.ensures.value, w.in_ok-insert.ensures.entries, put_under_view)
      | else-not-is_empty w ↦
          let none : (length c.args.word.now == 0) ≡ true = grind arith in
          rw (w.entries-is, none)
    ]
