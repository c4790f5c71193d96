use Rattle.std.proofs.Common.{◌≡◌}
use Rattle.pb_value.specs.Judge.{are_entries_of}
use Rattle.pb_value.specs.View.{entries_view}
use Rattle.pb_value.proofs.judge.are_entries_of.Given as goal

abbrev pub invariant-loop-key : goal.invariant-loop-key
invariant-loop-key l =
    are_entries_of l.shape l.kind (entries_view l.entries.entries) ≡ are_entries_of l.shape l.kind (entries_view l.key-iterator)
