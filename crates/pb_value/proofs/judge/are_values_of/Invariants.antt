use Rattle.std.proofs.Common.{◌≡◌, drop}
use Rattle.pb_value.specs.Judge.{are_values_of}
use Rattle.pb_value.specs.View.{values_view}
use Rattle.pb_value.proofs.judge.are_values_of.Given as goal

abbrev pub invariant-loop-value : goal.invariant-loop-value
invariant-loop-value l =
    are_values_of l.kind (values_view l.values.items) ≡ are_values_of l.kind (values_view (drop l.value-index l.values.items))
