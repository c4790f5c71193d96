use Rattle.std.proofs.Common.{◌≡◌, drop}
use Rattle.pb_value.specs.WellFormed.{datums_declared}
use Rattle.pb_value.specs.View.{values_view}
use Rattle.pb_value.proofs.judge.declared.are_declared.Given as goal

abbrev pub invariant-loop-value : goal.invariant-loop-value
invariant-loop-value l =
    datums_declared l.pool l.kind (values_view l.values.items) ≡ datums_declared l.pool l.kind (values_view (drop l.value-index l.values.items))
