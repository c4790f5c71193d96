use Rattle.std.proofs.Common.{◌≡◌}
use Rattle.pb_value.specs.View.{body_view}
use Rattle.pb_test_types.specs.Words.{nested}
use Rattle.pb_test_types.proofs.values.nest.Given as goal

abbrev pub invariant-loop : goal.invariant-loop
invariant-loop l = body_view l.body ≡ nested l.counter (body_view l.initial.body)
