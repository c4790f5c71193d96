use Rattle.std.proofs.Common.{◌≡◌, ℕ, List}
use Rattle.std.specs.Prelude.{map}
use Rattle.pb_wire.specs.declared.iter.Payload.{Payload}
use Rattle.pb_wire.proofs.RecordIterRuns.{given_ok}
use Rattle.pb_wire_tests.proofs.caller.numbers.Given as goal

abbrev pub invariant-loop-item : goal.invariant-loop-item
invariant-loop-item l =
    goal.iterator-loop-item.can_next l.item-iterator × goal.iterator-loop-item.is_finite l.item-iterator
    × (ys : List (ℕ × Payload)) × (l.yielded ≡ given_ok ys) × (l.numbers.items ≡ map (λ y. y.0) ys)
