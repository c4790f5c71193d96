use Rattle.std.proofs.Common.{◌≡◌, ◌+◌, ◌≤◌, ℕ, List, length}
use Rattle.std.specs.Prelude.{filter, ◌==◌}
use Rattle.pb_wire.specs.declared.iter.Payload.{Payload}
use Rattle.pb_wire.proofs.RecordIterRuns.{given_ok}
use Rattle.pb_validate.proofs.refusal.step_after.Given as goal

abbrev pub invariant-loop-item : goal.invariant-loop-item
invariant-loop-item l =
    goal.iterator-loop-item.can_next l.item-iterator × goal.iterator-loop-item.is_finite l.item-iterator
    × (l.occurrence + goal.iterator-loop-item.remaining l.item-iterator ≤ goal.iterator-loop-item.remaining l.initial.item-iterator)
    × (ys : List (ℕ × Payload)) × (l.yielded ≡ given_ok ys) × (l.occurrence ≡ length (filter (λ y. y.0 == l.number) ys))
