use Rattle.std.proofs.Common.{◌-◌, ◌+◌, ◌≤◌, ℕ, List, Some, length}
use Rattle.pb_wire.specs.Fault.{Moves}
use Rattle.pb_wire.specs.Sound.{AreElements}
use Rattle.pb_wire.specs.Scan.{here}
use Rattle.pb_validate.specs.Contexts.{element_view}
use Rattle.pb_validate.proofs.payload.elements_end.Given as goal

abbrev pub invariant-loop-at : goal.invariant-loop-at
invariant-loop-at l =
    (l.at ≤ length l.bytes) × (front : List ℕ) × AreElements (element_view l.element) front
    × Moves (here l.bytes l.start (Some (l.start + l.size))) front (here l.bytes l.at (Some (l.start + l.size)))

abbrev pub decreases-loop-at : goal.decreases-loop-at
decreases-loop-at l = l.start + l.size - l.at
