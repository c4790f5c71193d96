use Rattle.std.proofs.Common.{◌≡◌, ◌+◌, length}
use Rattle.pb_link_names.specs.Components.{Fits}
use Rattle.pb_link_names.proofs.components.Walk.enter.Given as goal

abbrev pub invariant-loop-next : goal.invariant-loop-next
invariant-loop-next l =
    Fits l.self × (l.self.progress.items ≡ l.initial.self.progress.items) × (length l.self.steps.items ≡ length l.initial.self.steps.items + l.next-index)
