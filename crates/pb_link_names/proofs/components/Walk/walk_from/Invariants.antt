use Rattle.pb_graphs.specs.Flat.{lists_of}
use Rattle.pb_link_names.specs.Components.{Fits, work_left}
use Rattle.pb_link_names.proofs.components.Walk.walk_from.Given as goal

abbrev pub invariant-loop-step : goal.invariant-loop-step
invariant-loop-step l = Fits l.self

abbrev pub decreases-loop-step : goal.decreases-loop-step
decreases-loop-step l = work_left (lists_of l.graph) l.self
