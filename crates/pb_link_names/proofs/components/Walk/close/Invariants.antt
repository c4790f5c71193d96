use Rattle.std.proofs.Common.{ℕ, List, ◌≤◌, vec_len}
use Rattle.pb_link_names.specs.Components.{Fits, work_left}
use Rattle.pb_link_names.proofs.components.Walk.close.Given as goal

abbrev pub invariant-loop-index : goal.invariant-loop-index
invariant-loop-index l = Fits l.self × ((graph : List (List ℕ)) → work_left graph l.self ≤ work_left graph l.initial.self)

abbrev pub decreases-loop-index : goal.decreases-loop-index
decreases-loop-index l = vec_len l.self.opened
