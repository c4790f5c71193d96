use Rattle.pb_link_names.specs.Components.{Fits}
use Rattle.pb_link_names.proofs.components.component_numbers.Given as goal

abbrev pub invariant-loop-index : goal.invariant-loop-index
invariant-loop-index l = Fits l.walk
