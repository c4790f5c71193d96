use Rattle.std.proofs.Common.{take}
use Rattle.std.specs.Prelude.{filter_map}
use Rattle.pb_graphs.specs.Flat.{Grows}
use Rattle.pb_link_names.proofs.imports.push_all.Given as goal

abbrev pub invariant-loop-index : goal.invariant-loop-index
invariant-loop-index l = Grows (filter_map (λ o. o) (take l.index l.targets)) l.initial.graph l.graph
