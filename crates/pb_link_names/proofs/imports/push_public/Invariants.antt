use Rattle.std.proofs.Common.{take}
use Rattle.std.specs.Prelude.{filter_map}
use Rattle.pb_link_names.specs.Graphs.{target_at}
use Rattle.pb_graphs.specs.Flat.{Grows}
use Rattle.pb_link_names.proofs.imports.push_public.Given as goal

abbrev pub invariant-loop-at : goal.invariant-loop-at
invariant-loop-at l = Grows (filter_map (target_at l.targets) (take l.at-index l.public)) l.initial.graph l.graph
