use Rattle.std.proofs.Common.{map, take}
use Rattle.std.specs.Prelude.{filter_map, string_bytes}
use Rattle.pb_link_names.specs.Firsts.{first_at}
use Rattle.pb_graphs.specs.Flat.{Grows}
use Rattle.pb_link_names.proofs.imports.push_named.Given as goal

abbrev pub invariant-loop-name : goal.invariant-loop-name
invariant-loop-name l = Grows (filter_map (first_at l.firsts) (map string_bytes (take l.name-index l.names))) l.initial.graph l.graph
