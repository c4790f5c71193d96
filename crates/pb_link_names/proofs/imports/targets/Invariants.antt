use Rattle.std.proofs.Common.{◌≡◌, map, take}
use Rattle.std.specs.Prelude.{string_bytes}
use Rattle.pb_link_names.specs.Firsts.{first_at}
use Rattle.pb_link_names.proofs.imports.targets.Given as goal

abbrev pub invariant-loop-name : goal.invariant-loop-name
invariant-loop-name l = l.targets.items ≡ map (first_at l.firsts) (map string_bytes (take l.name-index l.names))
