use Rattle.std.proofs.Common.{◌≡◌, map, take}
use Rattle.std.specs.List.{enumerate_from}
use Rattle.pb_link_names.specs.View.{declaration_view}
use Rattle.pb_link_rules.specs.Flags.{is_free_name}
use Rattle.pb_link_rules.proofs.flags.free_names.Given as goal

abbrev pub invariant-loop-place : goal.invariant-loop-place
invariant-loop-place l = l.flags.items ≡ map (is_free_name (map declaration_view l.row)) (enumerate_from 0 (map declaration_view (take l.place l.row)))
