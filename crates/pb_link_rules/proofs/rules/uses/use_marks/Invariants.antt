use Rattle.std.proofs.Common.{◌≡◌, map, take}
use Rattle.std.specs.List.{enumerate_from}
use Rattle.pb_link_rules.specs.Rules.{World, lookups, has_one_use}
use Rattle.pb_link_names.specs.View.{declaration_view, type_names_view}
use Rattle.pb_link_rules.proofs.rules.uses.use_marks.Given as goal

abbrev pub invariant-loop-place : goal.invariant-loop-place
invariant-loop-place l =
    (w : World) → w.declared ≡ map declaration_view l.row → map type_names_view l.found ≡ map (lookups w) w.declared → l.marks.items ≡ map (λ e. has_one_use w e.0 e.1) (enumerate_from 0 (map declaration_view (take l.place l.row)))
