use Rattle.std.proofs.Common.{◌≡◌, length, map, take}
use Rattle.pb_link_rules.specs.Rules.{World, lookups}
use Rattle.pb_link_names.specs.View.{declaration_view, type_names_view}
use Rattle.pb_link_rules.proofs.UseLemmas.{SumsSoFar}
use Rattle.pb_link_rules.proofs.rules.uses.users_of.Given as goal

abbrev pub invariant-loop-place : goal.invariant-loop-place
invariant-loop-place l =
    (length l.users.items ≡ length l.row) × ((w : World) → w.declared ≡ map declaration_view l.row → map type_names_view l.found ≡ map (lookups w) w.declared → SumsSoFar w (map declaration_view l.row) (map declaration_view (take l.place l.row)) l.users.items)
