use Rattle.std.proofs.Common.{◌≡◌, ◌++◌, ◌≤◌, map, drop}
use Rattle.pb_link_names.specs.View.{declaration_view}
use Rattle.pb_declarations.specs.View.{file_view}
use Rattle.pb_link.specs.Pools.{kinds_from}
use Rattle.pb_link.proofs.pools.tables.kinds.Given as goal

abbrev pub invariant-loop-place : goal.invariant-loop-place
invariant-loop-place l = (l.kinds.items ++ kinds_from (map file_view l.files) l.messages l.enums (map declaration_view (drop l.place l.row)) ≡ kinds_from (map file_view l.files) 0 0 (map declaration_view l.row)) × (l.messages ≤ l.place) × (l.enums ≤ l.place)
