use Rattle.std.proofs.Common.{◌≡◌, List, map, take}
use Rattle.std.specs.List.{enumerate_from}
use Rattle.pb_declarations.specs.Decls.{DeclaredFile}
use Rattle.pb_link_rules.specs.declared.cause.LinkCause.TheVariants as cause
use Rattle.pb_link_rules.specs.Rules.{World, lookups}
use Rattle.pb_link_rules.specs.Link.{holds, IsWorldOf}
use Rattle.pb_link_names.specs.View.{declaration_view, type_names_view}
use Rattle.pb_link_rules.proofs.rules.maps.map_marks.Given as goal

abbrev pub invariant-loop-place : goal.invariant-loop-place
invariant-loop-place l =
    (files : List DeclaredFile) (w : World) → IsWorldOf files w → w.declared ≡ map declaration_view l.row → map type_names_view l.found ≡ map (lookups w) w.declared → l.marks.items ≡ map (λ e. holds w e.0 e.1 cause.BadMap) (enumerate_from 0 (map declaration_view (take l.place l.row)))
