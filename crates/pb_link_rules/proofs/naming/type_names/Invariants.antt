use Rattle.std.proofs.Common.{◌≡◌, map, take}
use Rattle.pb_declarations.specs.View.{file_view}
use Rattle.pb_link_rules.specs.Rules.{World, lookups}
use Rattle.pb_link_rules.specs.Link.{IsWorldOf}
use Rattle.pb_link_names.specs.View.{declaration_view, type_names_view}
use Rattle.pb_link_rules.specs.Flags.{IsReady}
use Rattle.pb_link_rules.proofs.naming.type_names.Given as goal

abbrev pub invariant-loop-declaration : goal.invariant-loop-declaration
invariant-loop-declaration l =
    IsReady (map file_view l.files) l.imports l.scene × ((w : World) → IsWorldOf (map file_view l.files) w → map type_names_view l.found.items ≡ map (lookups w) (map declaration_view (take l.declaration-index l.row)))
