use Rattle.std.proofs.Common.{◌≡◌, List, length, map, vec_len}
use Rattle.pb_declarations.specs.Decls.{DeclaredFile}
use Rattle.pb_link_rules.specs.Rules.{World}
use Rattle.pb_link_rules.specs.Link.{IsWorldOf}
use Rattle.pb_graphs.specs.Flat.{lists_of}
use Rattle.pb_graphs.specs.Reach.{IsListed}
use Rattle.pb_link_names.specs.Graphs.{AreImports}
use Rattle.pb_link_names.specs.View.{declaration_view}
use Rattle.pb_link_rules.proofs.TableLemmas.{IsHeldBefore}
use Rattle.pb_link_rules.proofs.cycles.find_cycle.Given as goal

abbrev pub invariant-loop-place : goal.invariant-loop-place
invariant-loop-place l =
    IsListed l.reach × (vec_len l.reach.bits ≡ length (lists_of l.imports.all)) × ((files : List DeclaredFile) (w : World) → AreImports files l.imports → IsWorldOf files w → w.declared ≡ map declaration_view l.row → IsHeldBefore w l.place)
