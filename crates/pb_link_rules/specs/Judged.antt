-- Files that were judged, where no rule fails.
use Rattle.std.specs.Prelude.{◌≡◌, List, map}
use Rattle.pb_declarations.specs.Decls.{DeclaredFile}
use Rattle.pb_link_rules.specs.declared.judged.Judged.{Judged}
use Rattle.pb_link_names.specs.View.{declaration_view}
use Rattle.pb_link_names.specs.Graphs.{AreImports}
use Rattle.pb_link_rules.specs.Rules.{World}
use Rattle.pb_link_rules.specs.Link.{IsWorldOf, NothingFails}
use Rattle.pb_link_rules.specs.Tables.{AreNamesOf}

-- every rule holds of these files; the row is all that they declare, the imports are theirs, and the names are what theirs come to
pub record IsJudged (files : List DeclaredFile) (j : Judged) : Type 0 where
  pub world : World
  pub is_world : IsWorldOf files world
  pub holds : NothingFails world
  pub row : map declaration_view j.row.items ≡ world.declared
  pub imports : AreImports files j.imports
  pub names : AreNamesOf world j.names
