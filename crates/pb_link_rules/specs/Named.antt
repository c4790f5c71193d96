-- Files whose type names were looked up, whether or not a rule fails.
use Rattle.std.specs.Prelude.{◌≡◌, List, map}
use Rattle.pb_declarations.specs.Decls.{DeclaredFile}
use Rattle.pb_link_rules.specs.declared.named.Named.{Named}
use Rattle.pb_link_names.specs.View.{declaration_view, type_names_view}
use Rattle.pb_link_rules.specs.Rules.{World, lookups}
use Rattle.pb_link_rules.specs.Link.{IsWorldOf}

-- the row is all that these files declare, and this is what its type names come to
pub record IsNamed (files : List DeclaredFile) (n : Named) : Type 0 where
  pub world : World
  pub is_world : IsWorldOf files world
  pub row : map declaration_view n.row.items ≡ world.declared
  pub found : map type_names_view n.found.items ≡ map (lookups world) world.declared
