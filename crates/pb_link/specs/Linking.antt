-- What linking answers: the types that files make where every rule holds.
use Rattle.std.specs.Prelude.{◌≡◌, List, map}
use Rattle.pb_schema.specs.Types.{Types}
use Rattle.pb_declarations.specs.Decls.{DeclaredFile}
use Rattle.pb_link_names.specs.Declarations.{Declaration}
use Rattle.pb_link_names.specs.Lookup.{Found}
use Rattle.pb_link_rules.specs.Rules.{World, lookups}
use Rattle.pb_link_rules.specs.Link.{IsWorldOf, NothingFails}
use Rattle.pb_link.specs.PoolOf.{pool_of}

-- in the world of these files nothing fails; they declare this row, and this is what its type names came to
pub record IsLinked (files : List DeclaredFile) (ds : List Declaration) (names : List (List Found)) (w : World) : Type 0 where
  pub is_world : IsWorldOf files w
  pub holds : NothingFails w
  pub row : w.declared ≡ ds
  pub found : names ≡ map (lookups w) w.declared

-- every rule holds of the files, and they make these types
pub record Links (files : List DeclaredFile) (types : Types) : Type 0 where
  pub world : World
  pub is_world : IsWorldOf files world
  pub holds : NothingFails world
  pub made : types ≡ pool_of files world
