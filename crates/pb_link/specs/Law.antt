-- What linking promises: where every rule holds, the types that the declarations make are a pool.
use Rattle.pb_schema.specs.Rules.{IsPool}
use Rattle.pb_declarations.specs.Decls.{DeclaredFile}
use Rattle.pb_link_rules.specs.Rules.{World}
use Rattle.pb_link_rules.specs.Link.{IsWorldOf, NothingFails}
use Rattle.pb_link.specs.PoolOf.{pool_of}
use Rattle.std.specs.Prelude.{List}

abbrev pub LinkedIsPool : Type 0
LinkedIsPool = (files : List DeclaredFile) (w : World) → IsWorldOf files w → NothingFails w → IsPool (pool_of files w)
