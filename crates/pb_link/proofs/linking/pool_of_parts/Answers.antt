use Rattle.std.proofs.Common.{map, sym, subst}
use Rattle.pb_schema.specs.Rules.{IsPool}
use Rattle.pb_declarations.specs.View.{file_view}
use Rattle.pb_link.proofs.PoolLemmas.{linked_pool}
use Rattle.pb_link.proofs.linking.pool_of_parts.Goals as goal

pub from_known_parts-requires : goal.from_known_parts-requires
from_known_parts-requires c =
    let h = c.requires in
    subst IsPool (sym h.made) (linked_pool (map file_view c.args.files.now) h.world h.is_world h.holds)
